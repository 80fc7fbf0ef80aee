use Rattle.comtrade_io.proofs.command_line.commands.report.Goals as goal

pub returns : goal.returns
returns c = c.with_output.ensures _ (c.in_ok-encoding.ensures _ c.in_ok-named.ensures)
