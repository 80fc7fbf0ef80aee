use Rattle.comtrade_io.proofs.command_line.commands.check.Goals as goal

pub returns : goal.returns
returns c = c.with_output.ensures _ (c.in_ok-json.ensures _ c.in_ok-named.ensures)
