use Rattle.comtrade_io.proofs.command_line.commands.page.Goals as goal

pub returns : goal.returns
returns c = c.with_output.ensures _ c.in_ok-part.ensures
