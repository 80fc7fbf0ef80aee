use Rattle.comtrade_io.proofs.command_line.commands.plot.Goals as goal

pub returns : goal.returns
returns c = c.with_output.ensures _ (c.in_ok-picture.ensures _ c.in_ok-part.ensures)
