use Rattle.comtrade_io.proofs.command_line.commands.compare.Goals as goal

pub returns : goal.returns
returns c = c.with_output.ensures _ (c.in_ok-picture.ensures _ (c.in_ok-part.ensures _ c.in_ok-compare_names.ensures))
