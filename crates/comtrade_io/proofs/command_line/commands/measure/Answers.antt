use Rattle.comtrade_io.proofs.command_line.commands.measure.Goals as goal

pub returns : goal.returns
returns c = c.with_output.ensures _ (c.in_ok-json.ensures _ (c.in_ok-cursor.ensures _ c.in_ok-part.ensures))
