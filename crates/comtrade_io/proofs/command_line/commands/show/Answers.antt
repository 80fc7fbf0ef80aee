use Rattle.comtrade_io.proofs.command_line.commands.show.Goals as goal

pub returns : goal.returns
returns c = c.with_output.ensures _ (c.in_ok-json.ensures _ c.in_ok-over_part.ensures)
