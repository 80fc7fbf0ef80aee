use Rattle.comtrade_io.proofs.command_line.commands.over_parts.Goals as goal

pub returns : goal.returns
returns c = c.with_part.ensures _ c.in_ok-names.ensures
