use Rattle.comtrade_io.proofs.command_line.commands.list.Goals as goal

pub returns : goal.returns
returns c = c.with.ensures _ _ c.in_ok-over.ensures c.option.ensures.rule c.option.ensures.local
