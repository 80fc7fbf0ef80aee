use Rattle.comtrade_io.proofs.command_line.commands.events.Goals as goal

pub returns : goal.returns
returns c =
    let one = c.in_ok-one.ensures _ _ c.in_ok-over.ensures c.option.ensures.rule c.option.ensures.local in
    c.with-2.ensures _ _ one c.flag.ensures.rule c.flag.ensures.local
