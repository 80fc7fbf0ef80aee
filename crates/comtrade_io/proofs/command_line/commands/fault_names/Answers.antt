use Rattle.comtrade_io.proofs.command_line.commands.fault_names.Goals as goal

pub returns : goal.returns
returns c =
    let one = c.in_ok-one.ensures _ _ c.in_ok-names.ensures c.flag.ensures.rule c.flag.ensures.local in
    c.with-2.ensures _ _ one c.option.ensures.rule c.option.ensures.local
