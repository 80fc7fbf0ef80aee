use Rattle.comtrade_io.proofs.command_line.commands.csv.Goals as goal

pub returns : goal.returns
returns c =
    let one = c.in_ok-one.ensures _ _ c.in_ok-part.ensures c.option.ensures.rule c.option.ensures.local in
    let two = c.in_ok-two.ensures _ _ one c.option-2.ensures.rule c.option-2.ensures.local in
    c.with_output.ensures _ two
