use Rattle.comtrade_io.proofs.command_line.commands.compare_names.Goals as goal

pub returns : goal.returns
returns c =
    let one = c.in_ok-one.ensures _ _ c.command-bare.ensures c.word.ensures.rule c.word.ensures.local in
    let two = c.in_ok-two.ensures _ _ one c.word-2.ensures.rule c.word-2.ensures.local in
    let three = c.in_ok-three.ensures _ _ two c.option.ensures.rule c.option.ensures.local in
    let four = c.in_ok-four.ensures _ _ three c.option-2.ensures.rule c.option-2.ensures.local in
    c.with-5.ensures _ _ four c.option-3.ensures.rule c.option-3.ensures.local
