use Rattle.comtrade_io.proofs.command_line.options.with_picture.Goals as goal

pub returns : goal.returns
returns c = λ a is_command.
    let one = c.in_ok-one.ensures a _ is_command c.flag.ensures.rule c.flag.ensures.local in
    let two = c.in_ok-two.ensures _ _ one c.flag-2.ensures.rule c.flag-2.ensures.local in
    let three = c.in_ok-three.ensures _ _ two c.option.ensures.rule c.option.ensures.local in
    let four = c.in_ok-four.ensures _ _ three c.option-2.ensures.rule c.option-2.ensures.local in
    c.with-5.ensures _ _ four c.flag-3.ensures.rule c.flag-3.ensures.local
