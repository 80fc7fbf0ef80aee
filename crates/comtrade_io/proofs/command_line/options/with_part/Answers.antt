use Rattle.comtrade_io.proofs.command_line.options.with_part.Goals as goal

pub returns : goal.returns
returns c = λ a is_command.
    let one = c.in_ok-one.ensures a _ is_command c.option.ensures.rule c.option.ensures.local in
    let two = c.in_ok-two.ensures _ _ one c.option-2.ensures.rule c.option-2.ensures.local in
    let three = c.in_ok-three.ensures _ _ two c.option-3.ensures.rule c.option-3.ensures.local in
    let four = c.in_ok-four.ensures _ _ three c.flag.ensures.rule c.flag.ensures.local in
    let five = c.in_ok-five.ensures _ _ four c.flag-2.ensures.rule c.flag-2.ensures.local in
    let six = c.in_ok-six.ensures _ _ five c.flag-3.ensures.rule c.flag-3.ensures.local in
    let seven = c.in_ok-seven.ensures _ _ six c.flag-4.ensures.rule c.flag-4.ensures.local in
    c.with_encoding.ensures _ seven
