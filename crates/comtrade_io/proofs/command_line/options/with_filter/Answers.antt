use Rattle.comtrade_io.proofs.command_line.options.with_filter.Goals as goal

pub returns : goal.returns
returns c = λ a is_command.
    let one = c.in_ok-one.ensures a _ is_command c.option.ensures.rule c.option.ensures.local in
    let two = c.in_ok-two.ensures _ _ one c.option-2.ensures.rule c.option-2.ensures.local in
    c.with-3.ensures _ _ two c.option-3.ensures.rule c.option-3.ensures.local
