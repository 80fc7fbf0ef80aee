use Rattle.comtrade_io.proofs.command_line.commands.with_cursor.Goals as goal

pub returns : goal.returns
returns c = λ a is_command.
    let one = c.in_ok-one.ensures a _ is_command c.option.ensures.rule c.option.ensures.local in
    let two = c.in_ok-two.ensures _ _ one c.option-2.ensures.rule c.option-2.ensures.local in
    let three = c.in_ok-three.ensures _ _ two c.option-3.ensures.rule c.option-3.ensures.local in
    c.with-4.ensures _ _ three c.option-4.ensures.rule c.option-4.ensures.local
