use Rattle.comtrade_io.proofs.command_line.options.with_output.Goals as goal

pub returns : goal.returns
returns c = λ a is_command. c.with.ensures a _ is_command c.output.ensures.rule c.output.ensures.local
