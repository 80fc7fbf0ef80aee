use Rattle.std.proofs.lemmas.Result.{IfOk-weaker}
use Rattle.comtrade_io.proofs.MetCommands.{with_arg}
use Rattle.comtrade_io.proofs.command_line.options.with.Goals as goal

pub returns : goal.returns
returns c = λ a r is_command rule local.
    IfOk-weaker c.arg.result _ _ (λ new h. with_arg a r _ _ _ is_command rule local h) c.arg.ensures
