use Rattle.std.proofs.lemmas.Result.{IfOk-weaker}
use Rattle.comtrade_io.proofs.command_line.commands.convert.Goals as goal

pub returns : goal.returns
returns c =
    let kinded = c.in_ok-kinded.ensures in
    IfOk-weaker c.with_part.result _ _ (λ r h. record { kinds = kinded.kinds; words = kinded.words; command = h })
    (c.with_part.ensures _ kinded.command)
