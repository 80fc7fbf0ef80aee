use Rattle.std.proofs.Common.{append_assoc, rules}
use Rattle.std.proofs.lemmas.Result.{IfOk-equal}
use Rattle.comtrade_values.proofs.Digits.{padded_four}
use Rattle.comtrade_values.proofs.instant.put_four.Goals as goal

pub returns : goal.returns
returns g c = search (rules, IfOk-equal, append_assoc, padded_four)
