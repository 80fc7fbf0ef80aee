use Rattle.std.proofs.Common.{append_assoc, rules}
use Rattle.std.proofs.lemmas.Result.{IfOk-equal}
use Rattle.comtrade_values.proofs.Digits.{padded_six}
use Rattle.comtrade_values.proofs.instant.put_six.Goals as goal

pub returns : goal.returns
returns g c = search (rules, IfOk-equal, append_assoc, padded_six)
