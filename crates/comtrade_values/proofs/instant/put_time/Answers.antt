use Rattle.std.proofs.Common.{append_assoc, rules}
use Rattle.std.proofs.lemmas.Result.{IfOk-equal}
use Rattle.comtrade_values.specs.Dates.{time_text}
use Rattle.comtrade_values.proofs.instant.put_time.Goals as goal

pub returns : goal.returns
unfolding time_text
returns g c = search (rules, IfOk-equal, append_assoc)
