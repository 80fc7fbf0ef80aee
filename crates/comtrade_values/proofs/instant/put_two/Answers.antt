use Rattle.std.proofs.Common.{arith}
use Rattle.std.proofs.lemmas.Grind.{common_steps}
use Rattle.comtrade_values.proofs.Digits.{padded_two}
use Rattle.comtrade_values.proofs.instant.put_two.Goals as goal

pub returns : goal.returns
returns g c = grind (arith, common_steps, padded_two)
