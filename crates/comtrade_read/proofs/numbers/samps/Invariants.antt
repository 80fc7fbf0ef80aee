use Rattle.std.proofs.Common.{All, take}
use Rattle.comtrade_values.specs.Spelling.{IsNumber}
use Rattle.comtrade_read.proofs.numbers.samps.Given as goal

abbrev pub invariant-loop-rate : goal.invariant-loop-rate
invariant-loop-rate l = All (λ r. IsNumber r.samp) (take l.rate-index l.rates)
