use Rattle.std.proofs.Common.{◌≡◌, ◌++◌, ◌<◌, All, length}
use Rattle.comtrade_letters.proofs.text.in_utf8.Given as goal

abbrev pub invariant-loop-rest : goal.invariant-loop-rest
invariant-loop-rest g l = All (λ b. b < 128) l.text → (l.made.items ++ l.rest ≡ l.text) × All (λ b. b < 128) l.rest

abbrev pub decreases-loop-rest : goal.decreases-loop-rest
decreases-loop-rest g l = length l.rest
