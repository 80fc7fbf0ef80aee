use Rattle.comtrade_values.proofs.writing.put_zeros.Given as goal
use Rattle.std.proofs.Common.{◌≡◌, ◌∷◌, [], ◌++◌}
use Rattle.std.specs.List.{repeat}

abbrev pub invariant-loop : goal.invariant-loop
invariant-loop g l = l.out.items ≡ l.initial.out.items ++ repeat l.counter (48 ∷ [])
