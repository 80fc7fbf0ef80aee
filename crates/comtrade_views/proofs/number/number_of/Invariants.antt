use Rattle.std.proofs.Common.{◌*◌, ◌^◌, ◌≤◌}
use Rattle.comtrade_views.proofs.number.number_of.Given as goal

-- each digit that was dropped stands for a factor of ten
abbrev pub invariant-loop-dropped : goal.invariant-loop-dropped
invariant-loop-dropped l = l.size * 10 ^ l.dropped ≤ 2 ^ 127
