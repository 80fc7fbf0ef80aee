use Rattle.std.proofs.Common.{◌≡◌, ◌-◌}
use Rattle.dfr_bus.specs.Bytes.{number_from}
use Rattle.dfr_bus.proofs.ber.number.Given as goal

-- what is left completes the number
abbrev pub invariant-loop-i : goal.invariant-loop-i
invariant-loop-i l = number_from l.value l.bytes l.i (l.to - l.i) ≡ number_from 0 l.bytes l.from (l.to - l.from)
