use Rattle.std.proofs.Common.{◌≡◌}
use Rattle.dfr_look.specs.Units.{quality_of}
use Rattle.dfr_look.proofs.unit.quality_of.Given as goal

abbrev pub invariant-loop-i : goal.invariant-loop-i
invariant-loop-i l = l.quality ≡ quality_of l.bytes l.unit l.i
