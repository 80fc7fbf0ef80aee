use Rattle.std.proofs.Common.{◌≡◌, false, [], length}
use Rattle.dfr_station.specs.Input.{Cuts}
use Rattle.dfr_station.specs.declared.station.Input.TheVariants as form
use Rattle.dfr_station.proofs.intake.cutter.Cutter.next_of_lines.Given as goal

abbrev pub invariant-loop-handed : goal.invariant-loop-handed
invariant-loop-handed g l = (l.self.form ≡ form.Lines) × (l.self.is_owed ≡ false) × Cuts l.is_last l.initial.self [] l.self

abbrev pub decreases-loop-handed : goal.decreases-loop-handed
decreases-loop-handed g l = length l.self.buffer
