use Rattle.std.proofs.Common.{◌≡◌, ◌≤◌, Bool, [], length}
use Rattle.dfr_station.specs.Input.{frame_size, Cuts}
use Rattle.dfr_station.specs.declared.station.Input.TheVariants as form
use Rattle.dfr_station.proofs.intake.cutter.Cutter.next_counted.Given as goal

abbrev pub invariant-loop-lowest : goal.invariant-loop-lowest
invariant-loop-lowest g l =
    (l.self.form ≡ form.Counted l.fn.lowest) × (l.size ≡ frame_size l.self.layout.now) × (l.size ≤ 1_024) × ((last : Bool) → Cuts last l.initial.self [] l.self)

abbrev pub decreases-loop-lowest : goal.decreases-loop-lowest
decreases-loop-lowest g l = length l.self.buffer
