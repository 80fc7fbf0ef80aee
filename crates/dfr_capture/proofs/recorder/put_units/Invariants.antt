use Rattle.std.proofs.Common.{List, drop}
use Rattle.dfr_bay.specs.Lines.{Frame}
use Rattle.dfr_capture.specs.Units.{UnitParts}
use Rattle.dfr_capture.specs.Recordings.{Waits}
use Rattle.dfr_capture.proofs.Feeding.{Partly}
use Rattle.dfr_capture.proofs.recorder.put_units.Given as goal

abbrev pub invariant-loop-asdu : goal.invariant-loop-asdu
invariant-loop-asdu g l = (us : List (Frame UnitParts)) → Waits l.plan us l.fn.bay
    → Partly l.plan l.origin (drop l.asdu-index l.asdus) l.asdus us l.fn.feed l.feed l.bay
