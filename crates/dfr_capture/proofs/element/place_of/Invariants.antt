use Rattle.std.proofs.Common.{◌≡◌, ◌≤◌}
use Rattle.std.specs.Prelude.{IfSome}
use Rattle.dfr_capture.specs.Elements.{place_of}
use Rattle.dfr_capture.proofs.element.place_of.Given as goal

abbrev pub invariant-loop-i : goal.invariant-loop-i
invariant-loop-i l = record {
  value : l.at ≡ place_of l.bytes l.from l.end l._i;
  inside : IfSome l.at (λ at. at ≤ l.end);
}
