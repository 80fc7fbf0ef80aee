use Rattle.std.proofs.Common.{◌≡◌, ℕ, ◌<◌}
use Rattle.std.specs.Prelude.{Some, slice_get}
use Rattle.comtrade_diagnostics.specs.Parts.{SaidParts}
use Rattle.comtrade_diagnostics.specs.Told as spec
use Rattle.comtrade_diagnostics.proofs.covers.is_told.Given as goal

abbrev pub invariant-loop-note : goal.invariant-loop-note
invariant-loop-note g l = (i : ℕ) (note : SaidParts) → i < l.note-index → slice_get l.notes i ≡ Some note → spec.Covers l.unfit l.place.0 l.place.1 l.written note → ⊥
