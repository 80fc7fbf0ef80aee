use Rattle.std.proofs.Common.{◌≡◌, ℕ, ◌<◌, List}
use Rattle.std.specs.Prelude.{Some, slice_get}
use Rattle.comtrade_diagnostics.specs.declared.untold.Sample.{Sample}
use Rattle.comtrade_format.specs.Parts.{RowParts}
use Rattle.comtrade_diagnostics.specs.Told as spec
use Rattle.comtrade_diagnostics.proofs.untold.first_untold.Given as goal

abbrev pub invariant-loop-row : goal.invariant-loop-row
invariant-loop-row g l = (r : ℕ) (xs : List Sample) (row : RowParts) → r < l.row → slice_get l.own r ≡ Some xs → slice_get l.rows r ≡ Some row → spec.IsRowTold l.notes l.unfit r xs row.values
