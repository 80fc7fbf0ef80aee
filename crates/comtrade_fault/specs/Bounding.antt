-- What a difference between cycles must exceed to be a departure.
use Rattle.std.specs.Prelude.{ℕ, ◌*◌, max, Bool, ◌&&◌, nat_lt, List, length}
use Rattle.comtrade_fault.specs.Levels.{most_over}
use Rattle.comtrade_fault.specs.declared.scan.Scan.{Scan}
use Rattle.comtrade_fault.specs.declared.scan.Weights.{Weights}
use Rattle.comtrade_fault.specs.declared.scan.Signal.TheVariants.{A, B, C}
use Rattle.comtrade_fault.specs.declared.form.Form.TheVariants.{Size}
use Rattle.comtrade_fault.specs.declared.bounds.Bounds.{Bounds}

-- the greatest magnitude of a phase in the first rows
abbrev pub peak : List Scan → Weights → ℕ → ℕ
peak scans w rows = max (max (most_over scans w A Size 0 rows) (most_over scans w B Size 0 rows)) (most_over scans w C Size 0 rows)

abbrev pub step_of : Weights → ℕ
step_of w = max (max w.a w.b) w.c

unfoldable pub bounds_of : List Scan → Weights → ℕ → Bounds
bounds_of scans w cycle = record { first = peak scans w cycle; all = peak scans w (length scans); step = step_of w }

-- more than a quarter of the first cycle's peak, a fiftieth of the peak of all rows, and four steps
unfoldable pub exceeds : Bounds → ℕ → Bool
exceeds b difference = nat_lt b.first (4 * difference) && nat_lt b.all (50 * difference) && nat_lt (4 * b.step) difference
