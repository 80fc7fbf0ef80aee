-- Where a current departs from its waveform.
use Rattle.std.specs.Prelude.{ℕ, ◌+◌, ◌-◌, ◌*◌, ◌/◌, max, Bool, ◌&&◌, ◌||◌, nat_lt, if◌then◌else◌, List, length, get_or, unwrap_or, Option}
use Rattle.comtrade_fault.specs.Searches.{first_from}
use Rattle.comtrade_fault.specs.Levels.{level, most_over, nothing}
use Rattle.comtrade_fault.specs.Bounding.{exceeds}
use Rattle.comtrade_fault.specs.declared.scan.Scan.{Scan}
use Rattle.comtrade_fault.specs.declared.scan.Weights.{Weights}
use Rattle.comtrade_fault.specs.declared.scan.Signal.{Signal}
use Rattle.comtrade_fault.specs.declared.scan.Signal.TheVariants.{A, B, C}
use Rattle.comtrade_fault.specs.declared.form.Form.TheVariants.{Step, Change}
use Rattle.comtrade_fault.specs.declared.bounds.Bounds.{Bounds}

abbrev pub known : List Scan → ℕ → Bool
known scans row = (get_or scans row nothing).is_known

-- its difference to the cycle before exceeds the bounds, also less that of the cycle before, and less that an eighth of a cycle before
unfoldable pub departs : List Scan → Weights → Bounds → ℕ → ℕ → Signal → Bool
departs scans w b cycle row s =
    exceeds b (level scans w s (Step cycle) row) && exceeds b (level scans w s (Change cycle cycle) row)
    && exceeds b (level scans w s (Change (cycle / 8) cycle) row)

-- a row, and those one and two cycles before it
unfoldable pub knows : List Scan → ℕ → ℕ → Bool
knows scans cycle row = known scans row && known scans (row - cycle) && known scans (row - 2 * cycle)

-- a phase departs
unfoldable pub departs_at : List Scan → Weights → Bounds → ℕ → ℕ → Bool
departs_at scans w b cycle row =
    knows scans cycle row && (departs scans w b cycle row A || departs scans w b cycle row B || departs scans w b cycle row C)

-- the first row from a row on
abbrev pub departure_from : List Scan → Weights → Bounds → ℕ → ℕ → Option ℕ
departure_from scans w b cycle from = first_from (departs_at scans w b cycle) from (length scans - from)

-- its difference to the cycle before is over one and a half times the greatest of a quiet cycle, and four steps
unfoldable pub stirs : List Scan → Weights → ℕ → ℕ → ℕ → ℕ → Signal → Bool
stirs scans w step cycle quiet row s =
    nat_lt (3 * most_over scans w s (Step cycle) quiet cycle + 8 * step) (2 * level scans w s (Step cycle) row)

-- a phase stirs
unfoldable pub stirs_at : List Scan → Weights → ℕ → ℕ → ℕ → ℕ → Bool
stirs_at scans w step cycle quiet row =
    known scans row && known scans (row - cycle)
    && (stirs scans w step cycle quiet row A || stirs scans w step cycle quiet row B || stirs scans w step cycle quiet row C)

-- the first row of the cycle that ends at a departure, from a row on, in which a phase stirs more than two cycles before
unfoldable pub inception : List Scan → Weights → ℕ → ℕ → ℕ → ℕ → ℕ
inception scans w step cycle from row =
    if nat_lt row (3 * cycle) then row
    else (let first = max (row + 1 - cycle) from in
    unwrap_or (first_from (stirs_at scans w step cycle (row - 2 * cycle)) first (row - first)) row)
