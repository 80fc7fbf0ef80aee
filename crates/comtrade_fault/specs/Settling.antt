-- Where a current keeps to its course again.
use Rattle.std.specs.Prelude.{ℕ, ◌+◌, ◌-◌, ◌*◌, ◌/◌, Bool, not, ◌&&◌, nat_le, if◌then◌else◌, List, length, Option, None}
use Rattle.comtrade_fault.specs.Searches.{first_from}
use Rattle.comtrade_fault.specs.Levels.{most_over}
use Rattle.comtrade_fault.specs.Bounding.{exceeds}
use Rattle.comtrade_fault.specs.Sizing.{size_from}
use Rattle.comtrade_fault.specs.declared.scan.Scan.{Scan}
use Rattle.comtrade_fault.specs.declared.scan.Weights.{Weights}
use Rattle.comtrade_fault.specs.declared.scan.Signal.{Signal}
use Rattle.comtrade_fault.specs.declared.scan.Signal.TheVariants.{A, B, C}
use Rattle.comtrade_fault.specs.declared.form.Form.TheVariants.{Change}
use Rattle.comtrade_fault.specs.declared.bounds.Bounds.{Bounds}
use Rattle.comtrade_fault.specs.declared.ends.Ends.{Ends}

-- in the cycle from a row on its size is at most half of `both`, and its steps over an eighth of a cycle are those a cycle later, within the bounds
unfoldable pub settled : List Scan → Weights → Signal → Bounds → ℕ → ℕ → ℕ → Bool
settled scans w s b cycle both row =
    nat_le (2 * size_from scans w cycle row s) both
    && not (exceeds b (most_over scans w s (Change (cycle / 8) cycle) (row + cycle + cycle / 8) cycle))

-- the rows that this takes
abbrev pub span : ℕ → ℕ
span cycle = 2 * cycle + cycle / 8

-- the first row from a row on from which a phase is settled: its size is at most half-way between those of the cycles around the row; none where it does
-- not rise there
unfoldable pub end_of : List Scan → Weights → Bounds → ℕ → ℕ → Signal → Option ℕ
end_of scans w b cycle row s =
    if nat_le (size_from scans w cycle row s) (size_from scans w cycle (row - cycle) s) then None
    else first_from (settled scans w s b cycle (size_from scans w cycle (row - cycle) s + size_from scans w cycle row s)) row
    (length scans + 1 - span cycle - row)

abbrev pub ends_after : List Scan → Weights → Bounds → ℕ → ℕ → Ends
ends_after scans w b cycle row = record { a = end_of scans w b cycle row A; b = end_of scans w b cycle row B; c = end_of scans w b cycle row C }
