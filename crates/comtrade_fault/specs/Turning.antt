-- How far a step differs from what it was one exact cycle before.
use Rattle.std.specs.Prelude.{ℕ, ◌+◌, ◌-◌, ◌*◌, ◌/◌, ◌^◌, ◌≤◌, if◌then◌else◌, List, map, sum}
use Rattle.std.specs.List.{range_with_len}
use Rattle.std.specs.Int.{abs_diff}
use Rattle.comtrade_fault.specs.Levels.{step_at}
use Rattle.comtrade_fault.specs.declared.scan.Scan.{Scan}
use Rattle.comtrade_fault.specs.declared.scan.Weights.{Weights}
use Rattle.comtrade_fault.specs.declared.scan.Signal.{Signal}
use Rattle.comtrade_fault.specs.declared.form.Sides.{Sides}
use Rattle.comtrade_fault.specs.declared.turn.Remainder.{Remainder}

-- next to the row a cycle before: the row towards the exact cycle, and the other one
abbrev pub far_row : Remainder → ℕ → ℕ → ℕ
far_row r cycle row = if r.is_longer then row - cycle - 1 else row - cycle + 1

abbrev pub near_row : Remainder → ℕ → ℕ → ℕ
near_row r cycle row = if r.is_longer then row - cycle + 1 else row - cycle - 1

-- With q = parts / 256, the parabola through the three gives middle + q (far - near) / 2 + q q (far + near - 2 middle) / 2. What the step now is above it, times
-- 2 * 256 * 256.
unfoldable pub sides_of : Remainder → Sides → Sides → Sides → Sides → Sides
sides_of r now middle near far = record {
  plus = 131072 * (now.plus + middle.minus) + 256 * r.parts * (near.plus + far.minus) + r.parts * r.parts * (near.minus + far.minus + 2 * middle.plus);
  minus = 131072 * (now.minus + middle.plus) + 256 * r.parts * (near.minus + far.plus) + r.parts * r.parts * (near.plus + far.plus + 2 * middle.minus);
}

-- the size of a step over so many rows
pub record AreStep (s : Sides) : Type 0 where
  pub plus : s.plus ≤ 6 * 2 ^ 96
  pub minus : s.minus ≤ 6 * 2 ^ 96

abbrev pub size_of : Sides → ℕ
size_of s = abs_diff s.plus s.minus / 131072

-- how far the step over so many rows differs from that an exact cycle before
unfoldable pub turn : List Scan → Weights → Signal → ℕ → ℕ → Remainder → ℕ → ℕ
turn scans w s lag cycle r row =
    size_of (sides_of r (step_at scans w s lag row) (step_at scans w s lag (row - cycle)) (step_at scans w s lag (near_row r cycle row))
    (step_at scans w s lag (far_row r cycle row)))

-- over so many rows from a row on
unfoldable pub turns : List Scan → Weights → Signal → ℕ → ℕ → Remainder → ℕ → ℕ → ℕ
turns scans w s lag cycle r first rows = sum (map (turn scans w s lag cycle r) (range_with_len first rows))
