-- The samples of three channels, row by row.
use Rattle.std.specs.Prelude.{ℕ, ◌+◌, ◌*◌, ◌/◌, ◌^◌, nat_le, ℤ, pos, ◌+ℤ◌, unsigned_abs, true, Option, Some, None}
use Rattle.comtrade_format.specs.Parts.{RowParts}
use Rattle.comtrade_format.specs.declared.values.cycle.Cycle.{Cycle}
use Rattle.comtrade_analysis.specs.Readings.{sample}
use Rattle.comtrade_analysis.specs.declared.sequences.Sequence.{Sequence}
use Rattle.comtrade_fault.specs.Levels.{nothing}
use Rattle.comtrade_fault.specs.declared.scan.Scan.{Scan}
use Rattle.comtrade_fault.specs.declared.turn.Remainder.{Remainder}
use Rattle.std.specs.Int.{abs_diff}

-- a sample of 32 bits, raised so that it isn't below 0
abbrev pub raised : ℤ → ℕ
raised x = unsigned_abs (x +ℤ pos (2 ^ 31))

-- where all three samples are there
abbrev pub scan_with : Option ℤ → Option ℤ → Option ℤ → Scan
scan_with (Some a) (Some b) (Some c) = record { is_known = true; a = raised a; b = raised b; c = raised c }
scan_with (Some a) (Some b) None = nothing
scan_with (Some a) None c = nothing
scan_with None b c = nothing

-- the samples of phases A, B and C in a row
abbrev pub scan_in : Sequence → RowParts → Scan
scan_in s row = scan_with (sample s.a row) (sample s.b row) (sample s.c row)

-- the rows of a cycle, to the nearest row
abbrev pub nearest_rows : Cycle → ℕ
nearest_rows cycle = (2 * cycle.rows + cycle.cycles) / (2 * cycle.cycles)

-- the 256ths of a row of a cycle, to the nearest
abbrev pub nearest_parts : Cycle → ℕ
nearest_parts cycle = (512 * cycle.rows + cycle.cycles) / (2 * cycle.cycles)

-- how far these are from so many whole rows
abbrev pub parts : Cycle → ℕ → ℕ
parts cycle rows = abs_diff (nearest_parts cycle) (256 * rows)

abbrev pub remainder : Cycle → ℕ → Remainder
remainder cycle rows = record { is_longer = nat_le (256 * rows) (nearest_parts cycle); parts = parts cycle rows }
