-- How large a quantity of three phases is, or how far it differs from what it was. Rows count from 0. Samples are raised by 2 ^ 31, and a value is what counts
-- for a quantity less what counts against it.
use Rattle.std.specs.Prelude.{ℕ, ◌+◌, ◌-◌, ◌*◌, ◌^◌, max, false, List, map, fold, sum, get_or}
use Rattle.std.specs.List.{range_with_len}
use Rattle.std.specs.Int.{abs_diff}
use Rattle.comtrade_fault.specs.declared.scan.Scan.{Scan}
use Rattle.comtrade_fault.specs.declared.scan.Weights.{Weights}
use Rattle.comtrade_fault.specs.declared.scan.Signal.{Signal}
use Rattle.comtrade_fault.specs.declared.scan.Signal.TheVariants.{A, B, C, AB, BC, CA, Earth}
use Rattle.comtrade_fault.specs.declared.form.Form.{Form}
use Rattle.comtrade_fault.specs.declared.form.Form.TheVariants.{Size, Step, Change, Sum}
use Rattle.comtrade_fault.specs.declared.form.Sides.{Sides}

-- a phase, the first of two phases, the sum of all
abbrev pub plus : Weights → Signal → Scan → ℕ
plus w A x = w.a * x.a
plus w B x = w.b * x.b
plus w C x = w.c * x.c
plus w AB x = w.a * x.a
plus w BC x = w.b * x.b
plus w CA x = w.c * x.c
plus w Earth x = w.a * x.a + w.b * x.b + w.c * x.c

-- the second of two phases
abbrev pub minus : Weights → Signal → Scan → ℕ
minus w A x = 0
minus w B x = 0
minus w C x = 0
minus w AB x = w.b * x.b
minus w BC x = w.c * x.c
minus w CA x = w.a * x.a
minus w Earth x = 0

-- a row in which each sample is 0
abbrev pub nothing : Scan
nothing = record { is_known = false; a = 2 ^ 31; b = 2 ^ 31; c = 2 ^ 31 }

unfoldable pub value_at : List Scan → Weights → Signal → ℕ → Sides
value_at scans w s row = record { plus = plus w s (get_or scans row nothing); minus = minus w s (get_or scans row nothing) }

-- a value less another one, and both together
abbrev pub less : Sides → Sides → Sides
less now then = record { plus = now.plus + then.minus; minus = now.minus + then.plus }

abbrev pub added : Sides → Sides → Sides
added now then = record { plus = now.plus + then.plus; minus = now.minus + then.minus }

-- the value less that so many rows before
unfoldable pub step_at : List Scan → Weights → Signal → ℕ → ℕ → Sides
step_at scans w s lag row = less (value_at scans w s row) (value_at scans w s (row - lag))

-- the value, a step, or two steps so many rows apart: their difference or their sum
unfoldable pub form_at : List Scan → Weights → Signal → Form → ℕ → Sides
form_at scans w s Size row = less (value_at scans w s row) (record { plus = plus w s nothing; minus = minus w s nothing })
form_at scans w s (Step lag) row = step_at scans w s lag row
form_at scans w s (Change lag before) row = less (step_at scans w s lag row) (step_at scans w s lag (row - before))
form_at scans w s (Sum lag before) row = added (step_at scans w s lag row) (step_at scans w s lag (row - before))

-- how many rows before a row this takes
abbrev pub reach : Form → ℕ
reach Size = 0
reach (Step lag) = lag
reach (Change lag before) = lag + before
reach (Sum lag before) = lag + before

unfoldable pub level : List Scan → Weights → Signal → Form → ℕ → ℕ
level scans w s form row = abs_diff (form_at scans w s form row).plus (form_at scans w s form row).minus

-- over so many rows from a row on
unfoldable pub sum_over : List Scan → Weights → Signal → Form → ℕ → ℕ → ℕ
sum_over scans w s form first rows = sum (map (level scans w s form) (range_with_len first rows))

unfoldable pub most_over : List Scan → Weights → Signal → Form → ℕ → ℕ → ℕ
most_over scans w s form first rows = fold max 0 (map (level scans w s form) (range_with_len first rows))
