-- How large the quantities are in the cycles around a row.
use Rattle.std.specs.Prelude.{ℕ, ◌+◌, ◌-◌, ◌/◌, ◌^◌, ◌≤◌, max, min, List}
use Rattle.comtrade_fault.specs.Levels.{sum_over}
use Rattle.comtrade_fault.specs.Turning.{turns}
use Rattle.comtrade_fault.specs.declared.scan.Scan.{Scan}
use Rattle.comtrade_fault.specs.declared.scan.Weights.{Weights}
use Rattle.comtrade_fault.specs.declared.scan.Signal.{Signal}
use Rattle.comtrade_fault.specs.declared.scan.Signal.TheVariants.{A, B, C, AB, BC, CA, Earth}
use Rattle.comtrade_fault.specs.declared.form.Form.TheVariants.{Step, Sum}
use Rattle.comtrade_fault.specs.declared.turn.Remainder.{Remainder}
use Rattle.comtrade_fault.specs.declared.sizes.Phases.{Phases}
use Rattle.comtrade_fault.specs.declared.sizes.Changes.{Changes}
use Rattle.comtrade_fault.specs.declared.sizes.Sizes.{Sizes}

-- half a cycle, rounded up
abbrev pub half : ℕ → ℕ
half cycle = cycle - cycle / 2

-- a quarter of a cycle, to the nearest row
abbrev pub quarter : ℕ → ℕ
quarter cycle = (cycle + 2) / 4

-- of the cycle from a row on: the steps over half a cycle
unfoldable pub size_from : List Scan → Weights → ℕ → ℕ → Signal → ℕ
size_from scans w cycle row s = sum_over scans w s (Step (half cycle)) (row + half cycle) (cycle - half cycle)

-- of the difference between the cycle from a row on and the exact cycle before it
unfoldable pub change_at : List Scan → Weights → ℕ → Remainder → ℕ → Signal → ℕ
change_at scans w cycle r row s = turns scans w s (half cycle) cycle r (row + half cycle) (cycle - half cycle)

-- of the second harmonic: half a cycle apart it repeats, and a quarter apart it has the other sign
unfoldable pub second_from : List Scan → Weights → ℕ → ℕ → Signal → ℕ
second_from scans w cycle row s =
    sum_over scans w s (Sum (quarter cycle) (half cycle)) (row + (half cycle + quarter cycle)) (cycle - (half cycle + quarter cycle))

-- of each phase
abbrev pub phases : (Signal → ℕ) → Phases
phases f = record { a = f A; b = f B; c = f C }

-- of each quantity
abbrev pub changes : (Signal → ℕ) → Changes
changes f = record { a = f A; b = f B; c = f C; ab = f AB; bc = f BC; ca = f CA; earth = f Earth }

-- the cycle before a row, the cycle from it on, and what differs
abbrev pub sizes_around : List Scan → Weights → ℕ → Remainder → ℕ → Sizes
sizes_around scans w cycle r row = record {
  before = phases (size_from scans w cycle (row - cycle));
  after = phases (size_from scans w cycle row);
  change = changes (change_at scans w cycle r row);
}

abbrev pub most_of : Phases → ℕ
most_of p = max (max p.a p.b) p.c

abbrev pub least_of : Phases → ℕ
least_of p = min (min p.a p.b) p.c

-- sums over at most 2 ^ 20 rows
abbrev pub limit : ℕ
limit = 2 ^ 120

pub record AreFew (p : Phases) : Type 0 where
  pub a : p.a ≤ limit
  pub b : p.b ≤ limit
  pub c : p.c ≤ limit

pub record AreSmall (d : Changes) : Type 0 where
  pub a : d.a ≤ limit
  pub b : d.b ≤ limit
  pub c : d.c ≤ limit
  pub ab : d.ab ≤ limit
  pub bc : d.bc ≤ limit
  pub ca : d.ca ≤ limit
  pub earth : d.earth ≤ limit

pub record Fit (s : Sizes) : Type 0 where
  pub before : AreFew s.before
  pub after : AreFew s.after
  pub change : AreSmall s.change
