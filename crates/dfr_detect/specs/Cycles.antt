-- How many scans some cycles of the line take.
use Rattle.std.specs.Prelude.{◌≡◌, ◌<◌, ℕ, pos, ◌+◌, ◌*◌, ◌/◌, ◌%◌, ◌^◌, ◌&&◌, int_lt, nat_lt, nat_le, unsigned_abs, if◌then◌else◌, Option}
use Rattle.comtrade_values.specs.Faults.{◌or◌, fault_unless}
use Rattle.comtrade_values.specs.Spelling.{Number}
use Rattle.dfr_detect.specs.declared.cycle.CycleScans.{CycleScans}
use Rattle.dfr_detect.specs.declared.cycle.CycleFault.{CycleFault}
use Rattle.dfr_detect.specs.declared.cycle.CycleFault.TheVariants.{Frequency, Places, Length}

-- the scans of these cycles times the frequency, both without their decimal places
abbrev pub scans_times : ℕ → ℕ → ℕ → ℕ
scans_times rate cycles places = rate * cycles * 10 ^ places

-- the whole number nearest to whole + part / of, the larger of two
abbrev pub rounded : ℕ → ℕ → ℕ → ℕ
rounded whole part of = if nat_lt (2 * part) of then whole else whole + 1

-- and to a quotient
abbrev pub nearest : ℕ → ℕ → ℕ
nearest times of = rounded (times / of) (times % of) of

-- the window of these cycles: the whole scans nearest to them
abbrev pub window_of : ℕ → ℕ → Number → ℕ
window_of rate cycles frequency = nearest (scans_times rate cycles frequency.places) (unsigned_abs frequency.units)

-- the first fault
abbrev pub cycle_fault : ℕ → ℕ → Number → Option CycleFault
cycle_fault rate cycles frequency =
    let scans = window_of rate cycles frequency in
    fault_unless (int_lt (pos 0) frequency.units) Frequency
    or fault_unless (nat_le frequency.places 18) Places
    or fault_unless (nat_le 1 scans && nat_le scans 65_536) Length

-- the cycles take exactly whole + part / of scans: that many times the frequency are the cycles times the rate
pub record AreCycleScans (rate cycles : ℕ) (frequency : Number) (scans : CycleScans) : Type 0 where
  pub of : pos scans.of ≡ frequency.units
  pub exact : scans.whole * scans.of + scans.part ≡ scans_times rate cycles frequency.places
  pub part : scans.part < scans.of
  pub nearest : scans.nearest ≡ rounded scans.whole scans.part scans.of
