-- Levels in samples, and windows in scans.
use Rattle.std.specs.Prelude.{ℕ, ◌+◌, ◌*◌, ◌/◌, ◌^◌, ◌==◌, Bool, not, ◌&&◌, ◌||◌, nat_lt, nat_le, if◌then◌else◌, Option, Some, None, pos, int_lt, ◌*ℤ◌, unsigned_abs}
use Rattle.std.specs.Int.{div_ceil}
use Rattle.comtrade_values.specs.Spelling.{Number}
use Rattle.dfr_detect.specs.Cycles.{cycle_fault, window_of}
use Rattle.dfr_detect.specs.declared.cycle.CycleFault.{CycleFault}
use Rattle.dfr_setup.specs.declared.tested.Test.{Test}
use Rattle.dfr_setup.specs.declared.tested.Test.TheVariants.{RmsOver, RmsUnder, Change, Jump, FrequencyOver, FrequencyUnder, FrequencyChange, Harmonic, SequenceOver, SequenceUnder, Unbalance}
use Rattle.dfr_setup.specs.Tests.{is_frequency, is_share}

-- a number of at most 128 bits
abbrev pub short : ℕ → Option ℕ
short n = if nat_lt n (2 ^ 128) then Some n else None

-- a number from 1 on, up to the most
abbrev pub within : ℕ → ℕ → Option ℕ
within n most = if nat_le 1 n && nat_le n most then Some n else None

-- ---- levels

-- a part of a quantity: their product, exactly
abbrev pub part : Number → Number → Number
part share whole = record { units = share.units *ℤ whole.units; places = share.places + whole.places }

-- a number of at most 36 digits and 80 places
abbrev pub held : Number → Option Number
held n = if nat_lt (unsigned_abs n.units) (10 ^ 36) && nat_le n.places 80 then Some n else None

abbrev pub part_in : Option Number → Option Number → Option Number
part_in (Some share) (Some whole) = held (part share whole)
part_in _ _ = None

-- a unit with so many decimal places
abbrev pub unit : ℕ → Number
unit places = record { units = pos 1; places = places }

-- what a level is counted in: samples, by the channels' multiplier; mHz, where it is in Hz; thousandths, where it is in percent
abbrev pub one_of : Test → Number → Number
one_of test a = if is_frequency test then unit 3 else if is_share test then unit 1 else a

-- counted in `a`, a level is the first of these numbers over the second: level / |a|
abbrev pub numerator : Number → Number → ℕ
numerator level a = unsigned_abs level.units * 10 ^ a.places

abbrev pub denominator : Number → Number → ℕ
denominator level a = unsigned_abs a.units * 10 ^ level.places

-- rounded so that the detector fires later: up, or down where it fires under the level
abbrev pub rounded : Test → ℕ → ℕ → ℕ
rounded RmsUnder n d = n / d
rounded RmsOver n d = div_ceil n d
rounded Change n d = div_ceil n d
rounded Jump n d = div_ceil n d
rounded FrequencyOver n d = div_ceil n d
rounded FrequencyUnder n d = n / d
rounded FrequencyChange n d = div_ceil n d
rounded (Harmonic order) n d = div_ceil n d
rounded (SequenceOver s) n d = div_ceil n d
rounded (SequenceUnder s) n d = n / d
rounded Unbalance n d = div_ceil n d

abbrev pub quotient_in : Test → Option ℕ → Option ℕ → ℕ → Option ℕ
quotient_in test None d most = None
quotient_in test (Some n) None most = None
quotient_in test (Some n) (Some d) most = within (rounded test n d) most

-- the level is above 0, and there is a multiplier
abbrev pub has_quotient : Number → Number → Bool
has_quotient level a = int_lt (pos 0) level.units && not (unsigned_abs a.units == 0)

-- a level counted in `a`: at least one, and at most so many
abbrev pub level_in : Test → Number → Number → ℕ → Option ℕ
level_in test level a most =
    if has_quotient level a then quotient_in test (short (numerator level a)) (short (denominator level a)) most else None

-- the greatest value of a test where this is the largest sample, and the rate: a change goes from one end to the other, a jump twice so
-- far; a cycle has two scans; a share is at most the whole
abbrev pub reach : Test → ℕ → ℕ → ℕ
reach RmsOver largest rate = largest
reach RmsUnder largest rate = largest
reach Change largest rate = 2 * largest
reach Jump largest rate = 4 * largest
reach FrequencyOver largest rate = 500 * rate
reach FrequencyUnder largest rate = 500 * rate
reach FrequencyChange largest rate = 2_147_483_648
reach (Harmonic order) largest rate = 1000
reach (SequenceOver s) largest rate = largest
reach (SequenceUnder s) largest rate = largest
reach Unbalance largest rate = 1000

-- how deep a half wave is at least, or how large a wave, in samples; other tests don't use it
abbrev pub least_in : Test → Number → Number → ℕ → Option ℕ
least_in test least a largest = if is_frequency test || is_share test then level_in RmsOver least a largest else Some 1

-- ---- windows

-- how many periods of the line a window has: of a frequency twice the cycles that are looked at, so that half the line's frequency is seen
abbrev pub periods : Test → ℕ → ℕ
periods RmsOver cycles = 1
periods RmsUnder cycles = 1
periods Change cycles = 1
periods Jump cycles = 1
periods FrequencyOver cycles = 2 * cycles
periods FrequencyUnder cycles = 2 * cycles
periods FrequencyChange cycles = 4 * cycles
periods (Harmonic order) cycles = 1
periods (SequenceOver s) cycles = 1
periods (SequenceUnder s) cycles = 1
periods Unbalance cycles = 1

-- a number, unless there is a fault
abbrev pub unless_fault : Option CycleFault → ℕ → Option ℕ
unless_fault None n = Some n
unless_fault (Some f) n = None

-- a window of so many scans, or else of so many periods
abbrev pub window_in : Option ℕ → ℕ → ℕ → Number → Option ℕ
window_in None count rate freq = unless_fault (cycle_fault rate count freq) (window_of rate count freq)
window_in (Some n) count rate freq = within n 65_536
