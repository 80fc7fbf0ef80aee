-- The most bytes of memory that a recording needs.
use Rattle.std.specs.Prelude.{◌+◌, ◌*◌, ◌<◌, ℕ, Option, Some, None, min}

-- a scan of k analogue and m status channels, as it waits in memory
abbrev pub scan_bytes : ℕ → ℕ → ℕ
scan_bytes k m = 8 * k + m + 112

-- a row of a record's files
abbrev pub row_bytes : ℕ → ℕ → ℕ
row_bytes k m = 7 * k + 2 * m + 24

-- The scans of the records that wait, of the one that is open and the one that is written; those before a trigger; those on their way.
abbrev pub kept_scans : ℕ → ℕ → ℕ → ℕ
kept_scans pre longest shelf = longest * (shelf + 2) + pre + 98_304

-- these scans, the two files of a record, and what doesn't depend on the set-up
abbrev pub record_bytes : ℕ → ℕ → ℕ → ℕ → ℕ → ℕ
record_bytes k m pre longest shelf = kept_scans pre longest shelf * scan_bytes k m + 2 * (longest * row_bytes k m) + 4_000_000

-- a detector over so many scans: two windows, a sample and a wave of one scan, in eight bytes each
abbrev pub window_bytes : ℕ → ℕ
window_bytes scans = 8 * (2 * scans + 10)

-- and one of waves: for each scan the samples of three phases and twelve coefficients
abbrev pub waves_bytes : ℕ → ℕ
waves_bytes scans = 8 * (9 * scans + 1)

-- what the machine has: all of it, or what the group of the process may use
abbrev pub machine_of : Option ℕ → Option ℕ → Option ℕ
machine_of None group = group
machine_of (Some all) None = Some all
machine_of (Some all) (Some group) = Some (min all group)

-- more than the machine has, as far as that is known
abbrev pub IsAbove : ℕ → Option ℕ → Type 0
IsAbove need None = ⊥
IsAbove need (Some have) = have < need
