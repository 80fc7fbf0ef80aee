-- How the clock and the scans stand to each other, as lines and metrics say it.
use Rattle.std.specs.Prelude.{◌≡◌, ℕ, ◌-◌, ◌^◌, min, ℤ, pos, neg_ℤ, Option, option_map}
use Rattle.dfr_clock.specs.Dating.{Kept, offset_of, drift_between, oldest_of_run}
use Rattle.dfr_clock.specs.declared.drift.Drift.{Drift}
use Rattle.dfr_clock.specs.declared.drift.Drift.TheVariants.{Slow, Fast}
use Rattle.dfr_clock.specs.declared.reading.Jump.{Jump}
use Rattle.dfr_clock.specs.declared.reading.Jump.TheVariants.{Forward, Back}
use Rattle.dfr_station.specs.declared.event.Followed.{Followed}

-- a number of 64 bits with a sign; the greatest one stands for what is beyond it
abbrev pub size_of : ℕ → ℕ
size_of n = min n (2 ^ 63 - 1)

-- by how many microseconds the clock was set: below 0 to an earlier instant
abbrev pub micros_of : Jump → ℤ
micros_of (Forward n) = pos (size_of n)
micros_of (Back n) = neg_ℤ (pos (size_of n))

-- by how many parts per billion scans come faster than the rate says: below 0 if they come slower
abbrev pub parts_of : Drift → ℤ
parts_of (Fast n) = pos (size_of n)
parts_of (Slow n) = neg_ℤ (pos (size_of n))

abbrev pub drift_of : Kept → Option Drift
drift_of t = drift_between (oldest_of_run t.follower.course t.past) t.follower.course

-- how the clock is followed, where scan 0 has this instant by the set-up
pub record IsFollowed (t : Kept) (start : ℤ) (f : Followed) : Type 0 where
  pub offset : (from : ℕ) → start ≡ pos from → f.offset ≡ offset_of t from
  pub drift : f.drift ≡ option_map parts_of (drift_of t)
