-- The course of time: which instant a place in the scans has. Times are in microseconds, and "-" gives 0 where the second is the larger one.
use Rattle.std.specs.Prelude.{ℕ, ◌+◌, ◌*◌, ◌-◌, ◌/◌, ◌≤◌, ◌^◌, if◌then◌else◌, nat_lt, nat_le, List, [], ◌∷◌}
use Rattle.dfr_clock.specs.declared.course.Course.{Course}

-- the place of scan k: the time from scan 0 by the rate alone
abbrev pub place : ℕ → ℕ → ℕ
place rate k = k * 1_000_000 / rate

-- the instant of a place: for a window from the course's place on a straight line, then as the scans run
abbrev pub instant_on : ℕ → Course → ℕ → ℕ
instant_on window c q =
    if nat_lt (q - c.at) window then c.from + (q - c.at) * (c.to - c.from) / window else c.to + (q - c.at - window)

-- the course in force at a place: the newest that begins at or before it, or the oldest one that is known
abbrev pub course_at : Course → List Course → ℕ → Course
course_at c [] q = c
course_at c (d ∷ older) q = if nat_le c.at q then c else course_at d older q

-- what a course has: it doesn't run back, runs at most twice as fast as the scans, and its instants are not far in the future
pub record IsCourse (window : ℕ) (c : Course) : Type 0 where
  pub onward : c.from ≤ c.to
  pub slow : c.to ≤ c.from + 2 * window
  pub near : c.from ≤ 2 ^ 64 + 2 * c.at
  pub placed : c.at ≤ 2 ^ 86
