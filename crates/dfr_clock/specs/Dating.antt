-- The instants of scans, and how far they drift from the clock.
use Rattle.std.specs.Prelude.{Bool, ℕ, ℤ, pos, ◌-ℤ◌, ◌+◌, ◌*◌, ◌-◌, ◌/◌, max, ◌==◌, ◌&&◌, if◌then◌else◌, nat_lt, nat_le, List, [], ◌∷◌, take, Option, Some, None}
use Rattle.std.specs.List.{All}
use Rattle.dfr_clock.specs.Settings.{Fits}
use Rattle.dfr_clock.specs.Courses.{place, instant_on, course_at, IsCourse}
use Rattle.dfr_clock.specs.Following.{IsSound}
use Rattle.dfr_clock.specs.declared.settings.Settings.{Settings}
use Rattle.dfr_clock.specs.declared.course.Course.{Course}
use Rattle.dfr_clock.specs.declared.drift.Drift.{Drift}
use Rattle.dfr_clock.specs.declared.drift.Drift.TheVariants.{Slow, Fast}
use Rattle.dfr_clock.specs.declared.follower.Follower.{Follower}
use Rattle.dfr_clock.specs.declared.follower.Turn.{Turn}
use Rattle.dfr_clock.specs.declared.timebase.Dated.{Dated}

-- the drift if the clock went on by so much and the scans by so much
abbrev pub drift_over : ℕ → ℕ → Drift
drift_over clock scans = if nat_le scans clock then Slow ((clock - scans) * 1_000_000_000 / scans) else Fast ((scans - clock) * 1_000_000_000 / scans)

abbrev pub drift_between : Course → Course → Option Drift
drift_between old new = if nat_lt old.at new.at && nat_le old.from new.from then Some (drift_over (new.from - old.from) (new.at - old.at)) else None

-- the oldest course that is known since following began anew
abbrev pub oldest_of_run : Course → List Course → Course
oldest_of_run c [] = c
oldest_of_run c (d ∷ older) = if d.run == c.run then oldest_of_run d older else c

-- what a timebase keeps: how the clock is followed; the courses that have ended, the newest first, as many as there is room for; the last date
pub record Kept : Type 0 where
  pub settings : Settings
  pub follower : Follower
  pub past : List Course
  pub room : ℕ
  pub last : Option Dated

abbrev pub kept_by : Settings → Follower → List Course → ℕ → Option Dated → Kept
kept_by settings follower past room last = record { settings = settings; follower = follower; past = past; room = room; last = last }

-- the course of a place
abbrev pub course_of : Kept → ℕ → Course
course_of t q = course_at t.follower.course t.past q

-- the instant of scan k
abbrev pub instant_of : Kept → ℕ → ℕ
instant_of t k = instant_on t.settings.window (course_of t (place t.settings.rate k)) (place t.settings.rate k)

-- whether the converter told the time by which scan k has its instant
abbrev pub is_told_at : Kept → ℕ → Bool
is_told_at t k = (course_of t (place t.settings.rate k)).is_told

-- not before the last date, unless the clock was set between
abbrev pub not_before : Option Dated → ℕ → ℕ → ℕ
not_before None era instant = instant
not_before (Some last) era instant = if last.era == era then max last.instant instant else instant

-- the date of scan k, given after the last one
abbrev pub date_of : Kept → ℕ → ℕ
date_of t k = not_before t.last (course_of t (place t.settings.rate k)).era (instant_of t k)

abbrev pub dated : Kept → ℕ → Kept
dated t k = record t { last = Some (record { era = (course_of t (place t.settings.rate k)).era; instant = date_of t k }) }

-- what is kept after a turn
abbrev pub past_after : ℕ → List Course → Option Course → List Course
past_after room past None = past
past_after room past (Some c) = take room (c ∷ past)

abbrev pub turned : Kept → Turn → Kept
turned t u = record t { follower = u.follower; past = past_after t.room t.past u.closed }

-- the newest scan
abbrev pub newest : Kept → ℕ
newest t = t.follower.scans - 1

-- how much later the newest scan is than by the rate alone, if scan 0 was at this instant
abbrev pub offset_of : Kept → ℕ → ℤ
offset_of t start = pos (instant_of t (newest t)) -ℤ pos (start + place t.settings.rate (newest t))

pub record IsTimebase (t : Kept) : Type 0 where
  pub fits : Fits t.settings
  pub sound : IsSound t.settings t.follower
  pub past : All (IsCourse t.settings.window) t.past
