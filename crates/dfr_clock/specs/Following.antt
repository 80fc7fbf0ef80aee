-- How the course of time follows the clock. Times are in microseconds, and "-" gives 0 where the second is the larger one.
use Rattle.std.specs.Prelude.{ℕ, ◌+◌, ◌*◌, ◌-◌, ◌/◌, ◌≤◌, ◌^◌, min, max, Bool, true, false, ◌||◌, ◌&&◌, ◌==◌, if◌then◌else◌, nat_lt, nat_le, Option, Some, None, is_none, IfSome}
use Rattle.dfr_clock.specs.Settings.{slewed}
use Rattle.dfr_clock.specs.Courses.{place, instant_on, IsCourse}
use Rattle.dfr_clock.specs.declared.settings.Settings.{Settings}
use Rattle.dfr_clock.specs.declared.course.Course.{Course}
use Rattle.dfr_clock.specs.declared.reading.Reading.{Reading}
use Rattle.dfr_clock.specs.declared.reading.Jump.{Jump}
use Rattle.dfr_clock.specs.declared.reading.Jump.TheVariants.{Forward, Back}
use Rattle.dfr_clock.specs.declared.follower.Mode.{Mode}
use Rattle.dfr_clock.specs.declared.follower.Mode.TheVariants.{Settling, Following, Told}
use Rattle.dfr_clock.specs.declared.follower.Follower.{Follower}
use Rattle.dfr_clock.specs.declared.follower.Turn.{Turn}

-- by how much the clock was set: it went on by a, and the monotonic clock says b
abbrev pub jump_between : ℕ → ℕ → ℕ → Option Jump
jump_between step a b = if nat_lt (b + step) a then Some (Forward (a - b)) else if nat_lt (a + step) b then Some (Back (b - a)) else None

abbrev pub jump_at : Settings → Follower → Reading → Option Jump
jump_at s f r = jump_between s.step (r.wall + f.mono) (f.wall + r.mono)

-- the clock as if it had not been set
abbrev pub unset_clock : Follower → Reading → Option Jump → ℕ
unset_clock f r None = r.wall
unset_clock f r (Some jump) = f.wall + (r.mono - f.mono)

-- how many scans are missing: those whose time the clock is past what is due, if that is more than the limit
abbrev pub missing_between : Settings → ℕ → ℕ → ℕ → ℕ
missing_between s limit due clock = if nat_lt (due + limit) clock then (clock - due) * s.rate / 1_000_000 else 0

-- how many lost scans stand for missing ones
abbrev pub lost_for : Settings → ℕ → ℕ
lost_for s missing = min s.most missing

-- the instant at which the newest scan was due if nothing was lost
abbrev pub due_at : Settings → Follower → ℕ → ℕ
due_at s f scans = instant_on s.window f.course (place s.rate (scans - 1))

-- one reading shows a gap if it is later than any late read
abbrev pub missing_at : Settings → Follower → Reading → ℕ
missing_at s f r = missing_between s s.late (due_at s f r.scans) (unset_clock f r (jump_at s f r))

abbrev pub lost_at : Settings → Follower → Reading → ℕ
lost_at s f r = lost_for s (missing_at s f r)

-- the instant of place p by a clock that showed this when the scan at place q came
abbrev pub by_clock : ℕ → ℕ → ℕ → ℕ
by_clock p q wall = wall - (q - p)

-- A course that begins at place p with this instant, and runs as the scans do. The last argument: whether the converter told the instant
abbrev pub level : Settings → ℕ → ℕ → ℕ → Bool → Course
level s p instant era told = record { at = p; from = instant; to = instant + s.window; era = era; run = p; is_told = told }

-- begins anew: the newest scan has the instant of the clock, and the scans from `first` on are dated back from it
abbrev pub anew : Settings → ℕ → ℕ → Reading → ℕ → Follower
anew s first newest r era =
    let p = place s.rate first in
    let instant = by_clock p (place s.rate newest) r.wall in
    record { course = level s p instant era false; best = instant; mode = Settling; scans = newest + 1; wall = r.wall; mono = r.mono }

-- so it begins with the first reading
abbrev pub begun : Settings → Reading → Follower
begun s r = anew s 0 (r.scans - 1) r 0

-- And after a gap, with the scans after it. Where the clock was set, it begins with the newest scan: those before it may have come before that
abbrev pub begun_again : Settings → Follower → Reading → ℕ → Option Jump → Follower
begun_again s f r lost None = anew s (f.scans + lost) (r.scans - 1 + lost) r f.course.era
begun_again s f r lost (Some jump) = anew s (r.scans - 1 + lost) (r.scans - 1 + lost) r (place s.rate (r.scans - 1 + lost))

-- the least instant of the course's place by the readings of the window: delays only add
abbrev pub best_at : Settings → Follower → Reading → ℕ
best_at s f r = min f.best (by_clock f.course.at (place s.rate (r.scans - 1)) r.wall)

-- in the first window after a beginning, the course follows the least instant at once
abbrev pub settled : Settings → Mode → Course → ℕ → Course
settled s Settling c best = level s c.at best c.era false
settled s Following c best = c
settled s Told c best = c

-- the course of the next window, from place q on: it goes on where this one is there, towards the goal, with bounded slew
abbrev pub towards : Settings → ℕ → ℕ → ℕ → Course → Course
towards s q from goal c =
    record { at = q; from = from; to = max (from + (s.window - slewed s)) (min goal (from + s.window + slewed s)); era = c.era; run = c.run; is_told = false }

-- the goal is where that place would be a window later by the least instant of the window
abbrev pub next_course : Settings → Course → ℕ → ℕ → Course
next_course s c instant q = towards s q (instant_on s.window c q) (instant + s.window) c

-- a reading that neither begins anew nor ends the window
abbrev pub within_window : Follower → Course → ℕ → Reading → Turn
within_window f c best r =
    record {
      follower = record { course = c; best = best; mode = f.mode; scans = r.scans; wall = r.wall; mono = r.mono };
      closed = None;
      answer = record { lost = 0; jump = None };
    }

-- a reading that ends the window, and begins the next one. `instant` is that of the newest scan by the least instant of the window
abbrev pub window_ended : Settings → Course → ℕ → ℕ → Reading → Turn
window_ended s c instant lost r =
    record {
      follower = record { course = next_course s c instant (place s.rate (r.scans - 1 + lost)); best = r.wall; mode = Following; scans = r.scans - 1 + lost + 1; wall = r.wall; mono = r.mono };
      closed = Some c;
      answer = record { lost = lost; jump = None };
    }

-- a gap for which too few lost scans may stand: the scans after it begin anew
abbrev pub ended_anew : Settings → Follower → Course → Reading → Turn
ended_anew s f c r = record { follower = begun_again s f r s.most None; closed = Some c; answer = record { lost = s.most; jump = None } }

-- a window shows a gap if all of its readings are late
abbrev pub ended_at : Settings → Follower → Course → ℕ → ℕ → Reading → Turn
ended_at s f c instant q r =
    let missing = missing_between s s.apart (instant_on s.window c q) instant in
    if nat_lt s.most missing then ended_anew s f c r else window_ended s c instant missing r

abbrev pub followed : Settings → Follower → Reading → Turn
followed s f r =
    let q = place s.rate (r.scans - 1) in
    let best = best_at s f r in
    let c = settled s f.mode f.course best in
    if nat_lt q (f.course.at + s.window) then within_window f c best r else ended_at s f c (best + (q - f.course.at)) q r

-- nothing is told: no scan is new, or the converter tells the time
abbrev pub unchanged : Follower → Turn
unchanged f = record { follower = f; closed = None; answer = record { lost = 0; jump = None } }

abbrev pub is_told : Mode → Bool
is_told Settling = false
is_told Following = false
is_told Told = true

-- what a reading does and tells
abbrev pub turn : Settings → Follower → Reading → Turn
turn s f r =
    if is_told f.mode || nat_le r.scans f.scans then unchanged f
    else if is_none (jump_at s f r) && (missing_at s f r == 0) then followed s f r
    else
    record {
      follower = begun_again s f r (lost_at s f r) (jump_at s f r);
      closed = Some f.course;
      answer = record { lost = lost_at s f r; jump = jump_at s f r };
    }

-- how far an instant that is told may be past what is due, so long after the last one, if nothing was lost: no crystal is off by more than a thousandth
abbrev pub told_limit : Settings → ℕ → ℕ
told_limit s since = s.apart + since / 1_000

-- how many lost scans stand for what is missing. When the converter tells the time first, it has another clock, and nothing is known of a gap
abbrev pub told_lost : Settings → Mode → (since due instant : ℕ) → ℕ
told_lost s Settling since due instant = 0
told_lost s Following since due instant = 0
told_lost s Told since due instant = lost_for s (missing_between s (told_limit s since) due instant)

-- by how much the clock was set: by all that the converter's differs when it tells the time first, and then only if it is set back
abbrev pub told_jump : Settings → Mode → (due instant : ℕ) → Option Jump
told_jump s Settling due instant = jump_between s.step instant due
told_jump s Following due instant = jump_between s.step instant due
told_jump s Told due instant = jump_between s.step (min instant due) due

-- what the converter tells: the next scan has this instant
abbrev pub told : Settings → Follower → ℕ → ℕ → Turn
told s f scans instant =
    let next = place s.rate scans in
    let due = instant_on s.window f.course next in
    let lost = told_lost s f.mode (next - f.course.at) due instant in
    let p = place s.rate (scans + lost) in
    let era = if nat_lt instant due then p else f.course.era in
    record {
      follower = record { course = level s p instant era true; best = instant; mode = Told; scans = scans + lost; wall = f.wall; mono = f.mono };
      closed = Some f.course;
      answer = record { lost = lost; jump = told_jump s f.mode due instant };
    }

-- what a follower has
pub record IsSound (s : Settings) (f : Follower) : Type 0 where
  pub course : IsCourse s.window f.course
  pub best : f.best ≤ 2 ^ 64
  pub scans : f.scans ≤ 2 ^ 65

-- and a turn
pub record IsSoundTurn (s : Settings) (u : Turn) : Type 0 where
  pub follower : IsSound s u.follower
  pub closed : IfSome u.closed (IsCourse s.window)
