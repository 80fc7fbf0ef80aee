-- How far the course of time may be from true time. Times are in microseconds, and "-" gives 0 where the second is the larger one.
use Rattle.std.specs.Prelude.{◌≡◌, ℕ, zero, suc, ◌+◌, ◌*◌, ◌-◌, ◌≤◌, min, max, ◌⊎◌, List, [], ◌∷◌}
use Rattle.dfr_clock.specs.Settings.{slewed, Fits}
use Rattle.dfr_clock.specs.Courses.{place, instant_on, IsCourse}
use Rattle.dfr_clock.specs.Following.{by_clock, next_course, turn, told, best_at, settled, within_window}
use Rattle.dfr_clock.specs.Dating.{Kept, course_of, instant_of, date_of, dated, turned}
use Rattle.dfr_clock.specs.declared.settings.Settings.{Settings}
use Rattle.dfr_clock.specs.declared.course.Course.{Course}
use Rattle.dfr_clock.specs.declared.reading.Reading.{Reading}
use Rattle.dfr_clock.specs.declared.follower.Follower.{Follower}

-- two instants differ by at most so much
pub record AreWithin (most a b : ℕ) : Type 0 where
  pub early : a ≤ b + most
  pub late : b ≤ a + most

-- over a span of places, true time and the scans drift apart by at most so much
abbrev pub IsSteady : ℕ → ℕ → (ℕ → ℕ) → Type 0
IsSteady span drift truth = (p q : ℕ) → p ≤ q → q ≤ p + span → AreWithin drift (truth q) (truth p + (q - p))

-- the place of the newest scan of a reading
abbrev pub newest_place : ℕ → Reading → ℕ
newest_place rate r = place rate (r.scans - 1)

-- a reading between two places that isn't early: delays only add
pub record IsReading (rate p q : ℕ) (truth : ℕ → ℕ) (r : Reading) : Type 0 where
  pub first : p ≤ newest_place rate r
  pub last : newest_place rate r ≤ q
  pub not_early : truth (newest_place rate r) ≤ r.wall

-- a reading that is late by no more than this
abbrev pub IsPrompt : ℕ → ℕ → (ℕ → ℕ) → Reading → Type 0
IsPrompt rate delay truth r = r.wall ≤ truth (newest_place rate r) + delay

-- the least instant of place p by this reading and those after it
abbrev pub least : ℕ → ℕ → Reading → List Reading → ℕ
least rate p r [] = by_clock p (newest_place rate r) r.wall
least rate p r (s ∷ later) = min (by_clock p (newest_place rate r) r.wall) (least rate p s later)

-- all of them are readings between two places, and one of them is prompt
abbrev pub HasPrompt : ℕ → ℕ → (ℕ → ℕ) → Reading → List Reading → Type 0
HasPrompt rate delay truth r [] = IsPrompt rate delay truth r
HasPrompt rate delay truth r (s ∷ later) = IsPrompt rate delay truth r ⊎ HasPrompt rate delay truth s later

abbrev pub AreReadings : ℕ → ℕ → ℕ → (ℕ → ℕ) → Reading → List Reading → Type 0
AreReadings rate p q truth r [] = IsReading rate p q truth r
AreReadings rate p q truth r (s ∷ later) = IsReading rate p q truth r × AreReadings rate p q truth s later

-- what is followed after these readings
abbrev pub through : Settings → Follower → List Reading → Follower
through s f [] = f
through s f (r ∷ later) = through s (turn s f r).follower later

-- a reading that neither begins anew nor ends the window
abbrev pub StaysWithin : Settings → Follower → Reading → Type 0
StaysWithin s f r = turn s f r ≡ within_window f (settled s f.mode f.course (best_at s f r)) (best_at s f r) r

abbrev pub AllStay : Settings → Follower → Reading → List Reading → Type 0
AllStay s f r [] = StaysWithin s f r
AllStay s f r (next ∷ later) = StaysWithin s f r × AllStay s (turn s f r).follower next later

-- What is followed keeps the least instant of all readings of the window.
abbrev pub WindowLaw : Type 0
WindowLaw =
    (s : Settings) (f : Follower) (r : Reading) (later : List Reading) → AllStay s f r later
    → (through s f (r ∷ later)).best ≡ min f.best (least s.rate f.course.at r later)

-- The least instant of a window, as that of the place at its end, is true up to the drift over the window and the delay of the promptest
-- reading, however late the others are.
abbrev pub LeastLaw : Type 0
LeastLaw =
    (rate p q span drift delay : ℕ) (truth : ℕ → ℕ) (r : Reading) (later : List Reading) → q ≤ p + span → IsSteady span drift truth
    → AreReadings rate p q truth r later → HasPrompt rate delay truth r later
    → AreWithin (drift + delay) (least rate p r later + (q - p)) (truth q)

-- A course begins where the one before it is at that place, and gains or loses at most the slew over its window.
abbrev pub SlewLaw : Type 0
SlewLaw = (s : Settings) (c : Course) (instant q : ℕ) → let next = next_course s c instant q in (next.from ≡ instant_on s.window c q) × AreWithin (slewed s) next.to (next.from + s.window)

-- A course never runs back.
abbrev pub OnwardLaw : Type 0
OnwardLaw = (window : ℕ) (c : Course) (p q : ℕ) → 1 ≤ window → IsCourse window c → p ≤ q → instant_on window c p ≤ instant_on window c q

-- A course from place q on is led by an instant that is true up to `near`, and begins with an error of at most `error`. Where the next one
-- begins, a window later or more, its error is that of the instant and the drift, or less than before by the slew.
abbrev pub NearLaw : Type 0
NearLaw =
    (s : Settings) (c : Course) (truth : ℕ → ℕ) (span drift near error instant q end : ℕ) → Fits s → IsSteady span drift truth
    → q + s.window ≤ end → end ≤ q + span → AreWithin near instant (truth q) → AreWithin error (instant_on s.window c q) (truth q)
    → AreWithin (max (near + drift) (error + drift - slewed s)) (instant_on s.window (next_course s c instant q) end) (truth end)

-- the error after n windows, each as above
abbrev pub error_after : ℕ → ℕ → ℕ → ℕ → ℕ → ℕ
error_after near drift slew error zero = error
error_after near drift slew error (suc n) = max (near + drift) (error_after near drift slew error n + drift - slew)

-- If the slew is more than the drift over a window, it takes so many windows until only the error of the instant and the drift is left.
abbrev pub EndLaw : Type 0
EndLaw = (near drift slew error n : ℕ) → drift ≤ slew → error ≤ n * (slew - drift) → error_after near drift slew error n ≤ near + drift

-- The dates of two scans are in order, unless the clock was set between, whatever came between them.
abbrev pub DateLaw : Type 0
DateLaw =
    (t u : Kept) (j k : ℕ) → u.last ≡ (dated t j).last
    → (course_of t (place t.settings.rate j)).era ≡ (course_of u (place u.settings.rate k)).era → date_of t j ≤ date_of u k

-- What the converter tells is exact: the next scan, behind those that are lost, has that instant, and later ones follow by the rate.
abbrev pub ToldLaw : Type 0
ToldLaw =
    (t : Kept) (scans instant k : ℕ) → Fits t.settings
    → let u = told t.settings t.follower scans instant in
    scans + u.answer.lost ≤ k
    → instant_of (turned t u) k ≡ instant + (place t.settings.rate k - place t.settings.rate (scans + u.answer.lost))
