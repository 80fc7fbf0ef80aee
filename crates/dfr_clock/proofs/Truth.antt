-- How far the course of time may be from true time.
use Rattle.std.proofs.Common.{◌≡◌, ◌∙◌, ℕ, zero, suc, ◌+◌, ◌*◌, ◌-◌, ◌/◌, ◌<◌, ◌≤◌, min, max, true, false, refl, sym, ap, subst, inl, inr, List, [], ◌∷◌, Option, Some, arith}
use Rattle.std.specs.Prelude.{Bool, ◌==◌, nat_lt, nat_le}
use Rattle.std.proofs.lemmas.Nat.{div_below, le-div}
use Rattle.std.proofs.lemmas.Bool.Decides.{nat_tests}
use Rattle.std.proofs.lemmas.Bool.{cases_lt}
use Rattle.std.proofs.Math.Nat.{mul-le-mul_right, mul-le-mul_left, mul-div_cancel, div-mul-le_self, div-le_of_le-mul}
use Rattle.dfr_clock.specs.Courses.{place, instant_on}
use Rattle.dfr_clock.specs.Truth.{IsSteady, IsReading, IsPrompt, HasPrompt, AreReadings, newest_place, least, StaysWithin, WindowLaw, LeastLaw, SlewLaw, OnwardLaw, NearLaw, error_after, EndLaw, DateLaw, ToldLaw}
use Rattle.dfr_clock.specs.Following.{by_clock, next_course, turn, told, best_at, settled, level}
use Rattle.dfr_clock.specs.Courses.{course_at}
use Rattle.dfr_clock.specs.Dating.{course_of, date_of, instant_of, not_before, turned}
use Rattle.dfr_clock.specs.declared.settings.Settings.{Settings}
use Rattle.dfr_clock.specs.declared.course.Course.{Course}
use Rattle.dfr_clock.specs.declared.reading.Reading.{Reading}
use Rattle.dfr_clock.specs.declared.follower.Follower.{Follower}
use Rattle.dfr_clock.specs.declared.follower.Turn.{Turn}
use Rattle.dfr_clock.specs.declared.follower.Mode.{Mode}
use Rattle.dfr_clock.specs.declared.follower.Mode.TheVariants.{Settling, Following, Told}
use Rattle.dfr_clock.specs.declared.timebase.Dated.{Dated}

-- one reading
not_below : (rate p q span drift : ℕ) (truth : ℕ → ℕ) (r : Reading) → q ≤ p + span → IsSteady span drift truth → IsReading rate p q truth r
    → truth q ≤ by_clock p (newest_place rate r) r.wall + (q - p) + drift
not_below rate p q span drift truth r short steady is =
    let near = steady (newest_place rate r) q is.last (omega (arith, is.first)) in
    omega (arith, near.early, is.not_early, is.first, is.last)

not_above : (rate p q span drift delay : ℕ) (truth : ℕ → ℕ) (r : Reading) → q ≤ p + span → IsSteady span drift truth → IsReading rate p q truth r → IsPrompt rate delay truth r
    → by_clock p (newest_place rate r) r.wall + (q - p) ≤ truth q + (drift + delay)
not_above rate p q span drift delay truth r short steady is prompt =
    let near = steady (newest_place rate r) q is.last (omega (arith, is.first)) in
    let all = steady p q (omega (arith, is.first, is.last)) short in
    omega (arith, near.late, all.late, prompt, is.first, is.last)

least_not_below : (rate p q span drift : ℕ) (truth : ℕ → ℕ) (r : Reading) (later : List Reading) → q ≤ p + span → IsSteady span drift truth → AreReadings rate p q truth r later
    → truth q ≤ least rate p r later + (q - p) + drift
least_not_below rate p q span drift truth r [] short steady are = not_below rate p q span drift truth r short steady are
least_not_below rate p q span drift truth r (s ∷ later) short steady are =
    let one = not_below rate p q span drift truth r short steady are.0 in
    let others = least_not_below rate p q span drift truth s later short steady are.1 in
    omega (arith, one, others)

least_not_above : (rate p q span drift delay : ℕ) (truth : ℕ → ℕ) (r : Reading) (later : List Reading) → q ≤ p + span → IsSteady span drift truth → AreReadings rate p q truth r later → HasPrompt rate delay truth r later
    → least rate p r later + (q - p) ≤ truth q + (drift + delay)
least_not_above rate p q span drift delay truth r [] short steady are prompt = not_above rate p q span drift delay truth r short steady are prompt
least_not_above rate p q span drift delay truth r (s ∷ later) short steady are (inl prompt) =
    let one = not_above rate p q span drift delay truth r short steady are.0 prompt in
    omega (arith, one)
least_not_above rate p q span drift delay truth r (s ∷ later) short steady are (inr prompt) =
    let others = least_not_above rate p q span drift delay truth s later short steady are.1 prompt in
    omega (arith, others)

settled_at : (s : Settings) (m : Mode) (c : Course) (best : ℕ) → (settled s m c best).at ≡ c.at
settled_at s Settling c best = refl
settled_at s Following c best = refl
settled_at s Told c best = refl

one_best : (s : Settings) (f : Follower) (r : Reading) → StaysWithin s f r → (turn s f r).follower.best ≡ min f.best (by_clock f.course.at (newest_place s.rate r) r.wall)
one_best s f r stays = ap (λ (u : Turn). u.follower.best) stays

one_at : (s : Settings) (f : Follower) (r : Reading) → StaysWithin s f r → (turn s f r).follower.course.at ≡ f.course.at
one_at s f r stays = ap (λ (u : Turn). u.follower.course.at) stays ∙ settled_at s f.mode f.course (best_at s f r)

min_more : (a b c : ℕ) → min (min a b) c ≡ min a (min b c)
min_more a b c = omega arith

pub window_law : WindowLaw
window_law s f r [] stays = one_best s f r stays
window_law s f r (next ∷ later) stay =
    let g = (turn s f r).follower in
    window_law s g next later stay.1
    ∙ ap (λ (p : ℕ). min g.best (least s.rate p next later)) (one_at s f r stay.0)
    ∙ ap (λ (b : ℕ). min b (least s.rate f.course.at next later)) (one_best s f r stay.0)
    ∙ min_more f.best (by_clock f.course.at (newest_place s.rate r) r.wall) (least s.rate f.course.at next later)

pub least_law : LeastLaw
least_law rate p q span drift delay truth r later short steady are prompt =
    let low = least_not_below rate p q span drift truth r later short steady are in
    let high = least_not_above rate p q span drift delay truth r later short steady are prompt in
    record { early = omega (arith, high); late = omega (arith, low) }

pub slew_law : SlewLaw
slew_law s c instant q = (refl, record { early = omega arith; late = omega arith })

-- a larger number divided by the same
div_more : (a b w : ℕ) → 1 ≤ w → a ≤ b → a / w ≤ b / w
div_more a b w some more =
    let whole = div-mul-le_self a w in
    le-div (a / w) b w some (omega (arith, whole))

line_more : (e f d w : ℕ) → 1 ≤ w → e ≤ f → e * d / w ≤ f * d / w
line_more e f d w some more = div_more (e * d) (f * d) w some (mul-le-mul_right d more)

-- a line has not gained more than all
line_most : (e d w : ℕ) → 1 ≤ w → e < w → e * d / w ≤ d
line_most e d w some within =
    let less = mul-le-mul_right d within in
    let below = div_below (e * d) w (d + 1) some (omega (arith, less)) in
    omega (arith, below)

on_line : (w : ℕ) (c : Course) (p : ℕ) → p - c.at < w → instant_on w c p ≡ c.from + (p - c.at) * (c.to - c.from) / w
on_line w c p h = let t : nat_lt (p - c.at) w ≡ true = grind (arith, nat_tests) in rw t refl

past_line : (w : ℕ) (c : Course) (p : ℕ) → w ≤ p - c.at → instant_on w c p ≡ c.to + (p - c.at - w)
past_line w c p h = let t : nat_lt (p - c.at) w ≡ false = grind (arith, nat_tests) in rw t refl

pub onward_law : OnwardLaw
onward_law w c p q some is more =
    elim (cases_lt (q - c.at) w) [
      | inl inside ↦
          let one = on_line w c p (omega (arith, inside)) in
          let two = on_line w c q inside in
          let line = line_more (p - c.at) (q - c.at) (c.to - c.from) w some (omega arith) in
          omega (arith, one, two, line)
      | inr outside ↦
          let two = past_line w c q outside in
          elim (cases_lt (p - c.at) w) [
            | inl inside ↦
                let one = on_line w c p inside in
                let line = line_most (p - c.at) (c.to - c.from) w some inside in
                omega (arith, one, two, line, is.onward)
            | inr both ↦
                let one = past_line w c p both in
                omega (arith, one, two)
          ]
    ]

-- the slew is no more than a window
slewed_most : (w n : ℕ) → n ≤ 1_000_000 → w * n / 1_000_000 ≤ w
slewed_most w n h =
    let less = mul-le-mul_left w h in
    div-le_of_le-mul 1_000_000 (omega (arith, less))

pub near_law : NearLaw
near_law s c truth span drift near error instant q end fits steady wide short led began =
    let later = steady q end (omega arith) short in
    let slew = slewed_most s.window s.slew fits.slow in
    let at = past_line s.window (next_course s c instant q) end (omega (arith, wide)) in
    record {
      early = omega (arith, at, slew, later.early, later.late, led.early, led.late, began.early, began.late);
      late = omega (arith, at, slew, later.early, later.late, led.early, led.late, began.early, began.late);
    }

-- a product of one more
more_times : (n d : ℕ) → suc n * d ≡ n * d + d
more_times n d = omega arith

falls : (near drift slew error n : ℕ) → drift ≤ slew → error_after near drift slew error n ≤ max (near + drift) (error - n * (slew - drift))
falls near drift slew error zero h = omega arith
falls near drift slew error (suc n) h =
    let before = falls near drift slew error n h in
    let more = more_times n (slew - drift) in
    omega (arith, before, more)

pub end_law : EndLaw
end_law near drift slew error n h enough =
    let left = falls near drift slew error n h in
    omega (arith, left, enough)

-- a date is not before the one before it in the same era
kept_order : (was now date instant : ℕ) → was ≡ now → date ≤ not_before (Some (record { era = was; instant = date })) now instant
kept_order was now date instant same = let t : (was == now) ≡ true = grind (arith, nat_tests) in rw t (omega arith)

pub date_law : DateLaw
date_law t u j k last same =
    let era = (course_of u (place u.settings.rate k)).era in
    subst (λ (l : Option Dated). date_of t j ≤ not_before l era (instant_of u k)) (sym last) (kept_order (course_of t (place t.settings.rate j)).era era (date_of t j) (instant_of u k) same)

-- a course that runs as the scans do
level_at : (s : Settings) (p instant era : ℕ) (by : Bool) (q : ℕ) → 1 ≤ s.window → p ≤ q → instant_on s.window (level s p instant era by) q ≡ instant + (q - p)
level_at s p instant era by q some more =
    let whole : instant + s.window - instant ≡ s.window = omega arith in
    elim (cases_lt (q - p) s.window) [
      | inl inside ↦
          on_line s.window (level s p instant era by) q inside
          ∙ ap (λ (d : ℕ). instant + (q - p) * d / s.window) whole
          ∙ ap (λ (d : ℕ). instant + d) (mul-div_cancel (q - p) some)
      | inr outside ↦
          let past = past_line s.window (level s p instant era by) q outside in
          omega (arith, past)
    ]

-- the newest course is that of all places from its own on
newest_at : (c : Course) (older : List Course) (q : ℕ) → c.at ≤ q → course_at c older q ≡ c
newest_at c [] q more = refl
newest_at c (d ∷ older) q more = let t : nat_le c.at q ≡ true = grind (arith, nat_tests) in rw t refl

pub told_law : ToldLaw
told_law t scans instant k fits more =
    let u = told t.settings t.follower scans instant in
    let c = u.follower.course in
    let q = place t.settings.rate k in
    let onward : c.at ≤ q = line_more (scans + u.answer.lost) k 1_000_000 t.settings.rate fits.some more in
    let past = (turned t u).past in
    ap (λ (d : Course). instant_on t.settings.window d q) (newest_at c past q onward)
    ∙ level_at t.settings c.at instant c.era true q fits.wide onward
