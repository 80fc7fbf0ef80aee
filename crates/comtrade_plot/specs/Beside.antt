-- Which row of one record goes with a time of another.
use Rattle.std.specs.Prelude.{◌≡◌, ◌<◌, ◌+◌, ◌-◌, ◌≤ℤ◌, ◌<ℤ◌, ℕ, ℤ, List, Option, Some, None, MatchOption, length}
use Rattle.std.specs.List.{HoldsAt, slice_get}
use Rattle.comtrade_plot.specs.declared.plan.course.Moment.{Moment}

-- a row of these times, and its time
abbrev pub IsRow : List (Option ℤ) → Moment → Type 0
IsRow times m = slice_get times m.row ≡ Some (Some m.time)

abbrev pub IsEarlier : Moment → Moment → Type 0
IsEarlier one other = one.time <ℤ other.time

-- a time after the last moment
abbrev pub IsAfter : List Moment → ℤ → Type 0
IsAfter moments time = 0 < length moments → HoldsAt (λ m. m.time <ℤ time) moments (length moments - 1)

-- the index of the last moment that is not after a time
pub record IsLast (moments : List Moment) (time : ℤ) (place : ℕ) : Type 0 where
  pub there : place < length moments
  pub before : HoldsAt (λ m. m.time ≤ℤ time) moments place
  pub after : place + 1 < length moments → HoldsAt (λ m. time <ℤ m.time) moments (place + 1)

-- that index, or none where all moments are after the time
abbrev pub StandsBeside : List Moment → ℤ → Option ℕ → Type 0
StandsBeside moments time place =
    MatchOption place (0 < length moments → HoldsAt (λ m. time <ℤ m.time) moments 0) (IsLast moments time)

-- the same for a row that may have no time
abbrev pub IsBeside : List Moment → Option ℤ → Option ℕ → Type 0
IsBeside moments None place = place ≡ None
IsBeside moments (Some time) place = StandsBeside moments time place
