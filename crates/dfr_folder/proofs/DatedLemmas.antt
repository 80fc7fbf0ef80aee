-- Names are in the order of the instants that they say.
use Rattle.std.proofs.Common.{◌≡◌, ◌⊎◌, ◌≤◌, ◌<◌, ◌*◌, ◌/◌, ℕ, List, refl, sym, ◌∙◌, ap, inl, inr, arith, ℤ, pos, negsuc, neg_ℤ, ◌*ℤ◌, ◌<ℤ◌, ◌≤ℤ◌}
use Rattle.std.specs.Prelude.{slice_index_or, unsigned_abs}
use Rattle.std.proofs.lemmas.Bool.{cases_order}
use Rattle.std.proofs.lemmas.Int.{by_lt_z}
use Rattle.jiff_core.specs.Calendar.{IsCivilDate, IsYear, day_count, days_from_civil}
use Rattle.jiff_core.specs.Date.{epoch_day}
use Rattle.jiff_core.specs.DateTime.{civil_nanos, IsCivilNanos}
use Rattle.jiff_core.specs.Time.{time_nanos, time_seconds}
use Rattle.jiff_core.specs.declared.civil.date.Date.{Date}
use Rattle.jiff_core.specs.declared.civil.time.Time.{Time}
use Rattle.jiff_core.specs.declared.civil.datetime.DateTime.{DateTime}
use Rattle.jiff_core.proofs.CalendarLemmas.{days_from_civil-day_count, days_in_month_bounds, day_count-lt_year}
use Rattle.jiff_core.proofs.DateLemmas.{IsEarlier as IsEarlierDate, cases_date, civil, epoch_day-lt, epoch_day_injective, epoch_day_same}
use Rattle.jiff_core.proofs.DateTimeLemmas.{civil_nanos-lt, civil_nanos-parts, civil_nanos_injective, time_nanos_bound, time_nanos_injective}
use Rattle.jiff_core.proofs.MarchLemmas.{day_count-early}
use Rattle.jiff_core.proofs.SignedLemmas.{signed_arith}
use Rattle.dfr_folder.specs.declared.name.Key.{Key}
use Rattle.dfr_folder.specs.Dated.{HasYear, IsDated, packed}
use Rattle.dfr_folder.specs.Sorting.{IsEarlier, NamesSort, AreInOrder, AreOldestFirst, HaveInstantsInOrder}
use Rattle.dfr_folder.proofs.SortingLemmas.{HasDigits, earlier_before}

-- ---- the year 0

first_count : day_count (pos 0) 1 1 ≡ 3_652_425
first_count = day_count-early (pos 0) 9999 1 1 refl (omega arith) (omega arith) (omega arith)

-- a date from 0000-01-01 on has no negative year
year_is : (y : ℤ) (m d : ℕ) → IsCivilDate y m d → neg_ℤ (pos 719_528) ≤ℤ days_from_civil y m d → pos (unsigned_abs y) ≡ y
year_is (pos y) m d h low = refl
year_is (negsuc y) m d h low =
    let before = day_count-lt_year (negsuc y) m d (pos 0) 1 1 h (omega arith) (omega (arith, signed_arith)) in
    absurd (omega (arith, signed_arith, low, before, first_count, days_from_civil-day_count (negsuc y) m d))

day_low : (t : DateTime) (x : ℤ) → HasYear x → civil_nanos t ≡ x *ℤ pos 1000 → neg_ℤ (pos 719_528) ≤ℤ epoch_day t.date
day_low t x has is = omega (arith, signed_arith, has.0, is, civil_nanos-parts t, time_nanos_bound t.time)

-- ---- dates and times of day as numbers

abbrev year_of : Date → ℕ
year_of date = unsigned_abs date.year

day_few : (date : Date) → (date.month ≤ 12) × (date.day ≤ 31)
day_few date =
    let long = days_in_month_bounds date.year date.month in
    (date.month_in.1, omega (arith, long, date.day_in.1))

date_before : (a b : Date) → pos (year_of a) ≡ a.year → pos (year_of b) ≡ b.year → IsEarlierDate a b → packed (year_of a) a.month a.day < packed (year_of b) b.month b.day
date_before a b ya yb (inl year) =
    let few = day_few a in
    let less : year_of a < year_of b = omega (arith, signed_arith, ya, yb, year) in
    omega (arith, few, less)
date_before a b ya yb (inr (year, inl month)) =
    let few = day_few a in
    omega (arith, few, month, ap unsigned_abs year)
date_before a b ya yb (inr (year, inr day)) = omega (arith, day.0, day.1, ap unsigned_abs year)

-- a later second of the day has a greater number
second_before : (a b : Time) → time_seconds a < time_seconds b → packed a.hour a.minute a.second < packed b.hour b.minute b.second
second_before a b less = omega (arith, less, a.minute_in, a.second_in, b.minute_in, b.second_in)

time_before : (a b : Time) (k l : ℕ) → a.subsec_nanosecond ≡ k * 1000 → b.subsec_nanosecond ≡ l * 1000 → time_nanos a < time_nanos b
    → (packed a.hour a.minute a.second < packed b.hour b.minute b.second) ⊎ ((packed a.hour a.minute a.second ≡ packed b.hour b.minute b.second) × (a.subsec_nanosecond / 1000 < b.subsec_nanosecond / 1000))
time_before a b k l whole entire less = elim (cases_order (time_seconds a) (time_seconds b)) [
  | inl same ↦ inr (omega (arith, same, a.minute_in, a.second_in, b.minute_in, b.second_in), omega (arith, same, less, whole, entire))
  | inr (inl before) ↦ inl (second_before a b before)
  | inr (inr after) ↦ absurd (omega (arith, after, less, a.subsec_in, b.subsec_in))
]

-- the fraction of an instant in microseconds has whole microseconds
fraction : (t : DateTime) (x : ℤ) → civil_nanos t ≡ x *ℤ pos 1000 → t.time.subsec_nanosecond ≡ t.time.subsec_nanosecond / 1000 * 1000
fraction t x is = omega (arith, signed_arith, is, civil_nanos-parts t)

-- ---- keys

-- an earlier instant is the earlier one by the name
pub earlier : (x y : ℤ) (a b : Key) → HasYear x → HasYear y → IsDated x a → IsDated y b → x <ℤ y → IsEarlier a b
earlier x y a b hx hy da db less =
    let s = da.0 in
    let t = db.0 in
    let ys = year_is s.date.year s.date.month s.date.day (civil s.date) (day_low s x hx da.1) in
    let yt = year_is t.date.year t.date.month t.date.day (civil t.date) (day_low t y hy db.1) in
    let nanos : civil_nanos s <ℤ civil_nanos t = omega (arith, signed_arith, da.1, db.1, less) in
    elim (cases_date s.date t.date) [
      | inl before ↦ inl (omega (arith, da.2, db.2, date_before s.date t.date ys yt before))
      | inr (inl after) ↦ absurd (omega (arith, signed_arith, nanos, civil_nanos-lt t s (epoch_day-lt t.date s.date after)))
      | inr (inr same) ↦ (let date : a.date ≡ b.date = omega (arith, da.2, db.2, ap unsigned_abs same.0, same.1, same.2) in
          let day = epoch_day_same s.date t.date same.0 same.1 same.2 in
          let times : time_nanos s.time < time_nanos t.time = omega (arith, signed_arith, nanos, civil_nanos-parts s, civil_nanos-parts t, day) in
          inr (
            date,
            elim (time_before s.time t.time (s.time.subsec_nanosecond / 1000) (t.time.subsec_nanosecond / 1000) (fraction s x da.1) (fraction t y db.1) times) [
              | inl before ↦ inl (omega (arith, da.3, db.3, before))
              | inr at_second ↦ inr (omega (arith, da.3, db.3, at_second.0), omega (arith, da.4, db.4, at_second.1))
            ],
          ))
    ]

one_only : (a b : Key) → IsEarlier a b → IsEarlier b a → ⊥
one_only a b (inl h) (inl k) = omega (arith, h, k)
one_only a b (inl h) (inr (k, rest)) = omega (arith, h, k)
one_only a b (inr (h, rest)) (inl k) = omega (arith, h, k)
one_only a b (inr (h, inl time)) (inr (k, inl other)) = omega (arith, time, other)
one_only a b (inr (h, inl time)) (inr (k, inr other)) = omega (arith, time, other.0)
one_only a b (inr (h, inr micros)) (inr (k, inl other)) = omega (arith, micros.0, other)
one_only a b (inr (h, inr micros)) (inr (k, inr other)) = omega (arith, micros.1, other.1)

not_same : (a b : Key) → IsEarlier a b → a.date ≡ b.date → a.time ≡ b.time → a.micros ≡ b.micros → ⊥
not_same a b (inl h) date time micros = omega (arith, h, date)
not_same a b (inr (h, inl k)) date time micros = omega (arith, k, time)
not_same a b (inr (h, inr k)) date time micros = omega (arith, k.1, micros)

-- the same instant has the same name
same_instant : (x y : ℤ) (a b : Key) → IsDated x a → IsDated y b → x ≡ y → (a.date ≡ b.date) × (a.time ≡ b.time) × (a.micros ≡ b.micros)
same_instant x y a b da db is =
    let nanos : civil_nanos da.0 ≡ civil_nanos db.0 = da.1 ∙ ap (λ (z : ℤ). z *ℤ pos 1000) is ∙ sym db.1 in
    let parts = civil_nanos_injective da.0 db.0 nanos in
    let date = epoch_day_injective da.0.date db.0.date parts.0 in
    let time = time_nanos_injective da.0.time db.0.time parts.1 in
    (omega (arith, da.2, db.2, ap unsigned_abs date.0, date.1, date.2), omega (arith, da.3, db.3, time.0, time.1, time.2), da.4 ∙ ap (λ (n : ℕ). n / 1000) time.3 ∙ sym db.4)

later : (x y : ℤ) (a b : Key) → HasYear x → HasYear y → IsDated x a → IsDated y b → IsEarlier a b → x <ℤ y
later x y a b hx hy da db e =
    by_lt_z x y (λ lt. lt) (λ ge. by_lt_z y x (λ gt. absurd (one_only a b e (earlier y x b a hy hx db da gt)))
    (λ le. let same = same_instant x y a b da db (omega (arith, signed_arith, ge, le)) in
    absurd (not_same a b e same.0 same.1 same.2)))

-- two names are in the order of the instants that they say
pub in_order : (x y : ℤ) (a b : Key) → HasYear x → HasYear y → IsDated x a → IsDated y b → AreInOrder x a y b
in_order x y a b hx hy da db = ((earlier x y a b hx hy da db, later x y a b hx hy da db), (earlier y x b a hy hx db da, later y x b a hy hx db da))

pub has_civil : (x : ℤ) → HasYear x → IsCivilNanos (x *ℤ pos 1000)
has_civil x has = omega (arith, signed_arith, has.0, has.1)

year_few : (y : ℤ) → IsYear y → unsigned_abs y ≤ 9999
year_few (pos y) h = omega (arith, signed_arith, h)
year_few (negsuc y) h = omega (arith, signed_arith, h)

-- the date and the time of day have their digits
dated_digits : (x : ℤ) (a : Key) → IsDated x a → HasDigits a
dated_digits x a d =
    let date = d.0.date in
    let few = day_few date in
    let year = year_few date.year date.year_in in
    let time = d.0.time in
    (omega (arith, d.2, year, few), omega (arith, d.3, time.hour_in, time.minute_in, time.second_in), omega (arith, d.4, time.subsec_in))

pub names_sort : NamesSort
names_sort x y a b hx hy da db less = earlier_before a b (dated_digits x a.key da) (dated_digits y b.key db) (earlier x y a.key b.key hx hy da db less)

-- what is in the order of the keys is in that of the instants
pub instants_in_order : (pairs : List (Key × ℕ)) → AreOldestFirst pairs → HaveInstantsInOrder pairs
instants_in_order pairs oldest i j d x y le lt hx hy dx dy =
    let a = (slice_index_or pairs i d).0 in
    let b = (slice_index_or pairs j d).0 in
    by_lt_z y x (λ gt. absurd (oldest i j d le lt (earlier y x b a hy hx dy dx gt))) (λ ge. ge)
