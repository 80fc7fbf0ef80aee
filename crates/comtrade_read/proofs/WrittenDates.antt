-- Dates and times that are written are read.
use Rattle.std.proofs.Common.{◌≡◌, ℕ, zero, suc, ◌+◌, ◌*◌, ◌/◌, ◌%◌, ◌<◌, ◌≤◌, ◌^◌, true, false, List, ◌∷◌, ◌++◌, length, Some, refl, ap, ◌∙◌, arith, append_assoc, inl, inr}
use Rattle.std.specs.Prelude.{ℤ, pos, neg_ℤ, ◌≤ℤ◌, ◌<ℤ◌, ◌+ℤ◌, ◌-ℤ◌, int_le, unsigned_abs}
use Rattle.std.specs.Int.{int_div_euclid, int_rem_euclid}
use Rattle.std.specs.Str.Parse.{AllDigits}
use Rattle.std.proofs.lemmas.Bool.{le-leb, cases_lt, cond_both}
use Rattle.std.proofs.lemmas.Bool.Decides.{nat_tests}
use Rattle.jiff_core.specs.Calendar.{IsCivilDate, day_count, days_from_civil, days_in_month, days_in_year}
use Rattle.jiff_core.proofs.CalendarLemmas.{days_from_civil-day_count, day_count-day, day_count-next_month, day_count-last_of_year, day_count-next_year, day_count-end, days_in_month_bounds}
use Rattle.jiff_core.proofs.MarchLemmas.{day_count-early}
use Rattle.jiff_core.proofs.SignedLemmas.{signed_arith, one_part}
use Rattle.comtrade_values.specs.Written.{padded}
use Rattle.comtrade_values.specs.Dates.{last_that, year_of, month_of, civil_of, day_number, time_of_day, date_text, time_text}
use Rattle.comtrade_read.specs.Instant.{digits, is_slash, is_colon, is_dot, day_at, date, micros, seconds, time_at, time, instant_at}
use Rattle.comtrade_read.proofs.AllOf.{All-append, All-digits}
use Rattle.comtrade_read.proofs.Digits.{digits_tested}
use Rattle.comtrade_read.proofs.WrittenFields.{Printed, printed}
use Rattle.comtrade_read.proofs.Numerals.{Filled, padded_is, cut_at}

-- ---- every day has its date

-- the last of the times f 1 to f top that have begun on this day
record Last (f : ℕ → ℤ) (day : ℤ) (top n : ℕ) : Type 0 where
  low : 1 ≤ n
  high : n ≤ top
  begun : f n ≤ℤ day
  next : n < top → day <ℤ f (n + 1)

last_is : (f : ℕ → ℤ) (day : ℤ) (n : ℕ) → f 1 ≤ℤ day → Last f day (suc n) (last_that (λ k. int_le (f k) day) (suc n))
unfolding last_that
last_is f day zero one = cond_both (int_le (f 1) day) 1 0 (Last f day 1)
    (λ t. record { low = omega arith; high = omega arith; begun = one; next = λ lt. absurd (omega arith) })
    (λ t. absurd (omega (arith, signed_arith, t)))
last_is f day (suc n) one =
    let before = last_is f day n one in
    let last = last_that (λ k. int_le (f k) day) (suc n) in
    cond_both (int_le (f (suc (suc n))) day) (suc (suc n)) last (Last f day (suc (suc n)))
    (λ t. record { low = omega arith; high = omega arith; begun = omega (arith, signed_arith, t); next = λ lt. absurd (omega arith) })
    (λ t. record {
      low = before.low;
      high = omega (arith, before.high);
      begun = before.begun;
      next = λ lt. elim (cases_lt last (suc n)) [
        | inl less ↦ before.next less
        | inr le ↦ (let top : last + 1 ≡ suc (suc n) = omega (arith, before.high) in rw top (omega (arith, signed_arith, t)))
      ];
    })

year_is : (day : ℤ) → neg_ℤ (pos 719_162) ≤ℤ day → Last (λ y. days_from_civil (pos y) 1 1) day 9999 (year_of day)
unfolding year_of
year_is day low =
    let first : day_count (pos 1) 1 1 ≡ 3_652_791 = day_count-early (pos 1) 10000 1 1 refl (omega arith) (omega arith) (omega arith) in
    last_is (λ y. days_from_civil (pos y) 1 1) day 9998 (omega (arith, signed_arith, days_from_civil-day_count (pos 1) 1 1))

month_is : (day : ℤ) → days_from_civil (pos (year_of day)) 1 1 ≤ℤ day → Last (λ m. days_from_civil (pos (year_of day)) m 1) day 12 (month_of day)
unfolding month_of
month_is day begun = last_is (λ m. days_from_civil (pos (year_of day)) m 1) day 11 begun

-- the day lies in the month that is found
in_month : (day : ℤ) (y m : ℕ) → day ≤ℤ pos 2_932_896 → Last (λ n. days_from_civil (pos n) 1 1) day 9999 y → Last (λ n. days_from_civil (pos y) n 1) day 12 m
    → day <ℤ (days_from_civil (pos y) m 1 +ℤ pos (days_in_month (pos y) m))
in_month day y m high year month = elim (cases_lt m 12) [
  | inl lt ↦ omega (arith, signed_arith, month.next lt, days_from_civil-day_count (pos y) m 1, days_from_civil-day_count (pos y) (m + 1) 1, day_count-next_month (pos y) m month.low)
  | inr le ↦
      let last : m ≡ 12 = omega (arith, month.high) in
      let next_year : day_count (pos (y + 1)) 1 1 ≡ day_count (pos y) 1 1 + days_in_year (pos y) = day_count-next_year (pos y) (pos (y + 1)) (omega (arith, signed_arith)) (omega (arith, signed_arith)) in
      let before : day <ℤ days_from_civil (pos (y + 1)) 1 1 = elim (cases_lt y 9999) [
        | inl lt ↦ year.next lt
        | inr le ↦ (let top : y + 1 ≡ 10000 = omega (arith, year.high) in rw top (omega (arith, signed_arith, day_count-end, days_from_civil-day_count (pos 10000) 1 1)))
      ] in
      rw last (omega (arith, signed_arith, before, next_year, day_count-last_of_year (pos y), day_count-day (pos y) 12 1 31 (omega arith) (omega arith), days_from_civil-day_count (pos y) 12 1, days_from_civil-day_count (pos (y + 1)) 1 1))
]

-- the civil date of a day that files can say
pub record Dated (day : ℤ) : Type 0 where
  pub civil : IsCivilDate (pos (civil_of day).year) (civil_of day).month (civil_of day).day
  pub some : 1 ≤ (civil_of day).year
  pub is : days_from_civil (pos (civil_of day).year) (civil_of day).month (civil_of day).day ≡ day

pub dated : (day : ℤ) → neg_ℤ (pos 719_162) ≤ℤ day → day ≤ℤ pos 2_932_896 → Dated day
unfolding civil_of
dated day low high =
    let y = year_of day in
    let m = month_of day in
    let year = year_is day low in
    let month = month_is day year.begun in
    let stop = in_month day y m high year month in
    let first = days_from_civil (pos y) m 1 in
    let n = unsigned_abs (day -ℤ first) in
    let n_is : day -ℤ first ≡ pos n = omega (arith, signed_arith, month.begun, one_part (day -ℤ first)) in
    let inside : n + 1 ≤ days_in_month (pos y) m = omega (arith, signed_arith, n_is, stop) in
    let same = day_count-day (pos y) m 1 (n + 1) (omega arith) (omega arith) in
    let is : days_from_civil (pos y) m (n + 1) ≡ day = omega (arith, signed_arith, n_is, same, days_from_civil-day_count (pos y) m (n + 1), days_from_civil-day_count (pos y) m 1) in
    record { civil = ((omega (arith, signed_arith, year.high), omega (arith, signed_arith, year.high)), (month.low, month.high), (omega arith, inside)); some = year.low; is = is }

-- ---- digits in a field

read : (low high n x : ℕ) (t : List ℕ) → low ≤ n → n ≤ high → Filled n x t → digits low high t ≡ Some x
unfolding digits
read low high n x t a b f =
    rw (le-leb low (length t) (omega (arith, f.long)), le-leb (length t) high (omega (arith, f.long)), digits_tested t f.digits) (ap (λ (v : ℕ). Some v) f.value)

two : (x : ℕ) → x < 10 ^ 2 → Filled 2 x (padded 2 x)
two x lt = padded_is 2 x (omega arith) lt (omega arith)

printed_filled : (n x : ℕ) (t : List ℕ) → Filled n x t → Printed t
printed_filled n x t f = All-digits (λ b. printed b ≡ true) (λ c low high. grind (arith, nat_tests)) t f.digits

printed_three : (mark x y z n : ℕ) (a b c : List ℕ) → printed mark ≡ true → Filled 2 x a → Filled 2 y b → Filled n z c → Printed ((a ++ mark ∷ b) ++ mark ∷ c)
printed_three mark x y z n a b c t fa fb fc =
    let front = All-append _ a (mark ∷ b) (printed_filled 2 x a fa) (t, printed_filled 2 y b fb) in
    All-append _ (a ++ mark ∷ b) (mark ∷ c) front (t, printed_filled n z c fc)

-- ---- dates

date_filled : (day : ℤ) → Dated day → (let c = civil_of day in Filled 2 c.day (padded 2 c.day) × Filled 2 c.month (padded 2 c.month) × Filled 4 c.year (padded 4 c.year))
date_filled day x = (
  two (civil_of day).day (omega (arith, x.civil.2.1, days_in_month_bounds (pos (civil_of day).year) (civil_of day).month)),
  two (civil_of day).month (omega (arith, x.civil.1.1)),
  padded_is 4 (civil_of day).year (omega arith) (omega (arith, signed_arith, x.civil.0.1)) (omega (arith, signed_arith, x.civil.0.1)),
)

date_read : (a b c : List ℕ) (d m y : ℕ) (day : ℤ) → Filled 2 d a → Filled 2 m b → Filled 4 y c → day_at y m d ≡ Some day → date (a ++ 47 ∷ (b ++ 47 ∷ c)) ≡ Some day
unfolding date
date_read a b c d m y day fa fb fc e =
    let fails = λ (t : List ℕ) (h : AllDigits 10 t). All-digits (λ c. is_slash c ≡ false) (λ c low high. grind (arith, nat_tests)) t h in
    let one = cut_at is_slash a 47 (b ++ 47 ∷ c) (fails a fa.digits) refl in
    let next = cut_at is_slash b 47 c (fails b fb.digits) refl in
    rw (one.there, one.front, one.back, next.there, next.front, next.back, read 1 2 2 d a (omega arith) (omega arith) fa, read 1 2 2 m b (omega arith) (omega arith) fb, read 4 4 4 y c (omega arith) (omega arith) fc) e

pub date_written : (day : ℤ) → Dated day → date (date_text (civil_of day)) ≡ Some day
unfolding date_text day_at
date_written day x =
    let y = (civil_of day).year in
    let m = (civil_of day).month in
    let d = (civil_of day).day in
    let f = date_filled day x in
    let at : day_at y m d ≡ Some day =
    rw (le-leb 1 y x.some, le-leb 1 m x.civil.1.0, le-leb m 12 x.civil.1.1, le-leb 1 d x.civil.2.0, le-leb d (days_in_month (pos y) m) x.civil.2.1) (ap (λ (z : ℤ). Some z) x.is) in
    ap date (append_assoc (padded 2 d) (47 ∷ padded 2 m) (47 ∷ padded 4 y)) ∙ date_read (padded 2 d) (padded 2 m) (padded 4 y) d m y day f.0 f.1 f.2 at

pub date_printed : (day : ℤ) → Dated day → Printed (date_text (civil_of day))
unfolding date_text
date_printed day x = let f = date_filled day x in printed_three 47 _ _ _ 4 (padded 2 (civil_of day).day) (padded 2 (civil_of day).month) (padded 4 (civil_of day).year) refl f.0 f.1 f.2

-- ---- times

micros_read : (u : ℕ) (t : List ℕ) → Filled 6 u t → micros t ≡ Some u
unfolding micros
micros_read u t f = rw (read 1 6 6 u t (omega arith) (omega arith) f, f.long) (ap (λ (n : ℕ). Some n) (omega arith))

seconds_read : (s u : ℕ) (a b : List ℕ) → Filled 2 s a → Filled 6 u b → seconds (a ++ 46 ∷ b) ≡ Some (s, u)
unfolding seconds
seconds_read s u a b fa fb =
    let c = cut_at is_dot a 46 b (All-digits (λ c. is_dot c ≡ false) (λ c low high. grind (arith, nat_tests)) a fa.digits) refl in
    rw (c.there, c.front, c.back, read 1 2 2 s a (omega arith) (omega arith) fa, micros_read u b fb) refl

time_read : (a b c : List ℕ) (h m s u : ℕ) → Filled 2 h a → Filled 2 m b → seconds c ≡ Some (s, u) → h ≤ 23 → m ≤ 59 → s ≤ 59
    → time (a ++ 58 ∷ (b ++ 58 ∷ c)) ≡ Some (((h * 60 + m) * 60 + s) * 1000000 + u)
unfolding time time_at
time_read a b c h m s u fa fb e lh lm ls =
    let fails = λ (t : List ℕ) (h : AllDigits 10 t). All-digits (λ c. is_colon c ≡ false) (λ c low high. grind (arith, nat_tests)) t h in
    let one = cut_at is_colon a 58 (b ++ 58 ∷ c) (fails a fa.digits) refl in
    let next = cut_at is_colon b 58 c (fails b fb.digits) refl in
    rw (one.there, one.front, one.back, next.there, next.front, next.back, read 1 2 2 h a (omega arith) (omega arith) fa, read 1 2 2 m b (omega arith) (omega arith) fb, e, le-leb h 23 lh, le-leb m 59 lm, le-leb s 59 ls) refl

whole_time : (us : ℕ) → ((us / 3_600_000_000 * 60 + us / 60_000_000 % 60) * 60 + us / 1_000_000 % 60) * 1000000 + us % 1_000_000 ≡ us
whole_time us = omega arith

pub time_written : (us : ℕ) → us < 86_400_000_000 → time (time_text us) ≡ Some us
unfolding time_text
time_written us lt =
    let h = us / 3_600_000_000 in
    let m = us / 60_000_000 % 60 in
    let s = us / 1_000_000 % 60 in
    let u = us % 1_000_000 in
    let c = padded 2 s ++ 46 ∷ padded 6 u in
    let group : ((padded 2 h ++ 58 ∷ padded 2 m) ++ 58 ∷ padded 2 s) ++ 46 ∷ padded 6 u ≡ padded 2 h ++ 58 ∷ (padded 2 m ++ 58 ∷ c) = simp append_assoc in
    let seconds_are = seconds_read s u (padded 2 s) (padded 6 u) (two s (omega arith)) (padded_is 6 u (omega arith) (omega arith) (omega arith)) in
    ap time group ∙ time_read (padded 2 h) (padded 2 m) c h m s u (two h (omega arith)) (two m (omega arith)) seconds_are (omega arith) (omega arith) (omega arith) ∙ ap (λ (n : ℕ). Some n) (whole_time us)

pub time_printed : (us : ℕ) → us < 86_400_000_000 → Printed (time_text us)
unfolding time_text
time_printed us lt =
    let h = us / 3_600_000_000 in
    let m = us / 60_000_000 % 60 in
    let s = us / 1_000_000 % 60 in
    let u = us % 1_000_000 in
    All-append _ ((padded 2 h ++ 58 ∷ padded 2 m) ++ 58 ∷ padded 2 s) (46 ∷ padded 6 u)
    (printed_three 58 h m s 2 (padded 2 h) (padded 2 m) (padded 2 s) refl (two h (omega arith)) (two m (omega arith)) (two s (omega arith)))
    (refl, printed_filled 6 u (padded 6 u) (padded_is 6 u (omega arith) (omega arith) (omega arith)))

-- ---- instants

-- what an instant of the years 1 to 9999 is made of
pub record Instant (t : ℤ) : Type 0 where
  pub dated_day : Dated (day_number t)
  pub small : time_of_day t < 86_400_000_000
  pub is : t ≡ instant_at (day_number t) (time_of_day t)

pub instant_written : (t : ℤ) → neg_ℤ (pos 62_135_596_800_000_000) ≤ℤ t → t ≤ℤ pos 253_402_300_799_999_999 → Instant t
unfolding day_number time_of_day instant_at
instant_written t low high = record {
  dated_day = dated (int_div_euclid t (pos 86_400_000_000)) (omega (arith, signed_arith)) (omega (arith, signed_arith));
  small = omega (arith, signed_arith);
  is = omega (arith, signed_arith, one_part (int_rem_euclid t (pos 86_400_000_000)));
}
