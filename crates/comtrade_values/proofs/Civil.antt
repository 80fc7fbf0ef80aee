-- The civil date of a day number is the date that has that day number.
use Rattle.std.proofs.Common.{◌≡◌, ℕ, zero, suc, ◌+◌, ◌-◌, ◌<◌, ◌≤◌, Bool, true, false, inl, inr, refl, sym, ap, ◌∙◌, arith, ℤ, pos, negsuc, neg_ℤ, ◌-ℤ◌, ◌≤ℤ◌, ◌<ℤ◌, unsigned_abs}
use Rattle.std.specs.Prelude.{int_le}
use Rattle.std.proofs.lemmas.Int.{ints}
use Rattle.std.proofs.lemmas.Bool.{cases_lt}
use Rattle.jiff_core.specs.Calendar.{IsCivilDate, day_count, days_from_civil}
use Rattle.jiff_core.proofs.CalendarLemmas.{days_from_civil-day_count, day_count-day_of_year, day_count-lt_year, day_count-lt_month, day_count-day}
use Rattle.jiff_core.proofs.SignedLemmas.{signed_arith}
use Rattle.jiff_core.proofs.MarchLemmas.{day_count-early}
use Rattle.comtrade_values.specs.Dates.{last_that, year_of, month_of, civil_of}
use Rattle.comtrade_values.proofs.Comparing.{int_le-true}

last_that-is : (test : ℕ → Bool) (top n : ℕ) → n ≤ top → test n ≡ true → ((k : ℕ) → n < k → k ≤ top → test k ≡ false) → last_that test top ≡ n
unfolding last_that
last_that-is test zero n h holds fails = omega arith
last_that-is test (suc top) n h holds fails =
    elim (cases_lt n (suc top)) [
      | inl lt ↦ (let out = fails (suc top) lt (omega arith) in
          let ih = last_that-is test top n (omega arith) holds (λ k a b. fails k a (omega arith)) in
          rw out ih)
      | inr le ↦ (let e : suc top ≡ n = omega arith in
          let at_top : test (suc top) ≡ true = rw e holds in
          rw at_top e)
    ]

int_le-false : (a b : ℤ) → b <ℤ a → int_le a b ≡ false
int_le-false a b h = grind (arith, ints)

from_counts_le : (y y₂ : ℤ) (m d m₂ d₂ : ℕ) → day_count y m d ≤ day_count y₂ m₂ d₂ → days_from_civil y m d ≤ℤ days_from_civil y₂ m₂ d₂
from_counts_le y y₂ m d m₂ d₂ h = omega (arith, signed_arith, days_from_civil-day_count y m d, days_from_civil-day_count y₂ m₂ d₂)

from_counts_lt : (y y₂ : ℤ) (m d m₂ d₂ : ℕ) → day_count y m d < day_count y₂ m₂ d₂ → days_from_civil y m d <ℤ days_from_civil y₂ m₂ d₂
from_counts_lt y y₂ m d m₂ d₂ h = omega (arith, signed_arith, days_from_civil-day_count y m d, days_from_civil-day_count y₂ m₂ d₂)

year_of-is : (y m d : ℕ) → IsCivilDate (pos y) m d → year_of (days_from_civil (pos y) m d) ≡ y
unfolding year_of
year_of-is y m d h =
    last_that-is _ 9999 y (omega (arith, signed_arith))
    (int_le-true _ _ (from_counts_le (pos y) (pos y) 1 1 m d (omega (arith, day_count-day_of_year (pos y) m d h.2.0))))
    (λ k lt le. int_le-false _ _ (from_counts_lt (pos y) (pos k) m d 1 1 (day_count-lt_year (pos y) m d (pos k) 1 1 h (omega arith) (omega (arith, signed_arith)))))

month_of-is : (y m d : ℕ) → IsCivilDate (pos y) m d → month_of (days_from_civil (pos y) m d) ≡ m
unfolding month_of
month_of-is y m d h =
    let year = year_of-is y m d h in
    rw year (last_that-is _ 12 m h.1.1
    (int_le-true _ _ (from_counts_le (pos y) (pos y) m 1 m d (omega (arith, day_count-day (pos y) m 1 d (omega arith) h.2.0))))
    (λ k lt le. int_le-false _ _ (from_counts_lt (pos y) (pos y) m d k 1 (day_count-lt_month (pos y) m d k 1 h (omega arith) lt))))

pub civil_of-is : (y m d : ℕ) → IsCivilDate (pos y) m d → civil_of (days_from_civil (pos y) m d) ≡ record { year = y; month = m; day = d }
unfolding civil_of
civil_of-is y m d h =
    let year = year_of-is y m d h in
    let month = month_of-is y m d h in
    let apart : days_from_civil (pos y) m d -ℤ days_from_civil (pos y) m 1 ≡ pos (d - 1) = omega (arith, signed_arith, days_from_civil-day_count (pos y) m d, days_from_civil-day_count (pos y) m 1, day_count-day (pos y) m 1 d (omega arith) h.2.0, h.2.0) in
    let low : 1 ≤ d = h.2.0 in
    let days : d - 1 + 1 ≡ d = omega arith in
    rw (year, month, apart, days) refl

first_count : day_count (pos 1) 1 1 ≡ 3_652_791
first_count = day_count-early (pos 1) 10000 1 1 refl (omega arith) (omega arith) (omega arith)

-- a date from 0001-01-01 on has a year above 0
pub civil_of-date : (y : ℤ) (m d : ℕ) (day : ℤ) → IsCivilDate y m d → days_from_civil y m d ≡ day → neg_ℤ (pos 719_162) ≤ℤ day → (civil_of day ≡ record { year = unsigned_abs y; month = m; day = d }) × (unsigned_abs y < 10_000)
civil_of-date (pos y) m d day h e low =
    let bound : y < 10_000 = omega (arith, signed_arith, h.0.1) in
    (ap civil_of (sym e) ∙ civil_of-is y m d h, bound)
civil_of-date (negsuc y) m d day h e low =
    let before = day_count-lt_year (negsuc y) m d (pos 1) 1 1 h (omega arith) (omega (arith, signed_arith)) in
    absurd (omega (arith, signed_arith, e, first_count, days_from_civil-day_count (negsuc y) m d))
