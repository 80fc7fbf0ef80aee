-- Where the point stands.
use Rattle.std.proofs.Common.{◌≡◌, ℕ, zero, suc, ◌+◌, ◌-◌, ◌<◌, ◌≤◌, List, [], ◌∷◌, ◌++◌, length, take, drop, refl, ap, arith, ℤ, pos, negsuc, ◌<ℤ◌, ◌≤ℤ◌, length-append, add-one}
use Rattle.std.specs.List.{repeat}
use Rattle.std.proofs.lemmas.Int.{ints}
use Rattle.comtrade_values.specs.Written.{filled}
use Rattle.comtrade_values.specs.Written.{with_point, pointed, minus}

length-zeros : (z k : ℕ) → length (repeat k (z ∷ [])) ≡ k
length-zeros z zero = refl
length-zeros z (suc k) = omega (arith, length-zeros z k)

pub repeat_more : (z k : ℕ) → repeat (k + 1) (z ∷ []) ≡ repeat k (z ∷ []) ++ z ∷ []
repeat_more z zero = refl
repeat_more z (suc k) = rw add-one (ap (λ (xs : List ℕ). z ∷ xs) (rw add-one at (repeat_more z k)))

pub pointed_none : (ds : List ℕ) → pointed 0 ds ≡ ds
unfolding pointed
pointed_none ds = refl

pub pointed_inside : (places : ℕ) (ds : List ℕ) → 0 < places → places < length ds → pointed places ds ≡ take (length ds - places) ds ++ 46 ∷ drop (length ds - places) ds
unfolding pointed with_point filled
pointed_inside zero ds low h = absurd (omega arith)
pointed_inside (suc p) ds low h =
    let none : suc p + 1 - length ds ≡ 0 = omega arith in
    rw none refl

pub pointed_before : (places : ℕ) (ds : List ℕ) → 0 < places → length ds ≤ places → pointed places ds ≡ 48 ∷ 46 ∷ repeat (places - length ds) (48 ∷ []) ++ ds
unfolding pointed with_point filled
pointed_before zero ds low h = absurd (omega arith)
pointed_before (suc p) ds low h =
    let more : suc p + 1 - length ds ≡ suc (suc p - length ds) = omega arith in
    let len : length (repeat (suc (suc p - length ds)) (48 ∷ []) ++ ds) ≡ suc (suc p) = omega (arith, length-append (repeat (suc (suc p - length ds)) (48 ∷ [])) ds, length-zeros 48 (suc (suc p - length ds))) in
    let one : suc (suc p) - suc p ≡ 1 = omega arith in
    rw (more, len, one) refl

pub minus-below : (z : ℤ) → z <ℤ pos 0 → minus z ≡ 45 ∷ []
minus-below (pos n) h = absurd (omega (arith, ints))
minus-below (negsuc n) h = refl

pub minus-not_below : (z : ℤ) → pos 0 ≤ℤ z → minus z ≡ []
minus-not_below (pos n) h = refl
minus-not_below (negsuc n) h = absurd (omega (arith, ints))
