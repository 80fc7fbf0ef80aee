-- Numbers of few digits.
use Rattle.std.proofs.Common.{◌≡◌, ℕ, suc, ◌+◌, ◌-◌, ◌*◌, ◌^◌, ◌<◌, ◌≤◌, true, List, length, drop, get_or, arith, add-one, drop-cons}
use Rattle.std.proofs.Math.Nat.{pow-suc, pow-le-pow_right}
use Rattle.std.specs.Char.{digit_value, is_ascii_digit}
use Rattle.std.specs.Str.Parse.{digits_value_after}
use Rattle.std.proofs.lemmas.Grind.{common_steps}
use Rattle.comtrade_values.proofs.Capped.{digit_is}

pub digit_few : (c : ℕ) → is_ascii_digit c ≡ true → c - 48 < 10
digit_few c d = grind (arith, common_steps)

-- a digit more makes the bound ten times as great
pub one_more : (n i d : ℕ) → n < 10 ^ i → d < 10 → n * 10 + d < 10 ^ (i + 1)
one_more n i d h few = rw (add-one, pow-suc) (omega arith)

pub room : (n i d : ℕ) → n < 10 ^ i → i < 19 → d < 10 → n * 10 + d < 10 ^ 19
room n i d h few digit =
    let more : n * 10 + d < 10 ^ (i + 1) = one_more n i d h digit in
    let top : 10 ^ (i + 1) ≤ 10 ^ 19 = pow-le-pow_right {n = 10} (omega arith) {i = i + 1} {j = 19} (omega arith) in
    omega arith

pub below_19 : (n i : ℕ) → n < 10 ^ i → i ≤ 19 → n < 10 ^ 19
below_19 n i h few = let top : 10 ^ i ≤ 10 ^ 19 = pow-le-pow_right {n = 10} (omega arith) {i = i} {j = 19} few in omega arith

-- one more digit of the number
pub value_more : (ds : List ℕ) (i n total : ℕ) → i < length ds → is_ascii_digit (get_or ds i 0) ≡ true → digits_value_after 10 n (drop i ds) ≡ total
    → digits_value_after 10 (n * 10 + (get_or ds i 0 - 48)) (drop (i + 1) ds) ≡ total
value_more ds i n total lt digit h =
    let before : digits_value_after 10 (n * 10 + digit_value (get_or ds i 0)) (drop (suc i) ds) ≡ total = rw (drop-cons ds i 0 lt) at h in
    rw (add-one, ← digit_is (get_or ds i 0) digit) before
