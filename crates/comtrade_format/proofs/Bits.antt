-- Sixteen bits as a number.
use Rattle.std.proofs.Common.{◌≡◌, ℕ, zero, suc, ◌+◌, ◌-◌, ◌*◌, ◌^◌, ◌<◌, ◌≤◌, Bool, true, false, List, [], ◌∷◌, ◌++◌, length, drop, refl, sym, ap, ◌∙◌, arith, add-one, get_or}
use Rattle.std.proofs.Math.Nat.{pow-suc}
use Rattle.std.proofs.Math.Seq.{drop-cons}
use mir.Val.{bool_byte}
use Rattle.std.specs.List.{range_with_len}
use Rattle.comtrade_format.specs.Binary.{bits_number}

pub bits_number-none : bits_number [] ≡ 0
unfolding bits_number
bits_number-none = refl

pub bits_number-set : (xs : List Bool) → bits_number (xs ++ true ∷ []) ≡ bits_number xs + 2 ^ length xs
unfolding bits_number
bits_number-set [] = refl
bits_number-set (true ∷ xs) = let ih = bits_number-set xs in rw (ih, pow-suc 2 (length xs)) (omega arith)
bits_number-set (false ∷ xs) = let ih = bits_number-set xs in rw (ih, pow-suc 2 (length xs)) (omega arith)

pub bits_number-clear : (xs : List Bool) → bits_number (xs ++ false ∷ []) ≡ bits_number xs
unfolding bits_number
bits_number-clear [] = refl
bits_number-clear (true ∷ xs) = let ih = bits_number-clear xs in rw ih refl
bits_number-clear (false ∷ xs) = let ih = bits_number-clear xs in rw ih refl

pub range_more : (a n : ℕ) → range_with_len a (n + 1) ≡ range_with_len a n ++ (a + n) ∷ []
range_more a zero = ap (λ (x : ℕ). x ∷ []) (omega arith)
range_more a (suc n) =
    let s : a + 1 + n ≡ a + suc n = omega arith in
    let two : suc n + 1 ≡ suc (n + 1) = omega arith in
    let ih = range_more (a + 1) n in
    rw two (ap (λ (xs : List ℕ). a ∷ xs) (ih ∙ ap (λ (x : ℕ). range_with_len (a + 1) n ++ x ∷ []) s))

-- one more bit in front
bits_number-cons : (b : Bool) (bits : List Bool) → bits_number (b ∷ bits) ≡ 2 * bits_number bits + bool_byte b
unfolding bits_number
bits_number-cons true bits = omega arith
bits_number-cons false bits = omega arith

one_at_most : (b : Bool) → bool_byte b ≤ 1
one_at_most true = omega arith
one_at_most false = omega arith

-- one more bit, from the last one back
pub more_low : (bits : List Bool) (i g h : ℕ) → i < length bits → g ≡ bits_number (drop (length bits - i) bits)
    → h ≡ 2 * g + bool_byte (get_or bits (length bits - 1 - i) false) → h ≡ bits_number (drop (length bits - (i + 1)) bits)
more_low bits i g h lt so_far e =
    let j : ℕ = length bits - 1 - i in
    let here : length bits - (i + 1) ≡ j = omega arith in
    let above : suc j ≡ length bits - i = omega arith in
    let cut = drop-cons bits j false (omega arith) in
    let step = bits_number-cons (get_or bits j false) (drop (suc j) bits) in
    e ∙ ap (λ (n : ℕ). 2 * n + bool_byte (get_or bits j false)) (so_far ∙ ap (λ (k : ℕ). bits_number (drop k bits)) (sym above))
    ∙ sym step ∙ ap bits_number (sym cut) ∙ ap (λ (k : ℕ). bits_number (drop k bits)) (sym here)

pub small_more : (b : Bool) (i g : ℕ) → g < 2 ^ i → 2 * g + bool_byte b < 2 ^ (i + 1)
small_more b i g h =
    let one = one_at_most b in
    rw (add-one, pow-suc 2 i) (omega arith)
