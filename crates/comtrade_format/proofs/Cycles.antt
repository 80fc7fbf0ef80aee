-- Quotients of rates and frequencies.
use Rattle.std.proofs.Common.{◌≡◌, ℕ, ◌-◌, ◌*◌, ◌/◌, ◌^◌, ◌∙◌, sym, ap, arith}
use Rattle.std.specs.Int.{IsGcd}
use Rattle.std.proofs.lemmas.Nat.{pow-add}
use Rattle.std.proofs.Math.Nat.{div-mul_cancel}

-- a quotient of two numbers is that of both divided by their greatest common divisor
pub same-quotient : (cycles rows g : ℕ) → IsGcd cycles rows g → cycles / g * rows ≡ rows / g * cycles
same-quotient cycles rows g is =
    let one : cycles / g * g ≡ cycles = div-mul_cancel g is.0 in
    let other : rows / g * g ≡ rows = div-mul_cancel g is.1 in
    let left : cycles / g * rows ≡ cycles / g * (rows / g * g) = ap (λ n. cycles / g * n) (sym other) in
    let right : rows / g * cycles ≡ rows / g * (cycles / g * g) = ap (λ n. rows / g * n) (sym one) in
    left ∙ omega arith ∙ sym right

-- numbers with zeros after them, so that both have as many places
pub same-places : (f r p q c w cycles rows : ℕ) → cycles ≡ f * 10 ^ (q - p) → rows ≡ r * 10 ^ (p - q) → c * rows ≡ w * cycles
    → c * r * 10 ^ p ≡ w * f * 10 ^ q
same-places f r p q c w cycles rows cycles_are rows_are same =
    let m = p - (p - q) in
    let front : 10 ^ p ≡ 10 ^ (p - q) * 10 ^ m = ap (λ n. 10 ^ n) (omega arith) ∙ pow-add 10 (p - q) m in
    let back : 10 ^ q ≡ 10 ^ (q - p) * 10 ^ m = ap (λ n. 10 ^ n) (omega arith) ∙ pow-add 10 (q - p) m in
    let times : c * (r * 10 ^ (p - q)) * 10 ^ m ≡ w * (f * 10 ^ (q - p)) * 10 ^ m =
    ap (λ n. c * n * 10 ^ m) (sym rows_are) ∙ ap (λ n. n * 10 ^ m) same ∙ ap (λ n. w * n * 10 ^ m) cycles_are in
    ap (λ n. c * r * n) front ∙ omega (arith, times) ∙ sym (ap (λ n. w * f * n) back)
