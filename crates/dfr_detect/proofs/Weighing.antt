-- The samples of three phases times their coefficients.
use Rattle.std.proofs.Common.{◌≡◌, refl, ap, ◌∙◌, ℕ, ◌+◌, ◌*◌, ◌^◌, ◌≤◌, arith, ℤ, pos, negsuc, ◌+ℤ◌, ◌-ℤ◌, ◌*ℤ◌, w64, SFits}
use Rattle.std.specs.Prelude.{unsigned_abs}
use Rattle.std.proofs.Math.IntN.{*ℤ-zero}
use Rattle.std.proofs.Math.Nat.{mul-le-mul}
use Rattle.std.proofs.lemmas.Int.{ints, unsigned_abs-mul}
use borrow.Author.Differences.{up, down}
use Rattle.dfr_detect.specs.Sums.{AreSmall}
use Rattle.dfr_detect.specs.Phasors.{weighed, nothing, less, IsChange}
use Rattle.dfr_detect.specs.declared.sample.Sample.{Sample}

pub weighed_nothing : (a b c : ℤ) → weighed a b c nothing ≡ pos 0
weighed_nothing a b c =
    let p = *ℤ-zero a in
    let q = *ℤ-zero b in
    let r = *ℤ-zero c in
    omega (arith, ints, p, q, r)

spread : (a x y : ℤ) → a *ℤ (x -ℤ y) ≡ a *ℤ x -ℤ a *ℤ y
spread a x y =
    let apart : up (x -ℤ y) + down x + up y ≡ down (x -ℤ y) + up x + down y = omega (arith, ints) in
    let above = ap (λ (n : ℕ). up a * n) apart in
    let below = ap (λ (n : ℕ). down a * n) apart in
    omega (arith, ints, above, below)

pub weighed_less : (a b c : ℤ) (x gone : Sample) → weighed a b c (less x gone) ≡ weighed a b c x -ℤ weighed a b c gone
weighed_less a b c x gone =
    let p = spread a x.a gone.a in
    let q = spread b x.b gone.b in
    let r = spread c x.c gone.c in
    omega (arith, ints, p, q, r)

together : (p q r : ℤ) (m : ℕ) → unsigned_abs p ≤ m → unsigned_abs q ≤ m → unsigned_abs r ≤ m → unsigned_abs (p +ℤ q +ℤ r) ≤ 3 * m
together p q r m f g h = omega (arith, ints)

pub product_small : (a x : ℤ) (m n : ℕ) → unsigned_abs a ≤ m → unsigned_abs x ≤ n → unsigned_abs (a *ℤ x) ≤ m * n
product_small a x m n f g =
    let is = unsigned_abs-mul a x in
    let most = mul-le-mul f g in
    omega (arith, is, most)

weighed_most : (a b c : ℤ) (x : Sample) (n : ℕ) → unsigned_abs a ≤ 2 ^ 14 → unsigned_abs b ≤ 2 ^ 14 → unsigned_abs c ≤ 2 ^ 14
    → unsigned_abs x.a ≤ n → unsigned_abs x.b ≤ n → unsigned_abs x.c ≤ n → unsigned_abs (weighed a b c x) ≤ 3 * (2 ^ 14 * n)
weighed_most a b c x n f g h p q r =
    together (a *ℤ x.a) (b *ℤ x.b) (c *ℤ x.c) (2 ^ 14 * n) (product_small a x.a (2 ^ 14) n f p) (product_small b x.b (2 ^ 14) n g q) (product_small c x.c (2 ^ 14) n h r)

pub weighed_small : (a b c : ℤ) (x : Sample) → unsigned_abs a ≤ 2 ^ 14 → unsigned_abs b ≤ 2 ^ 14 → unsigned_abs c ≤ 2 ^ 14 → AreSmall x → unsigned_abs (weighed a b c x) ≤ 3 * 2 ^ 53
weighed_small a b c x f g h small =
    let most = weighed_most a b c x (2 ^ 39) f g h small.a small.b small.c in
    omega (arith, most)

pub change_small : (a b c : ℤ) (x : Sample) → unsigned_abs a ≤ 2 ^ 14 → unsigned_abs b ≤ 2 ^ 14 → unsigned_abs c ≤ 2 ^ 14 → IsChange x → unsigned_abs (weighed a b c x) ≤ 2 ^ 56
change_small a b c x f g h small =
    let most = weighed_most a b c x (2 ^ 40) f g h small.a small.b small.c in
    omega (arith, most)

less_one : (x y : ℤ) → unsigned_abs x ≤ 2 ^ 39 → unsigned_abs y ≤ 2 ^ 39 → unsigned_abs (x -ℤ y) ≤ 2 ^ 40
less_one x y f g = omega (arith, ints)

pub less_small : (x gone : Sample) → AreSmall x → AreSmall gone → IsChange (less x gone)
less_small x gone f g = record { a = less_one x.a gone.a f.a g.a; b = less_one x.b gone.b f.b g.b; c = less_one x.c gone.c f.c g.c }

-- it fits 64 bits
pub fits : (z : ℤ) → unsigned_abs z ≤ 2 ^ 60 → SFits w64 z
fits (pos n) h = record { sfits = omega (arith, h) }
fits (negsuc n) h = record { sfits = omega (arith, h) }

pub two_small : (p q : ℤ) → unsigned_abs p ≤ 2 ^ 54 → unsigned_abs q ≤ 2 ^ 54 → unsigned_abs (p +ℤ q) ≤ 2 ^ 60
two_small p q f g = omega (arith, ints)

pub three_small : (p q r : ℤ) → unsigned_abs p ≤ 2 ^ 54 → unsigned_abs q ≤ 2 ^ 54 → unsigned_abs r ≤ 2 ^ 54 → unsigned_abs (p +ℤ q +ℤ r) ≤ 2 ^ 60
three_small p q r f g h = omega (arith, ints)
