-- The order of values a * x + b is that of samples, or the reverse where a is negative.
use Rattle.std.proofs.Common.{◌≢◌, ℕ, suc, ◌*◌, ◌^◌, ◌-◌, ◌≤◌, ℤ, pos, negsuc, ◌+ℤ◌, ◌*ℤ◌, ◌≤ℤ◌, ◌<ℤ◌, List, Some, arith}
use Rattle.std.proofs.Math.Nat.{mul-le-mul_left, mul-le-mul_right}
use Rattle.std.proofs.lemmas.Int.{ints}
use Rattle.comtrade_format.specs.Parts.{RowParts}
use Rattle.comtrade_values.specs.Arithmetic.{value, places_of}
use Rattle.comtrade_values.specs.Spelling.{Number}
use Rattle.comtrade_analysis.specs.Extremes.{AreExtremes}
use Rattle.comtrade_analysis.specs.ValueExtremes.{AreValueExtremes}
use Rattle.comtrade_analysis.specs.declared.extremes.Extremes.{Extremes}
use Rattle.comtrade_analysis.specs.declared.factors.Factors.{Factors}

rising : (n : ℕ) (x y : ℤ) → x ≤ℤ y → (pos n *ℤ x) ≤ℤ (pos n *ℤ y)
rising n (pos a) (pos b) h = let le : a ≤ b = omega (arith, ints) in let m : n * a ≤ n * b = mul-le-mul_left n le in omega (arith, ints)
rising n (pos a) (negsuc b) h = let no : ⊥ = omega (arith, ints) in absurd no
rising n (negsuc a) (pos b) h = omega (arith, ints)
rising n (negsuc a) (negsuc b) h = let le : suc b ≤ suc a = omega (arith, ints) in let m : n * suc b ≤ n * suc a = mul-le-mul_left n le in omega (arith, ints)

falling : (n : ℕ) (x y : ℤ) → x ≤ℤ y → (negsuc n *ℤ y) ≤ℤ (negsuc n *ℤ x)
falling n (pos a) (pos b) h = let le : a ≤ b = omega (arith, ints) in let m : suc n * a ≤ suc n * b = mul-le-mul_left (suc n) le in omega (arith, ints)
falling n (pos a) (negsuc b) h = let no : ⊥ = omega (arith, ints) in absurd no
falling n (negsuc a) (pos b) h = omega (arith, ints)
falling n (negsuc a) (negsuc b) h =
    let le : suc b ≤ suc a = omega (arith, ints) in let m : suc n * suc b ≤ suc n * suc a = mul-le-mul_left (suc n) le in omega (arith, ints)

scaled : (k : ℕ) (x y : ℤ) → x ≤ℤ y → (x *ℤ pos k) ≤ℤ (y *ℤ pos k)
scaled k (pos a) (pos b) h = let le : a ≤ b = omega (arith, ints) in let m : a * k ≤ b * k = mul-le-mul_right k le in omega (arith, ints)
scaled k (pos a) (negsuc b) h = let no : ⊥ = omega (arith, ints) in absurd no
scaled k (negsuc a) (pos b) h = omega (arith, ints)
scaled k (negsuc a) (negsuc b) h = let le : suc b ≤ suc a = omega (arith, ints) in let m : suc b * k ≤ suc a * k = mul-le-mul_right k le in omega (arith, ints)

shifted : (x y b : ℤ) → x ≤ℤ y → (x +ℤ b) ≤ℤ (y +ℤ b)
shifted x y b h = omega (arith, ints)

-- where a isn't negative
up : (a b : Number) (x y : ℤ) → pos 0 ≤ℤ a.units → x ≤ℤ y → (value a b x).units ≤ℤ (value a b y).units
up a b x y sign h = up_to a.units sign
  where
    up_to : (u : ℤ) → pos 0 ≤ℤ u → (value (record { units = u; places = a.places }) b x).units ≤ℤ (value (record { units = u; places = a.places }) b y).units
    up_to (pos n) sign =
        let k = 10 ^ (places_of a b - a.places) in
        shifted (pos n *ℤ x *ℤ pos k) (pos n *ℤ y *ℤ pos k) (b.units *ℤ pos (10 ^ (places_of a b - b.places))) (scaled k (pos n *ℤ x) (pos n *ℤ y) (rising n x y h))
    up_to (negsuc n) sign = let no : ⊥ = omega (arith, ints) in absurd no

-- where it is
down : (a b : Number) (x y : ℤ) → a.units <ℤ pos 0 → x ≤ℤ y → (value a b y).units ≤ℤ (value a b x).units
down a b x y sign h = down_to a.units sign
  where
    down_to : (u : ℤ) → u <ℤ pos 0 → (value (record { units = u; places = a.places }) b y).units ≤ℤ (value (record { units = u; places = a.places }) b x).units
    down_to (pos n) sign = let no : ⊥ = omega (arith, ints) in absurd no
    down_to (negsuc n) sign =
        let k = 10 ^ (places_of a b - a.places) in
        shifted (negsuc n *ℤ y *ℤ pos k) (negsuc n *ℤ x *ℤ pos k) (b.units *ℤ pos (10 ^ (places_of a b - b.places)))
        (scaled k (negsuc n *ℤ y) (negsuc n *ℤ x) (falling n x y h))

unlike_below : (x y : ℤ) → x <ℤ y → y ≢ x
unlike_below x y h = λ same. let no : ⊥ = grind (arith, ints) in no

unlike_above : (x y : ℤ) → x <ℤ y → x ≢ y
unlike_above x y h = λ same. let no : ⊥ = grind (arith, ints) in no

module _ (rows : List RowParts) (channel n : ℕ) (f : Factors) where
  pub same_order : (e : Extremes) → AreExtremes rows channel n (Some e) → pos 0 ≤ℤ f.a.units → AreValueExtremes rows channel f n (Some e)
  same_order e h sign = (
    record { within = h.0.within; taken = h.0.taken; first = λ k lt x at. unlike_below e.least.sample x (h.0.first k lt x at) },
    record { within = h.1.within; taken = h.1.taken; first = λ k lt x at. unlike_above x e.greatest.sample (h.1.first k lt x at) },
    record {
      least = λ k lt x at. up f.a f.b e.least.sample x sign (h.0.least k lt x at);
      greatest = λ k lt x at. up f.a f.b x e.greatest.sample sign (h.1.greatest k lt x at);
    },
  )

  pub other_order : (e : Extremes) → AreExtremes rows channel n (Some e) → f.a.units <ℤ pos 0
      → AreValueExtremes rows channel f n (Some (record { least = e.greatest; greatest = e.least }))
  other_order e h sign = (
    record { within = h.1.within; taken = h.1.taken; first = λ k lt x at. unlike_above x e.greatest.sample (h.1.first k lt x at) },
    record { within = h.0.within; taken = h.0.taken; first = λ k lt x at. unlike_below e.least.sample x (h.0.first k lt x at) },
    record {
      least = λ k lt x at. down f.a f.b x e.greatest.sample sign (h.1.greatest k lt x at);
      greatest = λ k lt x at. down f.a f.b e.least.sample x sign (h.0.least k lt x at);
    },
  )
