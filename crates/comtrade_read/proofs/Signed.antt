-- Numbers of the machine that are equal as bits.
use Rattle.std.proofs.Common.{◌≡◌, ℕ, ◌<◌, ◌^◌, FitsSigned, of_z, refl, ap, arith, ℤ, pos, negsuc, eqb, true, false, Some}
use Rattle.std.specs.Prelude.{◌≢◌}
use Rattle.std.proofs.lemmas.Bool.{eq-eqb, ne_eqb}
use Rattle.comtrade_read.specs.Head.{is_number}
use Rattle.std.specs.Int.{w128}

pub signed : (z : ℤ) (n : ℕ) → FitsSigned w128 z → n < 2 ^ 64 → of_z w128 z ≡ n → z ≡ pos n
signed (pos m) n fits small e = ap pos e
signed (negsuc k) n fits small e = absurd (omega (arith, fits))

pub other : (z : ℤ) (n : ℕ) → of_z w128 z ≢ n → is_number n (Some z) ≡ false
other (pos m) n not = ne_eqb m n not
other (negsuc k) n not = refl

pub same : (n : ℕ) → eqb n n ≡ true
same n = eq-eqb n n refl
