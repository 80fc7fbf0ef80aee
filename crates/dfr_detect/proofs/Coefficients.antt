-- How large a coefficient can be.
use Rattle.std.proofs.Common.{◌≡◌, ℕ, zero, suc, ℤ, pos, ◌+◌, ◌*◌, ◌-◌, ◌/◌, ◌%◌, ◌^◌, ◌≤◌, Bool, true, false, cond, arith}
use Rattle.std.specs.Prelude.{unsigned_abs, neg_ℤ, ◌==◌}
use Rattle.std.proofs.Math.Nat.{div-le_of_le-mul, mul-le-mul_left}
use Rattle.dfr_detect.specs.Turns.{sine, wave, turn_of, turn_at, weights_of}
use Rattle.dfr_detect.specs.Phasors.{IsTurn, AreWeights}
use Rattle.dfr_detect.specs.declared.turns.Shape.{Shape}

sine_small : (z : ℕ) → sine z ≤ 2 ^ 14
sine_small z = omega arith

either : (b : Bool) (x y : ℤ) → unsigned_abs x ≤ 2 ^ 14 → unsigned_abs y ≤ 2 ^ 14 → unsigned_abs (cond b x y) ≤ 2 ^ 14
either true x y p q = p
either false x y p q = q

negative : (n : ℕ) → n ≤ 2 ^ 14 → unsigned_abs (neg_ℤ (pos n)) ≤ 2 ^ 14
negative zero h = omega arith
negative (suc n) h = omega arith

wave_small : (quarter z : ℕ) → unsigned_abs (wave quarter z) ≤ 2 ^ 14
wave_small quarter z =
    let there = sine_small z in
    let back = sine_small (32_768 - z) in
    either (quarter % 4 == 0) (pos (sine z)) _ there
    (either (quarter % 4 == 1) (pos (sine (32_768 - z))) _ back
    (either (quarter % 4 == 2) (neg_ℤ (pos (sine z))) (neg_ℤ (pos (sine (32_768 - z)))) (negative (sine z) there) (negative (sine (32_768 - z)) back)))

pub turn_small : (n i : ℕ) → IsTurn (turn_of n i)
unfolding turn_of
turn_small n i = record { cosine = wave_small (4 * i / n + 1) (32_768 * (4 * i % n) / n); sine = wave_small (4 * i / n) (32_768 * (4 * i % n) / n) }

pub weights_small : (n : ℕ) (s : Shape) (i : ℕ) → AreWeights (weights_of n s i)
weights_small n s i = record {
  a = turn_small (3 * n) ((3 * s.order * i + 0 * n) % (3 * n));
  b = turn_small (3 * n) ((3 * s.order * i + s.b * n) % (3 * n));
  c = turn_small (3 * n) ((3 * s.order * i + s.c * n) % (3 * n));
}

-- the part of a quarter turn
pub part_of : (n i : ℕ) → 1 ≤ n → 32_768 * (4 * i % n) / n ≤ 32_768
part_of n i h =
    let rest : 4 * i % n ≤ n = omega arith in
    let wide : 32_768 * (4 * i % n) ≤ 32_768 * n = mul-le-mul_left 32_768 rest in
    div-le_of_le-mul n (omega (arith, wide))
