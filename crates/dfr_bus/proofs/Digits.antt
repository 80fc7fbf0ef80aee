-- A number read byte by byte.
use Rattle.std.proofs.Common.{◌≡◌, ℕ, zero, suc, ◌+◌, ◌-◌, ◌*◌, ◌/◌, ◌≤◌, ◌<◌, List, refl, sym, ◌∙◌, ap, arith}
use Rattle.std.specs.Prelude.{cond, nat_le, Option, Some, None, if◌then◌else◌}
use Rattle.std.proofs.Common.{false, true}
use Rattle.dfr_bus.specs.Bytes.{byte, number_from}

-- more bytes make it no smaller
pub number-grows : (high : ℕ) (bytes : List ℕ) (at n : ℕ) → high ≤ number_from high bytes at n
unfolding number_from
number-grows high bytes at zero = omega arith
number-grows high bytes at (suc n) =
    let h : high * 256 + byte bytes at ≤ number_from (high * 256 + byte bytes at) bytes (at + 1) n = number-grows (high * 256 + byte bytes at) bytes (at + 1) n in
    omega (arith, h)

-- one byte more
pub number-step : (high : ℕ) (bytes : List ℕ) (at to : ℕ) → at < to
    → number_from high bytes at (to - at) ≡ number_from (high * 256 + byte bytes at) bytes (at + 1) (to - (at + 1))
unfolding number_from
number-step high bytes at to lt =
    let k : to - at ≡ suc (to - (at + 1)) = omega arith in
    rw k refl

-- where a byte is left and the digits so far are above the 256th part of the most, the number is above it
pub number-above : (high : ℕ) (bytes : List ℕ) (at to most : ℕ) → at < to → most / 256 < high
    → most < number_from high bytes at (to - at)
number-above high bytes at to most lt large =
    let e = number-step high bytes at to lt in
    let g = number-grows (high * 256 + byte bytes at) bytes (at + 1) (to - (at + 1)) in
    omega (arith, e, g, large)

-- all bytes are read
pub number-ends : (high : ℕ) (bytes : List ℕ) (at to : ℕ) → to ≤ at → number_from high bytes at (to - at) ≡ high
unfolding number_from
number-ends high bytes at to le =
    let k : to - at ≡ 0 = omega arith in
    rw k refl

pub ruleset steps = (number-step, number-above, number-ends)
