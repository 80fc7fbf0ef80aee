-- How many whole cycles rows hold.
use Rattle.std.proofs.Common.{ℕ, ◌+◌, ◌-◌, ◌*◌, ◌/◌, ◌<◌, ◌≤◌, ◌↔◌, arith}
use Rattle.std.proofs.Math.Nat.{mul-le-mul, mul-le-mul_left, div-lt_iff_lt-mul, le-div_iff_mul-le}

module _ (c r rows : ℕ) (some : 0 < c) (long : c ≤ r) where
  there : 1 ≤ (rows + 1) * c
  there = let one : 1 ≤ rows + 1 = omega arith in let two : 1 ≤ c = omega arith in mul-le-mul one two

  pub most_fits : ((rows + 1) * c - 1) / r ≤ rows
  most_fits =
      let k = (rows + 1) * c in
      let more : k ≤ (rows + 1) * r = mul-le-mul_left (rows + 1) long in
      let least : 1 ≤ k = there in
      let h : (k - 1) / r < rows + 1 = (div-lt_iff_lt-mul {k = r} {x = k - 1} {y = rows + 1} (omega arith)).1 (omega arith) in omega arith

  pub most_cycles : (n : ℕ) → (n * r / c ≤ rows) ↔ (n ≤ ((rows + 1) * c - 1) / r)
  most_cycles n = (
    λ h.
        let lt : n * r < (rows + 1) * c = (div-lt_iff_lt-mul {k = c} {x = n * r} {y = rows + 1} some).0 (omega arith) in
        (le-div_iff_mul-le {k = r} {x = n} {y = (rows + 1) * c - 1} (omega arith)).1 (omega arith),
    λ h.
        let le : n * r ≤ (rows + 1) * c - 1 = (le-div_iff_mul-le {k = r} {x = n} {y = (rows + 1) * c - 1} (omega arith)).0 h in
        let least : 1 ≤ (rows + 1) * c = there in
        let lt : n * r / c < rows + 1 = (div-lt_iff_lt-mul {k = c} {x = n * r} {y = rows + 1} some).1 (omega arith) in omega arith,
  )
