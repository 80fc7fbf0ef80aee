-- Powers that fit 64 bits.
use Rattle.std.proofs.Common.{◌≡◌, ℕ, ◌*◌, ◌^◌, ◌<◌, ◌≤◌, Option, Some, None, SomeIff, IfSome, refl, ap, inl, inr, arith}
use Rattle.std.specs.Prelude.{◌/◌}
use Rattle.std.proofs.lemmas.Bool.{cases_lt, le-ltb, lt-ltb}
use Rattle.std.proofs.Math.Nat.{one-le-pow, div-le_self}
use Rattle.dfr_pcap.specs.Moments.{fitting}

pub fitting_is : (o : Option ℕ) (n : ℕ) → SomeIff o (n < 2 ^ 64) n → o ≡ fitting n
fitting_is None n h =
    elim (cases_lt n (2 ^ 64)) [
      | inl lt ↦ absurd (h lt)
      | inr ge ↦ rw (le-ltb n (2 ^ 64) ge) refl
    ]
fitting_is (Some x) n h = rw (lt-ltb n (2 ^ 64) h.0) (ap (λ (y : ℕ). Some y) h.1)

pub power_some : (o : Option ℕ) (base exp : ℕ) → 0 < base → SomeIff o (base ^ exp < 2 ^ 64) (base ^ exp) → IfSome o (λ t. 0 < t)
power_some None base exp some h = tt
power_some (Some x) base exp some h =
    let one : 1 ≤ base ^ exp = one-le-pow exp base some in
    let is : x ≡ base ^ exp = h.1 in
    omega (arith, one, is)

pub quotient_small : (stamp ticks : ℕ) → stamp < 2 ^ 64 → stamp * 1_000_000_000 / ticks < 2 ^ 94
quotient_small stamp ticks h =
    let q : stamp * 1_000_000_000 / ticks ≤ stamp * 1_000_000_000 = div-le_self (stamp * 1_000_000_000) ticks in
    omega (arith, q, h)
