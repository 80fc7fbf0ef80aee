-- How the clock is followed.
use Rattle.std.specs.Prelude.{◌≡◌, ℕ, ◌≤◌, nat_le, true, None}
use Rattle.std.proofs.Common.{refl}
use Rattle.std.proofs.lemmas.Bool.{le-leb}
use Rattle.dfr_clock.specs.Settings.{settings_fault}

-- settings at a lawful rate have no fault
pub fits : (rate most : ℕ) → 1 ≤ rate → rate ≤ 1_000_000
    → settings_fault (record { rate = rate; window = 8_000_000; slew = 1_000; late = 2_500_000; apart = 50_000; step = 2_000; most = most }) ≡ None
fits rate most some few =
    let low : nat_le 1 rate ≡ true = le-leb 1 rate some in
    let high : nat_le rate 1_000_000 ≡ true = le-leb rate 1_000_000 few in
    rw (low, high) refl
