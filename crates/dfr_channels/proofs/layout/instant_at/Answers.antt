use Rattle.std.proofs.Common.{◌≡◌, ℕ, ◌*◌, ◌/◌, true, arith, w64, to_z, of_z, pos, ◌+ℤ◌, ◌≤ℤ◌, refl, div-lt_iff_lt-mul}
use Rattle.std.proofs.lemmas.Int.{ints}
use Rattle.std.specs.Prelude.{int_le}
use Rattle.dfr_channels.specs.Setups.{end_of_time}
use Rattle.dfr_channels.proofs.layout.instant_at.Goals as goal

pub returns-clause-value : goal.returns-clause-value
returns-clause-value c =
    let q : ℕ = c.args.k * 1000000 / c.args.rate in
    let short = (div-lt_iff_lt-mul c.requires.rate.0).1 c.if-places-rate.false in
    let early : (c.args.start +ℤ pos q) ≤ℤ pos end_of_time = omega (arith, ints, short, c.requires.start) in
    let same : to_z w64 (of_z w64 (to_z w64 (of_z w64 c.args.start) +ℤ to_z w64 q)) ≡ (c.args.start +ℤ pos q) = omega (arith, ints, early, c.requires.start) in
    let t : int_le (c.args.start +ℤ pos q) (pos end_of_time) ≡ true = grind (arith, ints, early) in
    rw (same, t) refl
