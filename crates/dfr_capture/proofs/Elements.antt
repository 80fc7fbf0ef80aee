-- The place of one element more.
use Rattle.std.proofs.Common.{◌≡◌, ℕ, suc, ◌+◌, List, Some, refl, arith}
use Rattle.dfr_capture.specs.Elements.{next_place, place_of}

pub place_more : (bytes : List ℕ) (from end n : ℕ) → place_of bytes from end (n + 1) ≡ next_place bytes end (place_of bytes from end n)
unfolding place_of
place_more bytes from end n =
    let k : n + 1 ≡ suc n = omega arith in
    rw k refl

pub place_none : (bytes : List ℕ) (from end : ℕ) → place_of bytes from end 0 ≡ Some from
unfolding place_of
place_none bytes from end = refl

pub ruleset place_steps = (place_more, place_none)
