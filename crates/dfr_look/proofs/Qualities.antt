-- The qualities of one channel more.
use Rattle.std.proofs.Common.{◌≡◌, ℕ, suc, ◌+◌, List, refl, arith}
use Rattle.std.specs.Prelude.{bit_or}
use Rattle.dfr_bus.specs.declared.asdu.Asdu.{Asdu}
use Rattle.dfr_look.specs.Units.{sample, quality_in, quality_of}

pub quality_more : (bytes : List ℕ) (asdu : Asdu) (n : ℕ) → quality_of bytes asdu (n + 1) ≡ bit_or (quality_of bytes asdu n) (quality_in (sample bytes asdu n))
unfolding quality_of
quality_more bytes asdu n =
    let k : n + 1 ≡ suc n = omega arith in
    rw k refl

pub quality_none : (bytes : List ℕ) (asdu : Asdu) → quality_of bytes asdu 0 ≡ 0
unfolding quality_of
quality_none bytes asdu = refl

pub ruleset qualities = (quality_more, quality_none)
