use Rattle.std.proofs.Common.{ℕ, arith, eqb, append_assoc}
use Rattle.std.specs.Int.{bit_at}
use Rattle.std.proofs.lemmas.Grind.{common_steps}
use Rattle.std.proofs.lemmas.List.FromFn.{map-range_with_len_more}
use Rattle.std.proofs.lemmas.Nat.Bits.{shr_and_one}
use Rattle.dfr_station.proofs.intake.frame.push_word.Goals as goal

pub loop-i-preserved : goal.loop-i-preserved
loop-i-preserved g c =
    let e = map-range_with_len_more (λ (i : ℕ). eqb (bit_at c.args.word i) 1) 0 c.loop-i.i c.loop-i.i (omega arith) in
    record {
      items = rw (c.push_reserved.ensures.items, e, c.loop-i.invariant.items, shr_and_one c.args.word c.loop-i.i) (append_assoc c.args.bits.now.items _ _);
      len = grind (arith, common_steps);
      capacity = grind (arith, common_steps);
    }
