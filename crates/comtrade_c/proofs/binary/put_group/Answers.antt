use Rattle.std.proofs.Common.{length, false, sym, ap, ◌∙◌, arith}
use Rattle.std.proofs.lemmas.Nat.Bits.{shr_and_one, bit_at-lt}
use Rattle.std.specs.Int.{bit_at}
use Rattle.comtrade_format.specs.Packed.{group_bits}
use Rattle.comtrade_c.specs.Tables.{bit_of}
use Rattle.comtrade_c.proofs.Laid.{laid_more, laid_all}
use Rattle.comtrade_c.proofs.Flat.{one_bit, group_long, group_there}
use Rattle.comtrade_c.proofs.binary.put_group.Goals as goal

pub loop-k-preserved : goal.loop-k-preserved
loop-k-preserved c =
    let n = length c.args.to.now in
    let group = c.args.group in
    let k = c.loop-k.k in
    let long = group_long n group in
    laid_more bit_of (group_bits n group) c.loop-k.to c.args.to.now k false _ (omega (arith, long, c.loop-k-test.true)) (sym long) c.loop-k.invariant
    (shr_and_one group k ∙ one_bit (bit_at group k) (bit_at-lt group k) ∙ ap bit_of (sym (group_there n group k c.loop-k-test.true)))

pub returns : goal.returns
returns c =
    let n = length c.args.to.now in
    let long = group_long n c.args.group in
    laid_all bit_of (group_bits n c.args.group) c.loop-k.to c.args.to.now c.loop-k.k (omega (arith, long, c.loop-k-test.false)) (omega (arith, c.loop-k-test.false)) c.loop-k.invariant
