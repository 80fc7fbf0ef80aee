use Rattle.std.proofs.Common.{◌*◌, length, sym, ap, ◌∙◌, pos, w32, arith, rules}
use Rattle.std.proofs.lemmas.Int.{to_z-of_z}
use Rattle.dfr_channels.specs.declared.scan.Reading.TheVariants.{Value}
use Rattle.comtrade_format.specs.Packed.{value_at, values_at}
use Rattle.comtrade_read.proofs.Outcomes.{part_is}
use Rattle.comtrade_c.specs.Tables.{sample_of}
use Rattle.comtrade_c.proofs.Laid.{laid_more, laid_all}
use Rattle.comtrade_c.proofs.Flat.{values_long, value_there}
use Rattle.comtrade_c.proofs.binary.put_row.Goals as goal

pub loop-k-preserved : goal.loop-k-preserved
loop-k-preserved c =
    let n = length c.args.to.now in
    let bytes = c.args.bytes.now in
    let k = c.loop-k.k in
    let long = values_long bytes n in
    laid_more sample_of (values_at n bytes) c.loop-k.to c.args.to.now k (Value (pos 0)) _ (omega (arith, long, c.loop-k-test.true)) (sym long) c.loop-k.invariant
    (to_z-of_z w32 c.sample_at.result (search rules) ∙ c.sample_at.ensures ∙ ap (λ b. sample_of (value_at b)) (part_is (2 * k) bytes)
    ∙ ap sample_of (sym (value_there bytes n k c.loop-k-test.true)))

pub returns : goal.returns
returns c =
    let n = length c.args.to.now in
    let bytes = c.args.bytes.now in
    let long = values_long bytes n in
    laid_all sample_of (values_at n bytes) c.loop-k.to c.args.to.now c.loop-k.k (omega (arith, long, c.loop-k-test.false)) (omega (arith, c.loop-k-test.false)) c.loop-k.invariant
