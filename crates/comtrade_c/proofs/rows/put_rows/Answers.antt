use Rattle.std.proofs.Common.{ap, ◌∙◌, arith, rules}
use Rattle.std.proofs.lemmas.Grind.{common_steps}
use Rattle.comtrade_c.specs.Tables.{stamp_of, row_samples, row_bits}
use Rattle.comtrade_c.proofs.Filled.{in_table, row_filled}
use Rattle.comtrade_c.proofs.Laid.{laid_more}
use Rattle.comtrade_c.proofs.rows.put_rows.Goals as goal

pub slice_bounds-put_row-end : goal.slice_bounds-put_row-end
slice_bounds-put_row-end c =
    in_table row_samples c.args.rows.now c.loop-i.i c.index-rows-i.result c.loop-i.samples c.args.samples.now c.loop-i.sample _ (search rules)
    c.index-rows-i.is c.loop-i.invariant.samples (grind (arith, common_steps)) (search rules)

pub slice_bounds-put_row_bits-end : goal.slice_bounds-put_row_bits-end
slice_bounds-put_row_bits-end c =
    in_table row_bits c.args.rows.now c.loop-i.i c.index-rows-i.result c.loop-i.bits c.args.bits.now c.loop-i.bit _ (search rules)
    c.index-rows-i.is c.loop-i.invariant.bits (grind (arith, common_steps)) (search rules)

pub loop-i-preserved : goal.loop-i-preserved
loop-i-preserved c = record {
  stamps = laid_more (λ r. stamp_of r.stamp) c.args.rows.now c.loop-i.stamps c.args.stamps.now c.loop-i.i c.index-rows-i.result _ (search rules) (search rules)
      c.loop-i.invariant.stamps (c.stamp_of.ensures ∙ ap (λ r. stamp_of r.stamp) (c.row.view_is ∙ c.index-rows-i.is));
  samples = row_filled row_samples c.args.rows.now c.loop-i.i c.index-rows-i.result c.loop-i.samples c.args.samples.now c.put_row.new.to c.loop-i.sample _
      (search rules) c.index-rows-i.is c.loop-i.invariant.samples (grind (arith, common_steps)) (search rules) (grind (arith, common_steps));
  bits = row_filled row_bits c.args.rows.now c.loop-i.i c.index-rows-i.result c.loop-i.bits c.args.bits.now c.put_row_bits.new.to c.loop-i.bit _
      (search rules) c.index-rows-i.is c.loop-i.invariant.bits (grind (arith, common_steps)) (search rules) (grind (arith, common_steps));
}
