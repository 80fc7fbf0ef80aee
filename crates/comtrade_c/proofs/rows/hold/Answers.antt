use Rattle.std.proofs.Common.{◌≡◌, length, inl, inr, ⊎_elim, arith, rules}
use Rattle.std.proofs.lemmas.Grind.{common_steps}
use Rattle.comtrade_c.specs.Tables.{row_samples, row_bits}
use Rattle.comtrade_c.proofs.Filled.{too_short, one_off}
use Rattle.comtrade_c.proofs.rows.hold.Goals as goal

pub returns-then-more_samples-k-clause-other : goal.returns-then-more_samples-k-clause-other
returns-then-more_samples-k-clause-other c =
    let k : length c.items.result.now ≡ length (row_samples c.row-item.result) = grind (arith, common_steps) in
    let m : length c.items-in-loop-row.result.now ≡ length (row_bits c.row-item.result) = grind (arith, common_steps) in λ _.
    ⊎_elim
    (λ less. inl (too_short row_samples c.args.rows.now c.loop-row.row-index c.row-item.result c.loop-row.more_samples c.args.samples _ (search rules)
    c.row-item.is c.loop-row.invariant.samples k less))
    (λ less. inr (too_short row_bits c.args.rows.now c.loop-row.row-index c.row-item.result c.loop-row.more_bits c.args.bits _ (search rules)
    c.row-item.is c.loop-row.invariant.bits m less.1))
    c.then-more_samples-k.either

pub loop-row-preserved : goal.loop-row-preserved
loop-row-preserved c = record {
  samples = one_off row_samples c.args.rows.now c.loop-row.row-index c.row-item.result c.loop-row.more_samples c.args.samples _ (search rules) c.row-item.is
      c.loop-row.invariant.samples (grind (arith, common_steps)) (search rules);
  bits = one_off row_bits c.args.rows.now c.loop-row.row-index c.row-item.result c.loop-row.more_bits c.args.bits _ (search rules) c.row-item.is
      c.loop-row.invariant.bits (grind (arith, common_steps)) (search rules);
}
