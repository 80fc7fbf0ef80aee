use Rattle.std.proofs.Common.{◌≡◌, ◌+◌, ◌*◌, get_or, length, true, false, arith, subst, sym, ◌∙◌, ap}
use Rattle.std.proofs.lemmas.Bool.{and_parts}
use Rattle.std.proofs.lemmas.Grind.{common_steps}
use Rattle.std.specs.List.{list_all}
use Rattle.comtrade_format.specs.declared.bounds.Bounds.{Bounds}
use Rattle.comtrade_format.specs.Parts.{RowParts}
use Rattle.comtrade_format.specs.Shape.{row_shaped}
use Rattle.comtrade_format.specs.Refusals.{ascii_bounds, takes_reading, takes_times, takes_row}
use Rattle.comtrade_format.proofs.Numbered.{all_at, all_more, not_all}
use Rattle.comtrade_format.proofs.Refusals.{row_parts}
use Rattle.comtrade_format.proofs.rows_ascii.put_rows.Goals as goal

pub returns-then-not-takes_row : goal.returns-then-not-takes_row
returns-then-not-takes_row g c =
    let d = c.row-item.result in
    let here = ap (λ (m : Bounds). takes_row m d) (sym c.ascii_bounds.ensures) ∙ sym c.takes_row.ensures ∙ c.if-not-takes_row.true in
    let F : RowParts → Type 0 = λ r. takes_row ascii_bounds r ≡ false in
    not_all (takes_row ascii_bounds) c.args.rows.now c.loop-row.row-index d c.loop-row-test.true (subst F c.row-item.is here)

pub put_row-requires : goal.put_row-requires
put_row-requires g c =
    let rows = c.args.rows.now in
    let i = c.loop-row.row-index in
    let d = c.row-item.result in
    let lt = c.loop-row-test.true in
    let here = ap (λ (m : Bounds). takes_row m d) (sym c.ascii_bounds.ensures) ∙ sym c.takes_row.ensures ∙ c.if-not-takes_row.false in
    let taken = and_parts (list_all (takes_reading ascii_bounds) d.values) (takes_times ascii_bounds d) here in
    let shaped = all_at (row_shaped c.args.k c.args.n) rows i d lt c.requires.shaped in
    let parts = row_parts c.args.k c.args.n (get_or rows i d) shaped in
    let K : RowParts → Type 0 = λ r. length c.deref_mut.result.now ≡ 7 * length r.values + 8 in
    let M : RowParts → Type 0 = λ r. length c.deref_mut-in-loop-row.result.now ≡ 2 * length r.bits in
    record {
      taken = taken.0;
      values_room = subst K (sym c.row-item.is) (ap length c.deref_mut.ensures.value ∙ c.loop-row.invariant.values_room ∙ ap (λ n. 7 * n + 8) (sym parts.0));
      bits_room = subst M (sym c.row-item.is) (ap length c.deref_mut-in-loop-row.ensures.value ∙ c.loop-row.invariant.bits_room ∙ ap (λ n. 2 * n) (sym parts.1));
    }

pub loop-row-preserved : goal.loop-row-preserved
loop-row-preserved g c =
    let d = c.row-item.result in
    let here = ap (λ (m : Bounds). takes_row m d) (sym c.ascii_bounds.ensures) ∙ sym c.takes_row.ensures ∙ c.if-not-takes_row.false in
    let F : RowParts → Type 0 = λ r. takes_row ascii_bounds r ≡ true in
    record {
      written = grind (arith, common_steps);
      taken = all_more (takes_row ascii_bounds) c.args.rows.now c.loop-row.row-index d c.loop-row-test.true (subst F c.row-item.is here) c.loop-row.invariant.taken;
      values_room = grind (arith, common_steps);
      bits_room = grind (arith, common_steps);
    }
