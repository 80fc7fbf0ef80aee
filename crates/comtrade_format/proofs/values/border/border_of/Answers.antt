use Rattle.std.proofs.Common.{◌≡◌, ◌∙◌, Some, List, length, refl, sym, ap, subst, arith}
use Rattle.std.specs.Prelude.{option_and_then, slice_get}
use Rattle.std.proofs.lemmas.Option.{slice_get_read}
use Rattle.comtrade_format.specs.Parts.{HeadParts, RowParts}
use Rattle.comtrade_format.specs.Borders.{Seen, border, stamps_of}
use Rattle.comtrade_format.proofs.values.border.border_of.Goals as goal

pub loop-i-init : goal.loop-i-init
loop-i-init g c =
    let rows = c.args.file.now.rows in
    let At : HeadParts → Type 0 = λ head. Seen head (stamps_of rows) 0 c.search_of-search.result in
    subst At c.head_of-head.ensures (c.search_of-search.ensures (stamps_of rows))

pub loop-i-preserved : goal.loop-i-preserved
loop-i-preserved g c =
    let rows = c.args.file.now.rows in
    let i = c.loop-i.i in
    let at : slice_get c.rows_of-row-items.result.now i ≡ Some c.row-item.result =
    slice_get_read c.rows_of-row-items.result.now (length c.rows_of-row-items.result.now) i c.row-item.result refl c.loop-i-test.true c.row-item.is in
    let given : c.row.inside.stamp ≡ c.row-item.result.stamp = ap (λ (r : RowParts). r.stamp) c.row.view_is in
    let stamp : c.row.inside.stamp ≡ stamps_of rows i =
    given ∙ ap (λ r. option_and_then (λ (row : RowParts). row.stamp) r) (sym at)
    ∙ ap (λ items. stamps_of items i) c.rows_of-row-items.ensures in
    c.after-search.ensures c.args.file.now.head (stamps_of rows) c.loop-i.invariant stamp

pub returns : goal.returns
returns g c =
    let rows = c.args.file.now.rows in
    let long : length c.rows_of-row-items.result.now ≡ length rows = ap (λ (items : List RowParts). length items) c.rows_of-row-items.ensures in
    let all : c.loop-i.i ≡ length rows = omega (arith, long) in
    c.border.ensures c.args.file.now.head (stamps_of rows) c.loop-i.i c.loop-i.invariant
    ∙ ap (λ n. border c.args.file.now.head n (stamps_of rows)) all
