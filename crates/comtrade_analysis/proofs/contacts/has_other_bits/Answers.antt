use Rattle.std.proofs.Common.{◌≡◌, ◌-◌, length, slice_get, Some, refl, sym, ap, ◌∙◌, arith}
use Rattle.std.proofs.lemmas.Option.{slice_get_read}
use Rattle.comtrade_format.specs.Parts.{RowParts}
use Rattle.comtrade_analysis.proofs.MoreContacts.{same_bits, found_same}
use Rattle.comtrade_analysis.proofs.contacts.has_other_bits.Goals as goal

pub returns : goal.returns
returns g c = λ none.
    let rows = c.args.rows.now in
    let row = c.args.row in
    let before : RowParts = c.index-rows-row.result in
    let now : RowParts = c.index-rows-row-2.result in
    let old : slice_get rows (row - 1) ≡ Some before = slice_get_read rows (length rows) (row - 1) before refl (omega arith) c.index-rows-row.is in
    let new : slice_get rows row ≡ Some now = slice_get_read rows (length rows) row now refl c.requires.within c.index-rows-row-2.is in
    let left : c.items.result.now ≡ now.bits = c.items.ensures ∙ ap (λ (r : RowParts). r.bits) c.now.view_is in
    let right : c.items-2.result.now ≡ before.bits = c.items-2.ensures ∙ ap (λ (r : RowParts). r.bits) c.before-2.view_is in
    same_bits rows row before now old new (sym left ∙ found_same c.items.result.now c.items-2.result.now c.ne.result c.ne.ensures none ∙ right)
