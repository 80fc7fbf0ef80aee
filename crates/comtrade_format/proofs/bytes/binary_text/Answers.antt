use Rattle.std.proofs.Common.{◌≡◌, ◌++◌, None, List, ℕ, ap, subst, ◌∙◌}
use Rattle.std.specs.List.{flat_map, list_all}
use Rattle.comtrade_format.specs.Binary.{binary, row_bytes}
use Rattle.comtrade_format.specs.Refusals.{binary_bounds, rows_refusal, takes_row}
use Rattle.comtrade_format.specs.Parts.{RowParts}
use Rattle.comtrade_format.proofs.Numbered.{refusal_none, refusal_some, written_if, refused_if}
use Rattle.comtrade_format.proofs.Refusals.{shaped_parts, head_parts, k_few, m_few}
use Rattle.comtrade_format.proofs.bytes.binary_text.Goals as goal

pub binary_size-requires : goal.binary_size-requires
binary_size-requires g c =
    let s = shaped_parts _ c.requires in
    let few = m_few _ _ (head_parts _ s.head).channels in
    let many = k_few _ _ (head_parts _ s.head).channels in
    rw (c.analog_of.ensures, c.status_of.ensures, c.head_of-head.ensures) (record { many = many; few = few })

pub put_rows-requires : goal.put_rows-requires
put_rows-requires g c =
    let s = shaped_parts _ c.requires in
    let few = m_few _ _ (head_parts _ s.head).channels in
    let many = k_few _ _ (head_parts _ s.head).channels in
    rw (c.rows_of-2.ensures, c.analog_of.ensures, c.status_of.ensures, c.head_of-head.ensures) (record { shaped = s.rows; many = many; few = few })

pub returns-then-all : goal.returns-then-all
unfolding binary
returns-then-all g c =
    let rows = c.rows_of-2.result.now in
    let out = c.put_rows.new.out.items in
    let w = written_if c.in_ok-all.all (list_all (takes_row binary_bounds) rows) (out ≡ c.in_ok-out.out.items ++ flat_map row_bytes rows) c.if-all.true c.in_ok-all.ensures in
    let G : List RowParts → Type 0 = λ rs. (rows_refusal binary_bounds rs ≡ None) × (out ≡ flat_map row_bytes rs) in
    subst G c.rows_of-2.ensures (refusal_none binary_bounds rows w.0, w.1 ∙ ap (λ (r : List ℕ). r ++ flat_map row_bytes rows) c.in_ok-out.ensures.items)

pub returns-else-all : goal.returns-else-all
returns-else-all g c =
    let rows = c.rows_of-2.result.now in
    let w = refused_if c.in_ok-all.all (list_all (takes_row binary_bounds) rows) (c.put_rows.new.out.items ≡ c.in_ok-out.out.items ++ flat_map row_bytes rows) c.if-all.false c.in_ok-all.ensures in
    let G : List RowParts → Type 0 = λ rs. ¬ (rows_refusal binary_bounds rs ≡ None) in
    subst G c.rows_of-2.ensures (refusal_some binary_bounds rows w)
