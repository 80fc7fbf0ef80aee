use Rattle.std.proofs.Common.{rules, ◌≡◌, ℕ, ◌<◌, Some, subst, sym, arith, length, ◌∙◌, Bool, refl}
use Rattle.std.specs.Prelude.{slice_get, true, false, IsTrue}
use Rattle.std.proofs.lemmas.Option.{slice_get_read, slice_get_within}
use Rattle.comtrade_diagnostics.specs.Parts.{SaidParts}
use Rattle.comtrade_diagnostics.specs.Told as spec
use Rattle.comtrade_diagnostics.proofs.Told.{below_more}
use Rattle.comtrade_diagnostics.proofs.covers.is_told.Goals as goal

some_same : (x y : SaidParts) → Some x ≡ Some y → x ≡ y
some_same x y e = cc

not_both : (b : Bool) → b ≡ false → IsTrue b → ⊥
not_both b e t = absurd (search rules)

pub loop-note-preserved : goal.loop-note-preserved
loop-note-preserved g c =
    let notes = c.args.notes.now in
    let n = c.loop-note.note-index in
    let item : slice_get notes n ≡ Some c.note-item.result = slice_get_read notes (length notes) n c.note-item.result (search rules) (search rules) c.note-item.is in
    λ i note lt at. below_more (λ k. (x : SaidParts) → slice_get notes k ≡ Some x → spec.Covers c.args.unfit.now c.args.place.0 c.args.place.1 c.args.written x → ⊥) n
    (λ k less x e. c.loop-note.invariant k x less e)
    (λ x e covered.
    let is : x ≡ c.note-item.result = some_same x c.note-item.result (sym e ∙ item) in
    not_both c.covers.result c.if-covers.false (c.covers.ensures.1 (subst (λ (y : SaidParts). spec.Covers c.args.unfit.now c.args.place.0 c.args.place.1 c.args.written y) is covered)))
    i lt note at

pub returns : goal.returns
returns g c = ((λ e. absurd (not_both false refl e)), λ told. absurd (c.loop-note.invariant told.0 told.1 (let w = slice_get_within c.args.notes.now told.0 told.1 told.2 in omega (arith, w, c.loop-note-test.false)) told.2 told.3))
