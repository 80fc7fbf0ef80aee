use Rattle.std.proofs.Common.{◌≡◌, ◌∙◌, ap, length, arith, ℕ}
use Rattle.std.specs.Prelude.{◌==◌}
use Rattle.std.specs.List.{slice_split}
use Rattle.std.proofs.lemmas.Grind.{common_steps}
use Rattle.comtrade_values.specs.Lines.{texts}
use Rattle.dfr_setup.proofs.Made.{with_wish_by, makes_by}
use Rattle.dfr_setup.proofs.plans.add_wish.Goals as goal

pub returns : goal.returns
returns g c =
    let n : c.len-is_only.result ≡ length (texts c.deref.result.now) = grind (arith, common_steps) in
    makes_by _ _ _ _
    (with_wish_by c.args.setup.now c.args.plans.now.items (texts c.args.words.now) c.args.wish.now (texts c.deref.result.now) c.len-is_only.result
    (ap (λ xs. texts xs) c.deref.ensures.value ∙ c.in_ok-sums.ensures ∙ ap (λ text. slice_split (λ (b : ℕ). b == 44) text) c.word_at.ensures)
    n)
    c.add_sums.ensures
