use Rattle.std.proofs.Common.{◌≡◌, ◌∙◌, sym, true, length, rules, tests}
use Rattle.std.proofs.lemmas.Bool.{eqb-true}
use Rattle.dfr_script.specs.Words.{rest}
use Rattle.dfr_script.proofs.FirstFault.{go_bare}
use Rattle.dfr_script.proofs.set_up.set_up_at_go.Goals as goal

pub returns : goal.returns
returns g c =
    let yes : c.is_empty.result ≡ true = search (tests, rules) in
    let bare : length (rest c.args.go.now) ≡ 0 = rw (← c.cut.ensures.rest) (eqb-true _ _ (sym c.is_empty.ensures ∙ yes)) in
    rw (go_bare c.args.draft c.args.go.now bare) c.set_up_at.ensures
