use Rattle.std.proofs.Common.{◌≡◌, List, ◌∷◌, [], subst}
use Rattle.dfr_live.specs.Station.{Outcome, GivesFirst, start_outcome}
use Rattle.dfr_live.proofs.FirstFault.{first_of_all}
use Rattle.dfr_live.proofs.report.first_fault.Goals as goal

pub returns : goal.returns
returns c =
    let a = c.args in
    let start = start_outcome a.started in
    let begun = subst (λ (o : Outcome). GivesFirst (o ∷ a.acquisition ∷ []) c.first_of_two-all.result) c.start_outcome.ensures c.first_of_two-all.ensures in
    let two = first_of_all (start ∷ a.acquisition ∷ []) (a.trigger ∷ []) _ _ begun c.first_of_two-all-2.ensures in
    first_of_all (start ∷ a.acquisition ∷ a.trigger ∷ []) (a.exports ∷ []) _ _ two c.first_of_two.ensures
