use Rattle.std.proofs.Common.{to_z-of_z, FitsSigned, w64}
use Rattle.dfr_folder.proofs.DatedLemmas.{has_civil, in_order}
use Rattle.dfr_folder.proofs.dated.key_at.Goals as goal

pub returns-clause-dated : goal.returns-clause-dated
returns-clause-dated c =
    let fits : FitsSigned w64 c.args.instant = c.ranges.instant in
    simp to_z-of_z at c.dated_key.ensures.dated

pub returns-clause-sorted : goal.returns-clause-sorted
returns-clause-sorted c = λ other key has is dated.
    let fits : FitsSigned w64 c.args.instant = c.ranges.instant in
    let named = simp to_z-of_z at c.dated_key.ensures.dated in
    in_order other c.args.instant key c.dated_key.result has is dated (named (has_civil c.args.instant is))
