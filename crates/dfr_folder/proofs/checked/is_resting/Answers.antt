use Rattle.std.proofs.Common.{◌≡◌, true, rules}
use Rattle.dfr_folder.specs.Pairs.{seen}
use Rattle.dfr_folder.proofs.Rest.{at_rest, settled}
use Rattle.dfr_folder.proofs.checked.is_resting.Goals as goal

pub returns-clause-rests : goal.returns-clause-rests
returns-clause-rests g c = λ yes.
    let F = g.D.Directory.files in
    let M = g.D.Directory.may_leave in
    let key = c.args.key in
    let s1 = c.is_whole.new.directory in
    let s2 = c.sync_names.new.self in
    let are : c.in_ok-is_whole.field-0 ≡ true = search rules in
    at_rest F M key s2 (seen F s1 key) (settled F M key s1 s2 (seen F s1 key) (c.in_ok-is_whole.ensures.synced are) c.sync_names.ensures.same c.in_ok-sync_names.ensures.stays)
