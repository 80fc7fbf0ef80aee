use Rattle.std.proofs.Common.{◌≡◌, false, rules}
use Rattle.dfr_folder.proofs.Looking.{free_from}
use Rattle.dfr_folder.proofs.checked.claim.Goals as goal

pub returns-clause-free : goal.returns-clause-free
returns-clause-free g c = λ yes.
    let F = g.D.Directory.files in
    let M = g.D.Directory.may_leave in
    let names = c.in_ok-names.names in
    let cfg : names.cfg ≡ false = search rules in
    let dat : names.dat ≡ false = search rules in
    let cfg_part : names.cfg_part ≡ false = search rules in
    let dat_part : names.dat_part ≡ false = search rules in
    let gone : names.gone ≡ false = search rules in
    free_from F M c.args.key c.args.directory.now c.look.new.self c.sync_names.new.self names c.in_ok-names.ensures.names cfg dat cfg_part dat_part gone c.look.ensures.same c.sync_names.ensures.same
    c.in_ok-sync_names.ensures.stays
