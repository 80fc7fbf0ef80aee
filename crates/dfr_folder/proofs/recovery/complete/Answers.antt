use Rattle.std.proofs.Common.{◌≡◌}
use Rattle.dfr_folder.specs.declared.name.Ending.{Ending}
use Rattle.dfr_folder.specs.declared.name.Ending.TheVariants as ending
use Rattle.dfr_folder.specs.Pairs.{name, synced, seen}
use Rattle.dfr_folder.proofs.Beside.{apart, stayed}
use Rattle.dfr_folder.proofs.Mends.{after_data, after_config}
use Rattle.dfr_folder.proofs.Rest.{see_data, see_config, at_rest}
use Rattle.dfr_folder.proofs.recovery.complete.Goals as goal

pub returns-in_ok-settle-in-NameData-clause-rests : goal.returns-in_ok-settle-in-NameData-clause-rests
returns-in_ok-settle-in-NameData-clause-rests g c =
    let F = g.D.Directory.files in
    let M = g.D.Directory.may_leave in
    let k = c.args.key in
    let s0 = c.args.directory.now in
    let h = seen F s0 k in
    let s1 = c.settle.new.directory in
    let is : (e : Ending) → F s1 (name k e) ≡ synced (after_data h e) = see_data h (λ e. F s0 (name k e)) (λ e. F s1 (name k e)) c.requires.rests.seen
    (λ e not_from not_to. c.settle.ensures.elsewhere (name k e) (apart k e ending.DataPart not_from) (apart k e ending.Data not_to)) c.in_ok-settle-in-NameData.ensures.there c.in_ok-settle-in-NameData.ensures.left in
    at_rest F M k s1 (after_data h) (stayed F M k s1 (after_data h) is c.in_ok-settle-in-NameData.ensures.stays)

pub returns-in_ok-settle-in-NameConfig-clause-rests : goal.returns-in_ok-settle-in-NameConfig-clause-rests
returns-in_ok-settle-in-NameConfig-clause-rests g c =
    let F = g.D.Directory.files in
    let M = g.D.Directory.may_leave in
    let k = c.args.key in
    let s0 = c.args.directory.now in
    let h = seen F s0 k in
    let s1 = c.settle-in-NameConfig.new.directory in
    let is : (e : Ending) → F s1 (name k e) ≡ synced (after_config h e) = see_config h (λ e. F s0 (name k e)) (λ e. F s1 (name k e)) c.requires.rests.seen
    (λ e not_from not_to. c.settle-in-NameConfig.ensures.elsewhere (name k e) (apart k e ending.ConfigPart not_from) (apart k e ending.Config not_to)) c.in_ok-settle-in-NameConfig.ensures.there c.in_ok-settle-in-NameConfig.ensures.left in
    at_rest F M k s1 (after_config h) (stayed F M k s1 (after_config h) is c.in_ok-settle-in-NameConfig.ensures.stays)
