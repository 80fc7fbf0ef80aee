use Rattle.std.proofs.Common.{refl}
use Rattle.dfr_folder.specs.declared.name.Ending.TheVariants as ending
use Rattle.dfr_folder.specs.Pairs.{AllWhole}
use Rattle.dfr_folder.proofs.Moments.{begins, goes_on}
use Rattle.dfr_folder.proofs.Dropping.{dropped, drops_first, drops_whole}
use Rattle.dfr_folder.proofs.opened.drop_parts.Goals as goal

pub returns-in_err-remove-clause-whole : goal.returns-in_err-remove-clause-whole
returns-in_err-remove-clause-whole g c =
    let F = g.D.Directory.files in
    let M = g.D.Directory.may_leave in
    let L = g.D.Directory.left_since in
    let k = c.args.key in
    let s0 = c.args.directory.now in
    let s1 = c.remove.new.self in
    let d1 = dropped F M k s0 s0 s1 ending.ConfigPart refl (drops_first F M k s0) c.remove.ensures.crash in
    λ records all.
    let w1 = begins M L s0 s1 (AllWhole records) c.remove.ensures.time (λ d left. drops_whole F M k records s0 all d (d1 d left)) in
    w1

pub returns-in_err-remove-2-clause-whole : goal.returns-in_err-remove-2-clause-whole
returns-in_err-remove-2-clause-whole g c =
    let F = g.D.Directory.files in
    let M = g.D.Directory.may_leave in
    let L = g.D.Directory.left_since in
    let k = c.args.key in
    let s0 = c.args.directory.now in
    let s1 = c.remove.new.self in
    let d1 = dropped F M k s0 s0 s1 ending.ConfigPart refl (drops_first F M k s0) c.remove.ensures.crash in
    λ records all.
    let w1 = begins M L s0 s1 (AllWhole records) c.remove.ensures.time (λ d left. drops_whole F M k records s0 all d (d1 d left)) in
    let s2 = c.remove-2.new.self in
    let d2 = dropped F M k s0 s1 s2 ending.DataPart refl d1 c.remove-2.ensures.crash in
    goes_on M L s0 s1 s2 (AllWhole records) w1 c.remove-2.ensures.time (λ d left. drops_whole F M k records s0 all d (d2 d left))

pub returns-clause-whole : goal.returns-clause-whole
returns-clause-whole g c =
    let F = g.D.Directory.files in
    let M = g.D.Directory.may_leave in
    let L = g.D.Directory.left_since in
    let k = c.args.key in
    let s0 = c.args.directory.now in
    let s1 = c.remove.new.self in
    let d1 = dropped F M k s0 s0 s1 ending.ConfigPart refl (drops_first F M k s0) c.remove.ensures.crash in
    λ records all.
    let w1 = begins M L s0 s1 (AllWhole records) c.remove.ensures.time (λ d left. drops_whole F M k records s0 all d (d1 d left)) in
    let s2 = c.remove-2.new.self in
    let d2 = dropped F M k s0 s1 s2 ending.DataPart refl d1 c.remove-2.ensures.crash in
    let w2 = goes_on M L s0 s1 s2 (AllWhole records) w1 c.remove-2.ensures.time (λ d left. drops_whole F M k records s0 all d (d2 d left)) in
    goes_on M L s0 s2 c.sync_names.new.self (AllWhole records) w2 c.sync_names.ensures.time (λ d left. w2.after d (c.sync_names.ensures.crash d left))
