use Rattle.std.proofs.Common.{◌≡◌, ◌∙◌}
use Rattle.dfr_folder.specs.declared.name.Ending.{Ending}
use Rattle.dfr_folder.specs.declared.name.Ending.TheVariants as ending
use Rattle.dfr_folder.specs.Pairs.{name, synced, pair}
use Rattle.dfr_folder.proofs.Beside.{apart, stayed}
use Rattle.dfr_folder.proofs.Named.{half, parts, see_parts, see_half, see_pair}
use Rattle.dfr_folder.proofs.Stages.{first, after_first, second, after_second, third, exact, fourth}
use Rattle.dfr_folder.proofs.pairs.write_pair.Goals as goal

pub store-requires : goal.store-requires
store-requires g c =
    record { fresh = c.requires.free ending.DataPart }

pub returns-in_err-store-clause-any_moment : goal.returns-in_err-store-clause-any_moment
returns-in_err-store-clause-any_moment g c =
    let F = g.D.Directory.files in
    let M = g.D.Directory.may_leave in
    let L = g.D.Directory.left_since in
    let k = c.args.key in
    let x = c.args.cfg.now in
    let y = c.args.dat.now in
    let s0 = c.args.directory.now in
    let free = c.requires.free in
    let s1 = c.store.new.directory in
    let p1 = first F M L k x y s0 s1 free c.store.ensures.any_moment in
    p1

pub store-requires-2 : goal.store-requires-2
store-requires-2 g c =
    let F = g.D.Directory.files in
    let M = g.D.Directory.may_leave in
    let L = g.D.Directory.left_since in
    let k = c.args.key in
    let x = c.args.cfg.now in
    let y = c.args.dat.now in
    let s0 = c.args.directory.now in
    let free = c.requires.free in
    let s1 = c.store.new.directory in
    let p1 = first F M L k x y s0 s1 free c.store.ensures.any_moment in
    let a1 = after_first F M L k x y s0 s1 free c.store.ensures.any_moment c.in_ok-store.ensures.kept in
    record {
      fresh = record {
        unused = c.store.ensures.elsewhere (name k ending.ConfigPart) (apart k ending.ConfigPart ending.DataPart (λ e. absurd (cc))) ∙ (free ending.ConfigPart).unused;
        unleft = λ d left. (a1 d left).there.config_part;
      };
    }

pub returns-in_err-store-2-clause-any_moment : goal.returns-in_err-store-2-clause-any_moment
returns-in_err-store-2-clause-any_moment g c =
    let F = g.D.Directory.files in
    let M = g.D.Directory.may_leave in
    let L = g.D.Directory.left_since in
    let k = c.args.key in
    let x = c.args.cfg.now in
    let y = c.args.dat.now in
    let s0 = c.args.directory.now in
    let free = c.requires.free in
    let s1 = c.store.new.directory in
    let p1 = first F M L k x y s0 s1 free c.store.ensures.any_moment in
    let a1 = after_first F M L k x y s0 s1 free c.store.ensures.any_moment c.in_ok-store.ensures.kept in
    let s2 = c.store-2.new.directory in
    let p2 = second F M L k x y s0 s1 s2 p1 a1 c.store-2.ensures.any_moment in
    p2

pub settle-requires : goal.settle-requires
settle-requires g c =
    let F = g.D.Directory.files in
    let M = g.D.Directory.may_leave in
    let L = g.D.Directory.left_since in
    let k = c.args.key in
    let x = c.args.cfg.now in
    let y = c.args.dat.now in
    let s0 = c.args.directory.now in
    let free = c.requires.free in
    let s1 = c.store.new.directory in
    let p1 = first F M L k x y s0 s1 free c.store.ensures.any_moment in
    let a1 = after_first F M L k x y s0 s1 free c.store.ensures.any_moment c.in_ok-store.ensures.kept in
    let s2 = c.store-2.new.directory in
    let p2 = second F M L k x y s0 s1 s2 p1 a1 c.store-2.ensures.any_moment in
    let a2 = after_second F M L k x y s0 s1 s2 a1 c.store-2.ensures.any_moment c.in_ok-store-2.ensures.kept in
    let seen2 : (e : Ending) → F s2 (name k e) ≡ synced (parts x y e) = see_parts x y (λ e. F s0 (name k e)) (λ e. F s1 (name k e)) (λ e. F s2 (name k e)) (λ e. (free e).unused)
    (λ e differ. c.store.ensures.elsewhere (name k e) (apart k e ending.DataPart differ)) c.in_ok-store.ensures.synced
    (λ e differ. c.store-2.ensures.elsewhere (name k e) (apart k e ending.ConfigPart differ)) c.in_ok-store-2.ensures.synced in
    record { fresh = record { unused = seen2 ending.Data; unleft = λ d left. (a2 d left).there.data_file } }

pub returns-in_err-settle-clause-any_moment : goal.returns-in_err-settle-clause-any_moment
returns-in_err-settle-clause-any_moment g c =
    let F = g.D.Directory.files in
    let M = g.D.Directory.may_leave in
    let L = g.D.Directory.left_since in
    let k = c.args.key in
    let x = c.args.cfg.now in
    let y = c.args.dat.now in
    let s0 = c.args.directory.now in
    let free = c.requires.free in
    let s1 = c.store.new.directory in
    let p1 = first F M L k x y s0 s1 free c.store.ensures.any_moment in
    let a1 = after_first F M L k x y s0 s1 free c.store.ensures.any_moment c.in_ok-store.ensures.kept in
    let s2 = c.store-2.new.directory in
    let p2 = second F M L k x y s0 s1 s2 p1 a1 c.store-2.ensures.any_moment in
    let a2 = after_second F M L k x y s0 s1 s2 a1 c.store-2.ensures.any_moment c.in_ok-store-2.ensures.kept in
    let s3 = c.settle.new.directory in
    let p3 = third F M L k x y s0 s2 s3 p2 a2 c.settle.ensures.any_moment in
    p3

pub settle-requires-2 : goal.settle-requires-2
settle-requires-2 g c =
    let F = g.D.Directory.files in
    let M = g.D.Directory.may_leave in
    let L = g.D.Directory.left_since in
    let k = c.args.key in
    let x = c.args.cfg.now in
    let y = c.args.dat.now in
    let s0 = c.args.directory.now in
    let free = c.requires.free in
    let s1 = c.store.new.directory in
    let p1 = first F M L k x y s0 s1 free c.store.ensures.any_moment in
    let a1 = after_first F M L k x y s0 s1 free c.store.ensures.any_moment c.in_ok-store.ensures.kept in
    let s2 = c.store-2.new.directory in
    let p2 = second F M L k x y s0 s1 s2 p1 a1 c.store-2.ensures.any_moment in
    let a2 = after_second F M L k x y s0 s1 s2 a1 c.store-2.ensures.any_moment c.in_ok-store-2.ensures.kept in
    let s3 = c.settle.new.directory in
    let p3 = third F M L k x y s0 s2 s3 p2 a2 c.settle.ensures.any_moment in
    let seen2 : (e : Ending) → F s2 (name k e) ≡ synced (parts x y e) = see_parts x y (λ e. F s0 (name k e)) (λ e. F s1 (name k e)) (λ e. F s2 (name k e)) (λ e. (free e).unused)
    (λ e differ. c.store.ensures.elsewhere (name k e) (apart k e ending.DataPart differ)) c.in_ok-store.ensures.synced
    (λ e differ. c.store-2.ensures.elsewhere (name k e) (apart k e ending.ConfigPart differ)) c.in_ok-store-2.ensures.synced in
    let seen3 : (e : Ending) → F s3 (name k e) ≡ synced (half x y e) = see_half x y (λ e. F s2 (name k e)) (λ e. F s3 (name k e)) seen2
    (λ e not_from not_to. c.settle.ensures.elsewhere (name k e) (apart k e ending.DataPart not_from) (apart k e ending.Data not_to)) c.in_ok-settle.ensures.there c.in_ok-settle.ensures.left in
    let a3 = exact F M L k x y s0 s3 (half x y) p3 (stayed F M k s3 (half x y) seen3 c.in_ok-settle.ensures.stays) in
    record { fresh = record { unused = seen3 ending.Config; unleft = λ d left. (a3 d left).there ending.Config } }

pub returns-in_err-settle-2-clause-any_moment : goal.returns-in_err-settle-2-clause-any_moment
returns-in_err-settle-2-clause-any_moment g c =
    let F = g.D.Directory.files in
    let M = g.D.Directory.may_leave in
    let L = g.D.Directory.left_since in
    let k = c.args.key in
    let x = c.args.cfg.now in
    let y = c.args.dat.now in
    let s0 = c.args.directory.now in
    let free = c.requires.free in
    let s1 = c.store.new.directory in
    let p1 = first F M L k x y s0 s1 free c.store.ensures.any_moment in
    let a1 = after_first F M L k x y s0 s1 free c.store.ensures.any_moment c.in_ok-store.ensures.kept in
    let s2 = c.store-2.new.directory in
    let p2 = second F M L k x y s0 s1 s2 p1 a1 c.store-2.ensures.any_moment in
    let a2 = after_second F M L k x y s0 s1 s2 a1 c.store-2.ensures.any_moment c.in_ok-store-2.ensures.kept in
    let s3 = c.settle.new.directory in
    let p3 = third F M L k x y s0 s2 s3 p2 a2 c.settle.ensures.any_moment in
    let seen2 : (e : Ending) → F s2 (name k e) ≡ synced (parts x y e) = see_parts x y (λ e. F s0 (name k e)) (λ e. F s1 (name k e)) (λ e. F s2 (name k e)) (λ e. (free e).unused)
    (λ e differ. c.store.ensures.elsewhere (name k e) (apart k e ending.DataPart differ)) c.in_ok-store.ensures.synced
    (λ e differ. c.store-2.ensures.elsewhere (name k e) (apart k e ending.ConfigPart differ)) c.in_ok-store-2.ensures.synced in
    let seen3 : (e : Ending) → F s3 (name k e) ≡ synced (half x y e) = see_half x y (λ e. F s2 (name k e)) (λ e. F s3 (name k e)) seen2
    (λ e not_from not_to. c.settle.ensures.elsewhere (name k e) (apart k e ending.DataPart not_from) (apart k e ending.Data not_to)) c.in_ok-settle.ensures.there c.in_ok-settle.ensures.left in
    let a3 = exact F M L k x y s0 s3 (half x y) p3 (stayed F M k s3 (half x y) seen3 c.in_ok-settle.ensures.stays) in
    let s4 = c.settle-2.new.directory in
    fourth F M L k x y s0 s3 s4 p3 a3 c.settle-2.ensures.any_moment

pub returns-clause-any_moment : goal.returns-clause-any_moment
returns-clause-any_moment g c =
    let F = g.D.Directory.files in
    let M = g.D.Directory.may_leave in
    let L = g.D.Directory.left_since in
    let k = c.args.key in
    let x = c.args.cfg.now in
    let y = c.args.dat.now in
    let s0 = c.args.directory.now in
    let free = c.requires.free in
    let s1 = c.store.new.directory in
    let p1 = first F M L k x y s0 s1 free c.store.ensures.any_moment in
    let a1 = after_first F M L k x y s0 s1 free c.store.ensures.any_moment c.in_ok-store.ensures.kept in
    let s2 = c.store-2.new.directory in
    let p2 = second F M L k x y s0 s1 s2 p1 a1 c.store-2.ensures.any_moment in
    let a2 = after_second F M L k x y s0 s1 s2 a1 c.store-2.ensures.any_moment c.in_ok-store-2.ensures.kept in
    let s3 = c.settle.new.directory in
    let p3 = third F M L k x y s0 s2 s3 p2 a2 c.settle.ensures.any_moment in
    let seen2 : (e : Ending) → F s2 (name k e) ≡ synced (parts x y e) = see_parts x y (λ e. F s0 (name k e)) (λ e. F s1 (name k e)) (λ e. F s2 (name k e)) (λ e. (free e).unused)
    (λ e differ. c.store.ensures.elsewhere (name k e) (apart k e ending.DataPart differ)) c.in_ok-store.ensures.synced
    (λ e differ. c.store-2.ensures.elsewhere (name k e) (apart k e ending.ConfigPart differ)) c.in_ok-store-2.ensures.synced in
    let seen3 : (e : Ending) → F s3 (name k e) ≡ synced (half x y e) = see_half x y (λ e. F s2 (name k e)) (λ e. F s3 (name k e)) seen2
    (λ e not_from not_to. c.settle.ensures.elsewhere (name k e) (apart k e ending.DataPart not_from) (apart k e ending.Data not_to)) c.in_ok-settle.ensures.there c.in_ok-settle.ensures.left in
    let a3 = exact F M L k x y s0 s3 (half x y) p3 (stayed F M k s3 (half x y) seen3 c.in_ok-settle.ensures.stays) in
    let s4 = c.settle-2.new.directory in
    fourth F M L k x y s0 s3 s4 p3 a3 c.settle-2.ensures.any_moment

pub returns-clause-stored : goal.returns-clause-stored
returns-clause-stored g c =
    let F = g.D.Directory.files in
    let M = g.D.Directory.may_leave in
    let k = c.args.key in
    let x = c.args.cfg.now in
    let y = c.args.dat.now in
    let s0 = c.args.directory.now in
    let free = c.requires.free in
    let s1 = c.store.new.directory in
    let s2 = c.store-2.new.directory in
    let s3 = c.settle.new.directory in
    let seen2 : (e : Ending) → F s2 (name k e) ≡ synced (parts x y e) = see_parts x y (λ e. F s0 (name k e)) (λ e. F s1 (name k e)) (λ e. F s2 (name k e)) (λ e. (free e).unused)
    (λ e differ. c.store.ensures.elsewhere (name k e) (apart k e ending.DataPart differ)) c.in_ok-store.ensures.synced
    (λ e differ. c.store-2.ensures.elsewhere (name k e) (apart k e ending.ConfigPart differ)) c.in_ok-store-2.ensures.synced in
    let seen3 : (e : Ending) → F s3 (name k e) ≡ synced (half x y e) = see_half x y (λ e. F s2 (name k e)) (λ e. F s3 (name k e)) seen2
    (λ e not_from not_to. c.settle.ensures.elsewhere (name k e) (apart k e ending.DataPart not_from) (apart k e ending.Data not_to)) c.in_ok-settle.ensures.there c.in_ok-settle.ensures.left in
    let s4 = c.settle-2.new.directory in
    let seen4 : (e : Ending) → F s4 (name k e) ≡ synced (pair x y e) = see_pair x y (λ e. F s3 (name k e)) (λ e. F s4 (name k e)) seen3
    (λ e not_from not_to. c.settle-2.ensures.elsewhere (name k e) (apart k e ending.ConfigPart not_from) (apart k e ending.Config not_to)) c.in_ok-settle-2.ensures.there c.in_ok-settle-2.ensures.left in
    stayed F M k s4 (pair x y) seen4 c.in_ok-settle-2.ensures.stays
