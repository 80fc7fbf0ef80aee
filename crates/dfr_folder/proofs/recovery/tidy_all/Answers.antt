use Rattle.std.proofs.Common.{◌⊎◌, refl, ap, subst, inl, inr, arith}
use Rattle.std.specs.Prelude.{Contains}
use Rattle.dfr_folder.specs.Pairs.{name, under, bytes_of, seen, AllMend, MendsOne}
use Rattle.dfr_folder.proofs.Moments.{begins, joined}
use Rattle.dfr_folder.proofs.Mends.{same_mends, same_tidied}
use Rattle.dfr_folder.proofs.Rest.{rests_on, seen_is, at_rest}
use Rattle.dfr_folder.proofs.Everyone.{IsDone, listed, all_mend, all_rest, all_made, all_same, all_done, mends_one, none_contained}
use Rattle.dfr_folder.proofs.recovery.tidy_all.Goals as goal

pub returns-in_err-keys-clause-any_moment : goal.returns-in_err-keys-clause-any_moment
returns-in_err-keys-clause-any_moment g c =
    let F = g.D.Directory.files in
    let M = g.D.Directory.may_leave in
    let s0 = c.args.directory.now in
    let L = g.D.Directory.left_since in
    let s1 = c.leftovers.new.self in
    let m1 = begins M L s0 s1 (AllMend F s0) c.leftovers.ensures.time (λ d left k. same_mends (seen F s0 k) (under d k) ((c.requires.rests k).left d (c.leftovers.ensures.crash d left))) in
    m1

pub loop-key-init : goal.loop-key-init
loop-key-init g c =
    let F = g.D.Directory.files in
    let M = g.D.Directory.may_leave in
    let s0 = c.args.directory.now in
    let L = g.D.Directory.left_since in
    let s1 = c.leftovers.new.self in
    let m1 = begins M L s0 s1 (AllMend F s0) c.leftovers.ensures.time (λ d left k. same_mends (seen F s0 k) (under d k) ((c.requires.rests k).left d (c.leftovers.ensures.crash d left))) in
    let f1 = begins M L s0 s1 (MendsOne M s0) c.leftovers.ensures.time (λ d left. (d, c.leftovers.ensures.crash d left, λ k. same_mends (under d k) (under d k) (λ e. refl))) in
    let same = c.leftovers.ensures.same in
    record {
      moments = m1;
      from = f1;
      rests = λ k. at_rest F M k s1 (seen F s0 k) (rests_on F M k s0 s1 (c.requires.rests k) same c.leftovers.ensures.crash);
      mends = λ k. same_mends (seen F s0 k) (seen F s1 k) (seen_is F M k s1 (seen F s0 k) (rests_on F M k s0 s1 (c.requires.rests k) same c.leftovers.ensures.crash));
      same = λ k. same_tidied (seen F s0 k) (seen F s1 k) (λ e. ap bytes_of (same (name k e)));
      todo = listed F M s0 s1 c.in_ok-keys.keys.items same c.in_ok-keys.ensures.keys;
      time = c.leftovers.ensures.cause.later;
    }

pub loop-key-preserved : goal.loop-key-preserved
loop-key-preserved g c =
    let F = g.D.Directory.files in
    let M = g.D.Directory.may_leave in
    let s0 = c.args.directory.now in
    let L = g.D.Directory.left_since in
    let i = c.loop-key.invariant in
    let mid = c.loop-key.directory in
    let new = c.tidy.new.directory in
    let key = c.in-Some.key in
    let m = joined M L s0 mid new (AllMend F s0) _ i.moments c.tidy.ensures.any_moment (λ d b. all_mend F M s0 mid key i.rests i.mends d b) in
    let f = joined M L s0 mid new (MendsOne M s0) _ i.from c.tidy.ensures.any_moment (mends_one F M s0 mid key (i.rests key) i.from.after) in
    let same = c.tidy.ensures.elsewhere in
    let clean = c.in_ok-tidy.ensures.clean in
    let keys = c.pop.new.self.items in
    record {
      moments = m;
      from = f;
      rests = all_rest F M s0 mid new key i.rests c.in_ok-tidy.ensures.rests same c.tidy.ensures.any_moment.after;
      mends = all_made F M s0 mid new key i.mends same clean;
      same = all_same F M s0 mid new key i.same same clean;
      todo = all_done F M s0 mid new key keys i.same same clean (λ k. subst (λ xs. Contains xs k ⊎ IsDone F M s0 mid k) c.in-Some.ensures.items (i.todo k));
      time = omega (arith, i.time, c.tidy.ensures.cause.later);
    }

pub returns-in_err-tidy-clause-any_moment : goal.returns-in_err-tidy-clause-any_moment
returns-in_err-tidy-clause-any_moment g c =
    let F = g.D.Directory.files in
    let M = g.D.Directory.may_leave in
    let s0 = c.args.directory.now in
    let L = g.D.Directory.left_since in
    let i = c.loop-key.invariant in
    let mid = c.loop-key.directory in
    let new = c.tidy.new.directory in
    let key = c.in-Some.key in
    let m = joined M L s0 mid new (AllMend F s0) _ i.moments c.tidy.ensures.any_moment (λ d b. all_mend F M s0 mid key i.rests i.mends d b) in
    m

pub returns-in_err-keys-clause-from : goal.returns-in_err-keys-clause-from
returns-in_err-keys-clause-from g c =
    let F = g.D.Directory.files in
    let M = g.D.Directory.may_leave in
    let s0 = c.args.directory.now in
    let L = g.D.Directory.left_since in
    let s1 = c.leftovers.new.self in
    begins M L s0 s1 (MendsOne M s0) c.leftovers.ensures.time (λ d left. (d, c.leftovers.ensures.crash d left, λ k. same_mends (under d k) (under d k) (λ e. refl)))

pub returns-in_err-tidy-clause-from : goal.returns-in_err-tidy-clause-from
returns-in_err-tidy-clause-from g c =
    let F = g.D.Directory.files in
    let M = g.D.Directory.may_leave in
    let s0 = c.args.directory.now in
    let L = g.D.Directory.left_since in
    let i = c.loop-key.invariant in
    let mid = c.loop-key.directory in
    let new = c.tidy.new.directory in
    let key = c.in-Some.key in
    joined M L s0 mid new (MendsOne M s0) _ i.from c.tidy.ensures.any_moment (mends_one F M s0 mid key (i.rests key) i.from.after)

pub returns-clause-clean : goal.returns-clause-clean
returns-clause-clean g c =
    let keys = c.loop-key.keys in
    λ key end. elim (c.loop-key.invariant.todo key) [
      | inl has ↦ absurd (none_contained keys.items key (omega (arith, c.in_default.ensures.cases.0, keys.ok.0)) has)
      | inr done ↦ done end
    ]
