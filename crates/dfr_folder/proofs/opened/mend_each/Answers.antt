use Rattle.std.proofs.Common.{arith}
use Rattle.dfr_folder.specs.Pairs.{AllWhole}
use Rattle.dfr_folder.proofs.Moments.{begins, joined}
use Rattle.dfr_folder.proofs.opened.mend_each.Goals as goal

pub returns-in_default : goal.returns-in_default
returns-in_default g c =
    let M = g.D.Directory.may_leave in
    let L = g.D.Directory.left_since in
    let s0 = c.args.directory.now in
    record {
      whole = λ records all. begins M L s0 c.leftovers.new.self (AllWhole records) c.leftovers.ensures.time (λ d left. all d (c.leftovers.ensures.crash d left));
      later = c.leftovers.ensures.cause.later;
    }

pub loop-key-init : goal.loop-key-init
loop-key-init g c =
    let M = g.D.Directory.may_leave in
    let L = g.D.Directory.left_since in
    let s0 = c.args.directory.now in
    record {
      whole = λ records all. begins M L s0 c.leftovers.new.self (AllWhole records) c.leftovers.ensures.time (λ d left. all d (c.leftovers.ensures.crash d left));
      later = c.leftovers.ensures.cause.later;
    }

pub loop-key-preserved : goal.loop-key-preserved
loop-key-preserved g c =
    let M = g.D.Directory.may_leave in
    let L = g.D.Directory.left_since in
    let s0 = c.args.directory.now in
    let i = c.loop-key.invariant in
    let mid = c.loop-key.directory in
    record {
      whole = λ records all. joined M L s0 mid c.mend.new.directory (AllWhole records) (AllWhole records) (i.whole records all) (c.mend.ensures.whole records (i.whole records all).after) (λ d w. w);
      later = omega (arith, i.later, c.mend.ensures.cause.later);
    }
