use Rattle.std.proofs.Common.{arith}
use Rattle.dfr_folder.specs.Pairs.{AllWhole}
use Rattle.dfr_folder.proofs.Moments.{joined}
use Rattle.dfr_folder.proofs.Clean.{no_leftover}
use Rattle.dfr_folder.proofs.opened.recover_all.Goals as goal

pub returns-in-Err : goal.returns-in-Err
returns-in-Err g c =
    let M = g.D.Directory.may_leave in
    let L = g.D.Directory.left_since in
    let s0 = c.args.directory.now in
    let s1 = c.recover.new.directory in
    record {
      whole = λ records all.
          let w1 = c.recover.ensures.whole records all in
          joined M L s0 s1 c.mend_each-in-Err.new.directory (AllWhole records) (AllWhole records) w1 (c.mend_each-in-Err.ensures.whole records w1.after) (λ d w. w);
      from = λ yes few. absurd (omega (arith, few, c.mend_each-in-Err.ensures.later, c.in-Err.ensures.cause.failed));
      clean = λ yes few. absurd (omega (arith, few, c.mend_each-in-Err.ensures.later, c.in-Err.ensures.cause.failed));
    }

pub returns-in-Ok-clause-clean : goal.returns-in-Ok-clause-clean
returns-in-Ok-clause-clean g c = λ yes few. no_leftover g.D.Directory.files c.args.directory.now c.recover.new.directory c.in-Ok.ensures.clean
