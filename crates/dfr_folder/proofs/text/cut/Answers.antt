use Rattle.std.proofs.Common.{arith}
use Rattle.dfr_folder.proofs.TextLemmas.{cut_at, front_is, rest_is, lacks_all, not_lacked}
use Rattle.dfr_folder.proofs.text.cut.Goals as goal

pub returns-then-b-mark-clause-reads : goal.returns-then-b-mark-clause-reads
returns-then-b-mark-clause-reads c = λ front rest lacks is.
    let at = cut_at c.args.text.now front rest c.args.mark c.loop-at.at lacks is c.if-b-mark.true c.loop-at.invariant in
    (front_is c.args.text.now front rest c.args.mark c.loop-at.at is at, rest_is c.args.text.now front rest c.args.mark c.loop-at.at is at)

pub returns-clause-reads : goal.returns-clause-reads
returns-clause-reads c = λ front rest lacks is.
    not_lacked c.args.text.now front rest c.args.mark is (lacks_all c.args.text.now c.args.mark (λ k less here. c.loop-at.invariant k (omega (arith, less, c.loop-at-test.false)) here))

pub returns-clause-none : goal.returns-clause-none
returns-clause-none c = λ none. lacks_all c.args.text.now c.args.mark (λ k less here. c.loop-at.invariant k (omega (arith, less, c.loop-at-test.false)) here)
