use Rattle.std.proofs.Common.{◌≡◌, ℕ, ◌+◌, ◌<◌, ◌≤◌, List, [], ◌∷◌, length, ap, arith}
use Rattle.comtrade_io.specs.declared.records.Next.TheVariants.{End}
use Rattle.comtrade_io.specs.Replayed.{Answer, Ending, Record, Fault, Nothing, AreLines, IsEnding, answers_text, ending_text, Finds}
use Rattle.comtrade_io.proofs.Cutting.{answers_long}
use Rattle.comtrade_io.proofs.records.next_record.Invariants.{Left}
use Rattle.comtrade_io.proofs.records.next_record.Goals as goal

pub loop-i-init : goal.loop-i-init
loop-i-init c = λ answers e lines ok is. record { more = answers; lines = lines; is = is; fewer = omega arith }

step : (c : goal.In-Answer) (answers : List Answer) (e : Ending) → IsEnding e → (more : List Answer) → AreLines more → c.loop-i.left.now ≡ answers_text more (ending_text e) → length more + c.loop-i._i ≤ length answers → Left answers e (c.loop-i._i + 1) c.in-Answer.rest.now
step c answers e ok [] lines is fewer = absurd (c.in-Answer.ensures.ending e ok is)
step c answers e ok (a ∷ more) lines is fewer =
    record { more = more; lines = lines.1; is = c.in-Answer.ensures.answer a (answers_text more (ending_text e)) lines.0 is; fewer = omega arith }

pub loop-i-preserved : goal.loop-i-preserved
loop-i-preserved c = λ answers e lines ok is.
    let left = c.loop-i.invariant answers e lines ok is in
    step c answers e ok left.more left.lines left.is left.fewer

last : (c : goal.In-Last) (e : Ending) → IsEnding e → (more : List Answer) → AreLines more → c.loop-i.left.now ≡ answers_text more (ending_text e) → Finds c.in-Last.next e
last c e ok [] lines is = c.in-Last.ensures.ending e ok is
last c e ok (a ∷ more) lines is = absurd (c.in-Last.ensures.answer a (answers_text more (ending_text e)) lines.0 is)

pub returns-in-Last : goal.returns-in-Last
returns-in-Last c = λ answers e lines ok is.
    let left = c.loop-i.invariant answers e lines ok is in
    last c e ok left.more left.lines left.is

-- so many answers and something after them are longer than the loop
too_long : (answers more : List Answer) (e : Ending) (text : List ℕ) (i : ℕ) → text ≡ answers_text answers (ending_text e) → 0 < length (ending_text e) → length more + i ≤ length answers → (i < length text → ⊥) → ⊥
too_long answers more e text i is some fewer far = far (omega (arith, answers_long answers (ending_text e), ap length is))

after_all : (c : goal.After-loop-i) (answers : List Answer) (e : Ending) → AreLines answers → IsEnding e → c.args.text.now ≡ answers_text answers (ending_text e) → Finds End e
after_all c answers (Record r after) lines ok is =
    let left = c.loop-i.invariant answers (Record r after) lines ok is in
    absurd (too_long answers left.more (Record r after) c.args.text.now c.loop-i._i is (omega arith) left.fewer (λ lt. absurd (omega arith)))
after_all c answers (Fault words after) lines ok is =
    let left = c.loop-i.invariant answers (Fault words after) lines ok is in
    absurd (too_long answers left.more (Fault words after) c.args.text.now c.loop-i._i is (omega arith) left.fewer (λ lt. absurd (omega arith)))
after_all c answers Nothing lines ok is = tt

pub returns : goal.returns
returns c = after_all c
