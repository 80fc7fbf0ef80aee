use Rattle.std.proofs.Common.{◌≡◌, ap, ◌∙◌, sym, subst}
use Rattle.std.specs.Prelude.{codes}
use Rattle.std.specs.List.{before_first, after_first}
use Rattle.comtrade_io.specs.declared.records.Next.{Next}
use Rattle.comtrade_io.specs.declared.records.Next.TheVariants as next
use Rattle.comtrade_io.specs.Pieces.{is_feed}
use Rattle.comtrade_io.specs.Replayed.{answer_line, extent_words, Ending, Record, Fault, Nothing, IsEnding, ending_text, Finds}
use Rattle.comtrade_io.proofs.Cutting.{found, record_found, fault_found, stripped, not_stripped, no_record, no_ending}
use Rattle.comtrade_io.proofs.records.piece_of.Goals as goal
use Rattle.comtrade_io.proofs.records.piece_of.Goals.{in-Some-record_of, in-None}

record_ends : (c : goal.Joined-record_of) (e : Ending) → IsEnding e → c.args.text.now ≡ ending_text e → Finds c.match-record_of.result e
record_ends c (Record r after) ok e =
    let f = record_found r after c.args.text.now ok e in
    let line = c.in-Some.ensures.line ∙ ap (before_first is_feed) e ∙ f.before in
    let rest = c.in-Some.ensures.rest ∙ ap (after_first is_feed) e ∙ f.after in
    let words = c.in-Some-strip_prefix.ensures.cases.1 ∙ (stripped (codes "record ") (extent_words r) c.in-Some.line.now line).1 in
    elim c.match-record_of.branch [
      | in-Some-record_of w ↦
          let held = w.in-Some-record_of.ensures r after ok words rest in
          subst (λ (n : Next). Finds n (Record r after)) (sym w.result-is) (held.0.0, held.0.1, held.0.2, held.1)
      | in-None w ↦ absurd (w.in-None.ensures r after ok words rest)
    ]
record_ends c (Fault words after) ok e =
    absurd (no_record words c.in-Some.line.now (c.in-Some.ensures.line ∙ ap (before_first is_feed) e ∙ (fault_found words after c.args.text.now ok e).before) c.in-Some-strip_prefix.ensures.cases.0)
record_ends c Nothing ok e = absurd (c.in-Some.ensures.none e)

pub returns-in-Some-strip_prefix-clause-ending : goal.returns-in-Some-strip_prefix-clause-ending
returns-in-Some-strip_prefix-clause-ending c = record_ends c

fault_ends : (c : goal.Then-starts_with) (e : Ending) → IsEnding e → c.args.text.now ≡ ending_text e → Finds (next.Fault c.in-Some.line) e
fault_ends c (Record r after) ok e =
    absurd (not_stripped (codes "record ") (extent_words r) c.in-Some.line.now (c.in-Some.ensures.line ∙ ap (before_first is_feed) e ∙ (record_found r after c.args.text.now ok e).before) c.in_default-strip_prefix.ensures.cases)
fault_ends c (Fault words after) ok e = c.in-Some.ensures.line ∙ ap (before_first is_feed) e ∙ (fault_found words after c.args.text.now ok e).before
fault_ends c Nothing ok e = absurd (c.in-Some.ensures.none e)

pub returns-then-starts_with-clause-ending : goal.returns-then-starts_with-clause-ending
returns-then-starts_with-clause-ending c = fault_ends c

pub returns-then-is_answer-clause-answer : goal.returns-then-is_answer-clause-answer
returns-then-is_answer-clause-answer c = λ a after one e. c.in-Some.ensures.rest ∙ ap (after_first is_feed) e ∙ (found 10 (answer_line a) after one).after

pub returns-then-is_answer-clause-ending : goal.returns-then-is_answer-clause-ending
returns-then-is_answer-clause-ending c = λ e ok is.
    no_ending c.args.text.now c.in-Some.line.now e c.in-Some.ensures.line c.in-Some.ensures.none c.in_default-strip_prefix.ensures.cases c.if-starts_with.ensures.value ok is

pub returns-clause-answer : goal.returns-clause-answer
returns-clause-answer c = λ a after one e.
    let line = c.in-Some.ensures.line ∙ ap (before_first is_feed) e ∙ (found 10 (answer_line a) after one).before in
    cc (c.if-is_answer.ensures a line)

pub returns-clause-ending : goal.returns-clause-ending
returns-clause-ending c = λ e ok is.
    no_ending c.args.text.now c.in-Some.line.now e c.in-Some.ensures.line c.in-Some.ensures.none c.in_default-strip_prefix.ensures.cases c.if-starts_with.ensures.value ok is
