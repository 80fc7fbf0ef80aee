use Rattle.std.proofs.Common.{◌≡◌, ℕ, ◌+◌, ◌≤◌, List, length}
use Rattle.comtrade_io.specs.Replayed.{Answer, Ending, AreLines, IsEnding, answers_text, ending_text}
use Rattle.comtrade_io.proofs.records.next_record.Given as goal

-- some of the answers are left, and what ends them
pub record Left (answers : List Answer) (e : Ending) (i : ℕ) (left : List ℕ) : Type 0 where
  pub more : List Answer
  pub lines : AreLines more
  pub is : left ≡ answers_text more (ending_text e)
  pub fewer : length more + i ≤ length answers

abbrev pub invariant-loop-i : goal.invariant-loop-i
invariant-loop-i l = (answers : List Answer) (e : Ending) → AreLines answers → IsEnding e → l.text ≡ answers_text answers (ending_text e) → Left answers e l._i l.left
