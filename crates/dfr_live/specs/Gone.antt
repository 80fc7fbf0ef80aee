-- The records that are taken in a list of steps, and what is remembered of them.
use Rattle.std.specs.Prelude.{◌≡◌, ℕ, ◌<◌, List, [], ◌∷◌, ◌++◌, Option, Some, None, Result, Ok, Err, IfSome, option_to_list}
use Rattle.comtrade_values.specs.declared.memory.Memory.{Memory as Want}
use Rattle.dfr_recorder.specs.Parts.{RecordParts}
use Rattle.dfr_recorder.specs.Steps.{StepParts}
use Rattle.dfr_recorder.specs.Answers.{AnswerParts}
use Rattle.dfr_recorder.specs.Answers as answer
use Rattle.dfr_recorder.specs.History.{Opening}
use Rattle.dfr_recorder.specs.Kept.{reply}
use Rattle.dfr_live.specs.Lane.{RingName}

-- the record that an answer hands out
abbrev pub record_in : AnswerParts → List RecordParts
record_in (answer.Scan a) = []
record_in (answer.Lost a) = []
record_in (answer.Trigger a) = []
record_in (answer.Take taken) = option_to_list taken
record_in (answer.SetRules done) = []

-- the records that are taken in this history, whose newest step stands first; the oldest record first
abbrev pub records_taken : Opening → List StepParts → List RecordParts
records_taken o [] = []
records_taken o (s ∷ h) = records_taken o h ++ record_in (reply o h s)

-- the end of a ring at which records are noted: which ring it is, the records noted so far, and how
-- many more it has room for
pub record OutboxParts (A : Type 0) : Type 0 where
  pub name : RingName A
  pub sent : List RecordParts
  pub free : ℕ

module _ {A : Type 0} where
  -- these records were noted, at the end, if any are
  abbrev pub Adds : Option (OutboxParts A) → List RecordParts → Option (OutboxParts A) → Type 0
  Adds None more y = y ≡ None
  Adds (Some x) more y =
      (z : OutboxParts A) × (y ≡ Some z) × (z.name ≡ x.name) × (z.sent ≡ x.sent ++ more)

  abbrev pub HasRoom : Option (OutboxParts A) → Type 0
  HasRoom x = IfSome x (λ b. 0 < b.free)

  -- in that ring just these records were noted, if any are
  abbrev pub Remembers : RingName A → List RecordParts → Option (OutboxParts A) → Type 0
  Remembers name records x = IfSome x (λ b. (b.name ≡ name) × (b.sent ≡ records))

  -- all that was noted came out at the other end, if it is there
  abbrev pub IsUpTo : Option (OutboxParts A) → Option (List RecordParts) → Type 0
  IsUpTo x None = Unit {0}
  IsUpTo None (Some out) = ⊥
  IsUpTo (Some b) (Some out) = b.sent ≡ out

-- the record that a take handed out came out at the other end, if it is there
abbrev pub Follows : Option (List RecordParts) → Result (Option RecordParts) Want → Option (List RecordParts) → Type 0
Follows None came y = y ≡ None
Follows (Some out) (Ok taken) y = y ≡ Some (out ++ option_to_list taken)
Follows (Some out) (Err refused) y = y ≡ Some out
