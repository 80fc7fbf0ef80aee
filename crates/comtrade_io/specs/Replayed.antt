-- What a replay prints, as far as its records are cut out of it.
use Rattle.std.specs.Prelude.{◌≡◌, ⊤, ℕ, ◌^◌, ◌<◌, List, [], ◌∷◌, ◌++◌, length, codes, decimal}
use Rattle.std.specs.List.{All}
use Rattle.comtrade_io.specs.declared.records.Next.{Next}
use Rattle.comtrade_io.specs.declared.records.Next.TheVariants as next

-- an answer that is one line; the words after the first one are any
pub data Answer : Type 0 where
  Scan : List ℕ → Answer
  Lost : List ℕ → Answer
  Trigger : List ℕ → Answer
  Rules : List ℕ → Answer
  NoneTaken : Answer

abbrev pub answer_line : Answer → List ℕ
answer_line (Scan words) = codes "scan " ++ words
answer_line (Lost words) = codes "lost " ++ words
answer_line (Trigger words) = codes "trigger " ++ words
answer_line (Rules words) = codes "rules " ++ words
answer_line NoneTaken = codes "take none"

abbrev pub line_feed : ℕ
line_feed = 10

-- no line ends in it
abbrev pub IsOneLine : List ℕ → Type 0
IsOneLine text = All (λ b. (b ≡ line_feed) → ⊥) text

-- lines of answers, and what stands after them
abbrev pub answers_text : List Answer → List ℕ → List ℕ
answers_text [] after = after
answers_text (a ∷ more) after = answer_line a ++ (line_feed ∷ answers_text more after)

abbrev pub AreLines : List Answer → Type 0
AreLines [] = ⊤
AreLines (a ∷ more) = IsOneLine (answer_line a) × AreLines more

-- a taken record: its number, the words after it, and the bytes of its two files
pub record Taken : Type 0 where
  pub number : ℕ
  pub words : List ℕ
  pub cfg : List ℕ
  pub dat : List ℕ

-- a word, the number of bytes, a line end, the bytes, and what stands after them
abbrev pub sized : List ℕ → List ℕ → List ℕ → List ℕ
sized word bytes after = word ++ (decimal (length bytes) ++ (line_feed ∷ (bytes ++ after)))

-- what stands after `record ` in the line of a record
abbrev pub extent_words : Taken → List ℕ
extent_words r = decimal r.number ++ (32 ∷ r.words)

-- the two files of a record and a line end, and what stands after them
abbrev pub files_text : Taken → List ℕ → List ℕ
files_text r after = sized (codes "cfg ") r.cfg (sized (codes "dat ") r.dat (line_feed ∷ after))

abbrev pub record_text : Taken → List ℕ → List ℕ
record_text r after = (codes "record " ++ extent_words r) ++ (line_feed ∷ files_text r after)

pub record IsRecord (r : Taken) : Type 0 where
  pub number : r.number < 2 ^ 64
  pub words : IsOneLine r.words
  pub cfg : length r.cfg < 2 ^ 64
  pub dat : length r.dat < 2 ^ 64

-- what stands after the answers: a record, the line of a fault, or nothing
pub data Ending : Type 0 where
  Record : Taken → List ℕ → Ending
  Fault : List ℕ → List ℕ → Ending
  Nothing : Ending

abbrev pub ending_text : Ending → List ℕ
ending_text (Record r after) = record_text r after
ending_text (Fault words after) = (codes "fault " ++ words) ++ (line_feed ∷ after)
ending_text Nothing = []

abbrev pub IsEnding : Ending → Type 0
IsEnding (Record r after) = IsRecord r
IsEnding (Fault words after) = IsOneLine words
IsEnding Nothing = ⊤

-- the record with its number and its files, and what stands after it; or the line of the fault; or nothing more
abbrev pub Finds : Next → Ending → Type 0
Finds (next.Record printed rest) (Record r after) = (printed.number ≡ r.number) × (printed.cfg.now ≡ r.cfg) × (printed.dat.now ≡ r.dat) × (rest.now ≡ after)
Finds (next.Fault line) (Fault words after) = line.now ≡ codes "fault " ++ words
Finds next.End Nothing = ⊤
Finds n e = ⊥
