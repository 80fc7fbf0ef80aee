-- What the steps of the cutting find.
use Rattle.std.specs.Prelude.{◌≡◌, ℕ, Bool, ◌==◌, List}
use Rattle.comtrade_io.specs.declared.records.Printed.{Printed}
use Rattle.comtrade_io.specs.declared.records.Piece.{Piece}
use Rattle.comtrade_io.specs.declared.records.Piece.TheVariants as piece
use Rattle.comtrade_io.specs.Replayed.{line_feed, Taken, Ending, Finds}

abbrev pub is_feed : ℕ → Bool
is_feed b = b == line_feed

abbrev pub is_space : ℕ → Bool
is_space b = b == 32

-- the number and the bytes of a record
abbrev pub Holds : Printed → Taken → Type 0
Holds printed r = (printed.number ≡ r.number) × (printed.cfg.now ≡ r.cfg) × (printed.dat.now ≡ r.dat)

-- an answer, and what stands after it
abbrev pub Answers : Piece → List ℕ → Type 0
Answers (piece.Answer rest) after = rest.now ≡ after
Answers (piece.Last next) after = ⊥

-- what stands after the answers
abbrev pub Ends : Piece → Ending → Type 0
Ends (piece.Answer rest) ending = ⊥
Ends (piece.Last next) ending = Finds next ending
