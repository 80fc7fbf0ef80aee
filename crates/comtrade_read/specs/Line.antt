-- What the fields of a line say, and what the lines of a file say, or their first fault.
use Rattle.std.specs.Prelude.{ℕ, ◌+◌, zero, suc, List, [], ◌∷◌, ◌++◌, Option, Result, Ok, Err}
use Rattle.comtrade_values.specs.Lines.{field}
use Rattle.dfr_channels.specs.LineFields.{many, need}
use Rattle.comtrade_read.specs.declared.fault.ReadFault.{ReadFault}
use Rattle.comtrade_read.specs.declared.fault.ReadFault.TheVariants as faults

-- the fault of a line, by the line's number
abbrev pub Fault : Type 0
Fault = ℕ → ReadFault

-- field i, counted from 1, can't be read
abbrev pub number : ℕ → Fault
number i line = faults.Number line i

-- so many fields, from field i on, and what follows from what they say
abbrev pub need_each : {A B : Type 0} → (List ℕ → Option A) → ℕ → ℕ → List A → List (List ℕ) → (List A → Result B Fault) → Result B Fault
need_each read i zero before fs more = more before
need_each read i (suc n) before fs more = need (read (field fs i)) (number (i + 1)) (λ x. need_each read (i + 1) n (before ++ x ∷ []) fs more)

-- what follows from what is said
abbrev pub follow : {A B F : Type 0} → Result A F → (A → Result B F) → Result B F
follow (Ok x) more = more x
follow (Err e) more = Err e

-- a line of one field
abbrev pub one : {A : Type 0} → (List ℕ → Option A) → Fault → List (List ℕ) → Result A Fault
one read fault fs = many 1 faults.Fields fs (need (read (field fs 0)) fault (λ x. Ok x))

-- the fault of this line
abbrev pub told : {A : Type 0} → ℕ → Result A Fault → Result A ReadFault
told line (Ok x) = Ok x
told line (Err fault) = Err (fault line)

-- what is left of a file: its lines from one of this number on, each by its fields
pub record Left : Type 0 where
  pub line : ℕ
  pub lines : List (List (List ℕ))

abbrev pub from_first : List (List (List ℕ)) → Left
from_first ls = record { line = 1; lines = ls }

-- the next line, and what is left after it
pub record Taken : Type 0 where
  pub line : ℕ
  pub fields : List (List ℕ)
  pub left : Left

abbrev pub first_of : ℕ → List (List (List ℕ)) → Result Taken ReadFault
first_of line [] = Err (faults.Missing line)
first_of line (fs ∷ ls) = Ok (record { line = line; fields = fs; left = record { line = line + 1; lines = ls } })

unfoldable pub taken : Left → Result Taken ReadFault
taken left = first_of left.line left.lines

-- what the next line says, which is of this kind, and what is left after it
unfoldable pub next : {A : Type 0} → (List (List ℕ) → Result A Fault) → Left → Result (A × Left) ReadFault
next says left = follow (taken left) (λ t. follow (told t.line (says t.fields)) (λ x. Ok (x, t.left)))

-- so many lines more, each of the kind that follows from what those before it said
unfoldable pub each : {A : Type 0} → (List A → List (List ℕ) → Result A Fault) → ℕ → List A → Left → Result (List A × Left) ReadFault
each says zero before left = Ok (before, left)
each says (suc n) before left = follow (next (says before) left) (λ p. each says n (before ++ p.0 ∷ []) p.1)

abbrev pub none_of : ℕ → List (List (List ℕ)) → Result (Unit {0}) ReadFault
none_of line [] = Ok tt
none_of line (fs ∷ ls) = Err (faults.Extra line)

-- no line more
unfoldable pub end : Left → Result (Unit {0}) ReadFault
end left = none_of left.line left.lines
