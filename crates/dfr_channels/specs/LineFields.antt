-- What the fields of a line say, read from the left, or the line's first fault, of a type F of faults.
use Rattle.std.specs.Prelude.{ℕ, ◌+◌, Bool, false, ◌||◌, ◌==◌, if◌then◌else◌, List, [], ◌∷◌, length, Option, Some, None, ℤ, Result, Ok, Err}
use Rattle.comtrade_values.specs.Spelling.{decimal_number}
use Rattle.comtrade_values.specs.Lines.{field}
use Rattle.comtrade_values.specs.Fields.{free_scale, free_bit}
use Rattle.dfr_channels.specs.Parts.{AnalogParts, StatusParts}
use Rattle.dfr_channels.specs.declared.channel.Side.{Side}
use Rattle.dfr_channels.specs.declared.channel.Side.TheVariants.{Primary, Secondary}

-- this letter alone, in upper or lower case
abbrev pub is_letter : ℕ → List ℕ → Bool
is_letter letter [] = false
is_letter letter (b ∷ []) = (b == letter) || (b == letter + 32)
is_letter letter (b ∷ c ∷ bs) = false

-- P or S: the side of the values
unfoldable pub side : List ℕ → Option Side
side f = if is_letter 80 f then Some Primary else if is_letter 83 f then Some Secondary else None

-- fields that are so many
abbrev pub many : {A F : Type 0} → ℕ → F → List (List ℕ) → Result A F → Result A F
many n fault fs says = if length fs == n then says else Err fault

-- a field that can be read, and what follows from what it says
abbrev pub need : {A B F : Type 0} → Option A → F → (A → Result B F) → Result B F
need None fault more = Err fault
need (Some x) fault more = more x

-- what is said, and what follows from it
abbrev pub and_then : {A B F : Type 0} → Result A F → (A → Result B F) → Result B F
and_then (Err fault) more = Err fault
and_then (Ok x) more = more x

-- an analogue channel (C37.111-1999, 5.3.3), whose id is field i, from 0; bad n is the fault of field n, from 1, and bound reads min and max
unfoldable pub analog_from : {F : Type 0} → ℕ → (ℕ → F) → (List ℕ → Option ℤ) → List (List ℕ) → Result AnalogParts F
analog_from i bad bound fs =
    need (decimal_number (field fs (i + 4))) (bad (i + 5)) (λ a.
    need (free_scale (field fs (i + 5))) (bad (i + 6)) (λ b.
    need (free_scale (field fs (i + 6))) (bad (i + 7)) (λ skew.
    need (bound (field fs (i + 7))) (bad (i + 8)) (λ min.
    need (bound (field fs (i + 8))) (bad (i + 9)) (λ max.
    need (free_scale (field fs (i + 9))) (bad (i + 10)) (λ primary.
    need (free_scale (field fs (i + 10))) (bad (i + 11)) (λ secondary.
    need (side (field fs (i + 11))) (bad (i + 12)) (λ side.
    Ok (record {
      id = field fs i;
      phase = field fs (i + 1);
      component = field fs (i + 2);
      unit = field fs (i + 3);
      a = a;
      b = b;
      skew = skew;
      min = min;
      max = max;
      primary = primary;
      secondary = secondary;
      side = side;
    })))))))))

-- a status channel (5.3.4), whose id is field i, from 0
unfoldable pub status_from : {F : Type 0} → ℕ → (ℕ → F) → List (List ℕ) → Result StatusParts F
status_from i bad fs =
    need (free_bit (field fs (i + 3))) (bad (i + 4)) (λ normal.
    Ok (record { id = field fs i; phase = field fs (i + 1); component = field fs (i + 2); normal = normal }))
