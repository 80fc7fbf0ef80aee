-- What the fields of a script's lines say, where they can be read.
use Rattle.std.specs.Prelude.{ℕ, ◌==◌, Bool, if◌then◌else◌, List, Option, is_some, Result, Ok, Err, ℤ, pos, negsuc}
use Rattle.std.specs.List.{list_all, list_any, filter_map}
use Rattle.dfr_channels.specs.LineFields.{need}
use Rattle.comtrade_values.specs.Spelling.{whole_number}
use Rattle.comtrade_values.specs.Fields.{up_to, within}
use Rattle.dfr_script.specs.declared.fault.LineFault.{LineFault}
use Rattle.dfr_script.specs.declared.fault.LineFault.TheVariants as fault

-- a whole number of 32 bits and a sign
unfoldable pub small : List ℕ → Option ℤ
small f = within (negsuc 2147483647) (pos 2147483647) (whole_number f)

-- a whole number of 32 bits
unfoldable pub natural : List ℕ → Option ℕ
natural f = up_to 4294967295 (whole_number f)

-- a whole number of 64 bits and a sign
unfoldable pub instant : List ℕ → Option ℤ
instant f = within (negsuc 9223372036854775807) (pos 9223372036854775807) (whole_number f)

-- one field, and what was read of it
abbrev pub single : {X : Type 0} → List ℕ → Option X → Result X LineFault
single rest read = if list_any (λ b. b == 44) rest then Err fault.Fields else need read fault.Number (λ x. Ok x)

-- each can be read
abbrev pub reads_all : {X : Type 0} → (List ℕ → Option X) → List (List ℕ) → Bool
reads_all read fs = list_all (λ f. is_some (read f)) fs

-- what each of them says
abbrev pub all_said : {X : Type 0} → (List ℕ → Option X) → List (List ℕ) → Result (List X) LineFault
all_said read fs = if reads_all read fs then Ok (filter_map read fs) else Err fault.Number
