-- The numbers of a line of limits, and its choice.
use Rattle.std.specs.Prelude.{ℕ, Bool, true, false, ◌==◌, if◌then◌else◌, codes, List, length, Result, Ok, Err}
use Rattle.std.specs.Str.{bytes_eq}
use Rattle.comtrade_values.specs.Lines.{field, fields}
use Rattle.dfr_channels.specs.LineFields.{many, need}
use Rattle.dfr_script.specs.declared.fault.LineFault.{LineFault}
use Rattle.dfr_script.specs.declared.fault.LineFault.TheVariants as fault
use Rattle.dfr_script.specs.declared.limit_line.LimitNumbers.{LimitNumbers}
use Rattle.dfr_script.specs.Fields.{natural}

-- the first four fields, with this choice
abbrev pub numbers : Bool → List (List ℕ) → Result LimitNumbers LineFault
numbers unshared fs =
    need (natural (field fs 0)) fault.Number (λ pre.
    need (natural (field fs 1)) fault.Number (λ post.
    need (natural (field fs 2)) fault.Number (λ longest.
    need (natural (field fs 3)) fault.Number (λ shelf.
    Ok (record { pre = pre; post = post; longest = longest; shelf = shelf; unshared = unshared })))))

-- the fifth field is the word of the choice
abbrev pub chooses : List (List ℕ) → Bool
chooses fs = bytes_eq (field fs 4) (codes "unshared")

-- four fields, or five
abbrev pub limits_fields : List (List ℕ) → Result LimitNumbers LineFault
limits_fields fs =
    if length fs == 5 then (if chooses fs then numbers true fs else Err fault.Number)
    else many 4 fault.Fields fs (numbers false fs)

-- the rest of a line `limits`
abbrev pub limits_line : List ℕ → Result LimitNumbers LineFault
limits_line rest = limits_fields (fields rest)
