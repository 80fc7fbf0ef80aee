-- The channels that lines of a set-up say.
use Rattle.std.specs.Prelude.{ℕ, List, Result}
use Rattle.comtrade_values.specs.Lines.{fields}
use Rattle.dfr_channels.specs.LineFields.{many, analog_from, status_from}
use Rattle.dfr_channels.specs.Parts.{AnalogParts, StatusParts}
use Rattle.dfr_script.specs.declared.fault.LineFault.{LineFault}
use Rattle.dfr_script.specs.declared.fault.LineFault.TheVariants as fault
use Rattle.dfr_script.specs.Fields.{small}

-- the fields of a line `analog`
abbrev pub analog_fields : List (List ℕ) → Result AnalogParts LineFault
analog_fields fs = many 12 fault.Fields fs (analog_from 0 (λ n. fault.Number) small fs)

-- the fields of a line `status`
abbrev pub status_fields : List (List ℕ) → Result StatusParts LineFault
status_fields fs = many 4 fault.Fields fs (status_from 0 (λ n. fault.Number) fs)

-- the rest of a line `analog`
abbrev pub analog_line : List ℕ → Result AnalogParts LineFault
analog_line rest = analog_fields (fields rest)

-- the rest of a line `status`
abbrev pub status_line : List ℕ → Result StatusParts LineFault
status_line rest = status_fields (fields rest)
