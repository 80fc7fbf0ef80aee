-- The lines of analogue channels: value ID,STREAM,VALUE,DIVISOR,MASK, and clip after them where a value out of range is clipped.
use Rattle.std.specs.Prelude.{ℕ, ◌-◌, ◌==◌, Bool, ◌&&◌, ◌||◌, nat_le, List, ◌∷◌, [], ◌++◌, length, slice_get, Option, Some, None, Result, Ok, Err, if◌then◌else◌, codes}
use Rattle.std.specs.List.{list_any}
use Rattle.std.specs.Str.{bytes_eq}
use Rattle.comtrade_values.specs.Lines.{field}
use Rattle.dfr_channels.specs.LineFields.{need}
use Rattle.dfr_channels.specs.Parts.{AnalogParts, SetupParts}
use Rattle.dfr_bay.specs.declared.channel.Channel.{Channel}
use Rattle.dfr_bay.specs.declared.channel.OutOfRange.{OutOfRange}
use Rattle.dfr_bay.specs.declared.channel.OutOfRange.TheVariants.{Lost, Clipped}
use Rattle.dfr_plan.specs.declared.fault.PlanFault.{PlanFault}
use Rattle.dfr_plan.specs.declared.fault.PlanFault.TheVariants as fault
use Rattle.dfr_plan.specs.Drafts.{DraftParts}
use Rattle.dfr_plan.specs.Numbers.{number}
use Rattle.dfr_plan.specs.Refusing.{and_then, unless}

-- a channel has this name
abbrev pub is_named : List ℕ → AnalogParts → Bool
is_named name c = bytes_eq c.id name

-- why the next channel, if there is one, doesn't have this name
abbrev pub next_fault : List AnalogParts → List ℕ → Option AnalogParts → Option PlanFault
next_fault channels name None = Some fault.ManyValues
next_fault channels name (Some c) =
    if is_named name c then None
    else if list_any (is_named name) channels then Some fault.ChannelOrder
    else Some fault.Channel

abbrev pub name_fault : List AnalogParts → (n : ℕ) → List ℕ → Option PlanFault
name_fault channels n name = next_fault channels name (slice_get channels n)

-- a number from 1 to so many, from 0
abbrev pub numbered : (many : ℕ) → PlanFault → List ℕ → Result ℕ PlanFault
numbered many beyond text =
    need (number text) fault.Number (λ n. if nat_le 1 n && nat_le n many then Ok (n - 1) else Err beyond)

-- a number up to a limit
abbrev pub up_to : (most : ℕ) → PlanFault → List ℕ → Result ℕ PlanFault
up_to most beyond text = need (number text) fault.Number (λ n. if nat_le n most then Ok n else Err beyond)

abbrev pub divisor : List ℕ → Result ℕ PlanFault
divisor text = need (number text) fault.Number (λ n. if n == 0 then Err fault.Divisor else Ok n)

abbrev pub clip : List (List ℕ) → Result OutOfRange PlanFault
clip fs =
    if length fs == 5 then Ok Lost
    else if bytes_eq (field fs 5) (codes "clip") then Ok Clipped
    else Err fault.Clip

-- a channel of these fields, where there are so many streams
abbrev pub channel : (streams : ℕ) → List (List ℕ) → Result Channel PlanFault
channel streams fs =
    and_then (numbered streams fault.Stream (field fs 1)) (λ stream.
    and_then (up_to 255 fault.Value (field fs 2)) (λ index.
    and_then (divisor (field fs 3)) (λ units.
    need (number (field fs 4)) fault.Number (λ mask.
    and_then (clip fs) (λ range.
    Ok (record { stream = stream; index = index; mask = mask; divisor = units; out_of_range = range }))))))

abbrev pub with_channel : DraftParts → Channel → DraftParts
with_channel d c = record d { channels = d.channels ++ c ∷ [] }

abbrev pub is_many : List (List ℕ) → Bool
is_many fs = (length fs == 5) || (length fs == 6)

abbrev pub with_fields : SetupParts → DraftParts → List (List ℕ) → Result DraftParts PlanFault
with_fields s d fs =
    if is_many fs then
    and_then (unless (name_fault s.analog (length d.channels) (field fs 0)) d) (λ named.
    and_then (channel (length d.streams) fs) (λ c. Ok (with_channel d c)))
    else Err fault.Fields
