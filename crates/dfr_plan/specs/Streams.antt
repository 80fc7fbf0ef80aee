-- The lines of streams: stream SVID, or stream APPID,MAC.
use Rattle.std.specs.Prelude.{ℕ, ◌+◌, ◌*◌, ◌==◌, ◌&&◌, Bool, false, nat_le, List, [], ◌∷◌, ◌++◌, length, slice_index, Option, Some, None, option_and_then, Result, Ok, Err, if◌then◌else◌}
use Rattle.std.specs.List.{list_any}
use Rattle.std.specs.Str.{bytes_eq}
use Rattle.comtrade_values.specs.Lines.{field}
use Rattle.dfr_channels.specs.LineFields.{need}
use Rattle.dfr_capture.specs.declared.plan.Key.{Key}
use Rattle.dfr_capture.specs.declared.plan.Key.TheVariants.{SvId, Source}
use Rattle.dfr_capture.specs.Plans.{part}
use Rattle.dfr_plan.specs.declared.fault.PlanFault.{PlanFault}
use Rattle.dfr_plan.specs.declared.fault.PlanFault.TheVariants as fault
use Rattle.dfr_plan.specs.Drafts.{DraftParts, span_after}
use Rattle.dfr_plan.specs.Numbers.{hex_pair, number}
use Rattle.dfr_plan.specs.Refusing.{and_then, needed, unless}

-- ---- addresses

-- byte n of an address
abbrev pub address_byte : List ℕ → ℕ → Option ℕ
address_byte text n = hex_pair (slice_index text (3 * n)) (slice_index text (3 * n + 1))

abbrev pub has_colons : List ℕ → Bool
has_colons text =
    (length text == 17) && (slice_index text 2 == 58) && (slice_index text 5 == 58) && (slice_index text 8 == 58)
    && (slice_index text 11 == 58) && (slice_index text 14 == 58)

abbrev pub six_bytes : List ℕ → Option (List ℕ)
six_bytes text =
    option_and_then (λ a. option_and_then (λ b. option_and_then (λ c. option_and_then (λ d. option_and_then (λ e. option_and_then (λ f.
    Some (a ∷ b ∷ c ∷ d ∷ e ∷ f ∷ []))
    (address_byte text 5)) (address_byte text 4)) (address_byte text 3)) (address_byte text 2)) (address_byte text 1)) (address_byte text 0)

-- six bytes in pairs of digits, between colons
abbrev pub address : List ℕ → Option (List ℕ)
address text = if has_colons text then six_bytes text else None

-- ---- streams

-- the stream has this svID, or is of this application and address
abbrev pub is_sv_id : (text name : List ℕ) → Key → Bool
is_sv_id text name (SvId span) = bytes_eq (part text span) name
is_sv_id text name (Source app span) = false

abbrev pub is_source : (text : List ℕ) (app : ℕ) (mac : List ℕ) → Key → Bool
is_source text app mac (SvId span) = false
is_source text app mac (Source other span) = (other == app) && bytes_eq (part text span) mac

abbrev pub sv_id_fault : DraftParts → List ℕ → Option PlanFault
sv_id_fault d name =
    if length name == 0 then Some fault.Name
    else if nat_le 256 (length d.streams) then Some fault.Streams
    else if list_any (is_sv_id d.text name) d.streams then Some fault.SameStream
    else None

abbrev pub source_fault : DraftParts → ℕ → List ℕ → Option PlanFault
source_fault d app mac =
    if nat_le 256 (length d.streams) then Some fault.Streams
    else if list_any (is_source d.text app mac) d.streams then Some fault.SameStream
    else None

-- with a name, and the stream of this key
abbrev pub with_key : DraftParts → (name : List ℕ) → Key → DraftParts
with_key d name key = record d { text = d.text ++ name; streams = d.streams ++ key ∷ [] }

-- the stream of the svID in the first field
abbrev pub with_sv_id : DraftParts → List (List ℕ) → Result DraftParts PlanFault
with_sv_id d fs = unless (sv_id_fault d (field fs 0)) (with_key d (field fs 0) (SvId (span_after d.text (field fs 0))))

abbrev pub app_id : List ℕ → Result ℕ PlanFault
app_id text = need (number text) fault.Number (λ n. if nat_le n 65535 then Ok n else Err fault.AppId)

abbrev pub of_source : DraftParts → ℕ → List ℕ → Result DraftParts PlanFault
of_source d app mac = unless (source_fault d app mac) (with_key d mac (Source app (span_after d.text mac)))

-- the stream of the application and the address in the first two
abbrev pub with_source : DraftParts → List (List ℕ) → Result DraftParts PlanFault
with_source d fs =
    and_then (app_id (field fs 0)) (λ app. and_then (needed (address (field fs 1)) fault.Address) (λ mac. of_source d app mac))

abbrev pub with_fields : DraftParts → List (List ℕ) → Result DraftParts PlanFault
with_fields d fs =
    if length fs == 1 then with_sv_id d fs
    else if length fs == 2 then with_source d fs
    else Err fault.Fields
