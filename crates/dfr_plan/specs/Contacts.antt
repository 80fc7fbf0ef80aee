-- The lines of control blocks and of contacts: goose GOCBREF, with stays or normal after it, and contact ID,BLOCK,ELEMENT.
use Rattle.std.specs.Prelude.{ℕ, ◌==◌, ◌&&◌, Bool, nat_le, List, ◌∷◌, [], ◌++◌, length, slice_get, Option, Some, None, Result, Ok, Err, if◌then◌else◌, codes}
use Rattle.std.specs.List.{list_any}
use Rattle.std.specs.Str.{bytes_eq}
use Rattle.comtrade_values.specs.Lines.{field}
use Rattle.dfr_channels.specs.Parts.{SetupParts, StatusParts}
use Rattle.dfr_capture.specs.declared.plan.Block.{Block}
use Rattle.dfr_capture.specs.declared.plan.Contact as contact
use Rattle.dfr_capture.specs.declared.plan.Doubt as doubt
use Rattle.dfr_capture.specs.declared.plan.Doubt.TheVariants.{Stays, Normal}
use Rattle.dfr_capture.specs.Plans.{part}
use Rattle.dfr_plan.specs.declared.fault.PlanFault.{PlanFault}
use Rattle.dfr_plan.specs.declared.fault.PlanFault.TheVariants as fault
use Rattle.dfr_plan.specs.Drafts.{DraftParts, span_after}
use Rattle.dfr_plan.specs.Refusing.{and_then, unless}
use Rattle.dfr_plan.specs.Values.{numbered, up_to}

-- ---- control blocks

abbrev pub is_block : (text name : List ℕ) → Block → Bool
is_block text name b = bytes_eq (part text b.name) name

abbrev pub block_fault : DraftParts → List ℕ → Option PlanFault
block_fault d name =
    if length name == 0 then Some fault.Name
    else if list_any (is_block d.text name) d.blocks then Some fault.SameBlock
    else None

-- contacts in doubt stay, if the line says nothing of them
abbrev pub doubt_in : List (List ℕ) → Result doubt.Doubt PlanFault
doubt_in fs =
    if length fs == 1 then Ok Stays
    else if bytes_eq (field fs 1) (codes "stays") then Ok Stays
    else if bytes_eq (field fs 1) (codes "normal") then Ok Normal
    else Err fault.Doubt

abbrev pub with_block : DraftParts → (name : List ℕ) → doubt.Doubt → DraftParts
with_block d name doubt =
    record d { text = d.text ++ name; blocks = d.blocks ++ record { name = span_after d.text name; doubt = doubt } ∷ [] }

abbrev pub with_goose : DraftParts → List (List ℕ) → Result DraftParts PlanFault
with_goose d fs =
    if nat_le 1 (length fs) && nat_le (length fs) 2 then
    and_then (doubt_in fs) (λ doubt.
    unless (block_fault d (field fs 0)) (with_block d (field fs 0) doubt))
    else Err fault.Fields

-- ---- contacts

abbrev pub is_named : List ℕ → StatusParts → Bool
is_named name c = bytes_eq c.id name

-- the normal state of the next status channel, if it has this name, or why not
abbrev pub next_normal : List StatusParts → List ℕ → Option StatusParts → Result Bool PlanFault
next_normal channels name None = Err fault.ManyContacts
next_normal channels name (Some c) =
    if is_named name c then Ok c.normal
    else if list_any (is_named name) channels then Err fault.ContactOrder
    else Err fault.Contact

abbrev pub contact_of : (blocks : ℕ) → List (List ℕ) → (normal : Bool) → Result contact.Contact PlanFault
contact_of blocks fs normal =
    and_then (numbered blocks fault.Block (field fs 1)) (λ block.
    and_then (up_to 1023 fault.Element (field fs 2)) (λ element.
    Ok (record { block = block; element = element; normal = normal })))

abbrev pub with_contact : DraftParts → contact.Contact → DraftParts
with_contact d c = record d { contacts = d.contacts ++ c ∷ [] }

abbrev pub with_fields : SetupParts → DraftParts → List (List ℕ) → Result DraftParts PlanFault
with_fields s d fs =
    if length fs == 3 then
    and_then (next_normal s.status (field fs 0) (slice_get s.status (length d.contacts))) (λ normal.
    and_then (contact_of (length d.blocks) fs normal) (λ made. Ok (with_contact d made)))
    else Err fault.Fields
