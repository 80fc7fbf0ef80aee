-- The plan in the lines of a set-up below the first line `go`, or why it is refused.
use Rattle.std.specs.Prelude.{◌≡◌, ◌⊎◌, ℕ, ◌+◌, ◌==◌, Bool, true, false, nat_lt, if◌then◌else◌, List, [], ◌∷◌, length, Option, Some, None, Result, Ok, Err, codes}
use Rattle.comtrade_values.specs.Lines.{cut_lines, fields}
use Rattle.dfr_channels.specs.Parts.{SetupParts}
use Rattle.dfr_bay.specs.declared.settings.Settings.{Settings}
use Rattle.dfr_bay.specs.declared.settings.SettingsFault.{SettingsFault}
use Rattle.dfr_bay.specs.Settings.{settings_fault}
use Rattle.dfr_capture.specs.declared.plan.Dating.{Dating}
use Rattle.dfr_capture.specs.Plans.{PlanParts}
use Rattle.dfr_plan.specs.declared.fault.PlanFault.{PlanFault}
use Rattle.dfr_plan.specs.declared.fault.PlanFault.TheVariants as fault
use Rattle.dfr_plan.specs.declared.fault.LineRefusal.{LineRefusal}
use Rattle.dfr_plan.specs.declared.fault.LineRefusal.TheVariants.{Fault, Memory}
use Rattle.dfr_plan.specs.declared.fault.PlanRefusal.{PlanRefusal}
use Rattle.dfr_plan.specs.declared.fault.PlanRefusal.TheVariants as refusal
use Rattle.dfr_plan.specs.Contacts as contacts
use Rattle.dfr_plan.specs.Drafts.{DraftParts, empty}
use Rattle.dfr_plan.specs.Refusing.{and_then}
use Rattle.dfr_plan.specs.Settings.{with_follow, with_clock, settings_in, dating_in}
use Rattle.dfr_plan.specs.Streams as streams
use Rattle.dfr_plan.specs.Values as values
use Rattle.dfr_plan.specs.Words.{begins, rest, is_go, is_silent}

-- ---- lines

-- what stands between the commas after the first word
abbrev pub line_fields : List ℕ → List (List ℕ)
line_fields line = fields (rest line)

-- with this line, whose fields these are
unfoldable pub with_fields : SetupParts → DraftParts → List ℕ → List (List ℕ) → Result DraftParts PlanFault
with_fields s d line fs =
    if begins (codes "stream") line then streams.with_fields d fs
    else if begins (codes "value") line then values.with_fields s d fs
    else if begins (codes "goose") line then contacts.with_goose d fs
    else if begins (codes "contact") line then contacts.with_fields s d fs
    else if begins (codes "follow") line then with_follow s d fs
    else if begins (codes "clock") line then with_clock d fs
    else Err fault.Word

abbrev pub with_line : SetupParts → DraftParts → List ℕ → Result DraftParts PlanFault
with_line s d line = if is_silent line then Ok d else with_fields s d line (line_fields line)

abbrev pub at_line : {A : Type 0} → ℕ → Result A PlanFault → Result A (ℕ × PlanFault)
at_line n (Ok x) = Ok x
at_line n (Err f) = Err (n, f)

-- with lines below `go`, of which the first is line n, or the first fault and its line
abbrev pub with_lines : SetupParts → ℕ → DraftParts → List (List ℕ) → Result DraftParts (ℕ × PlanFault)
with_lines s n d [] = Ok d
with_lines s n d (line ∷ lines) = and_then (at_line n (with_line s d line)) (λ more. with_lines s (n + 1) more lines)

-- the same of lines of a set-up, of which those below the first line `go` count
abbrev pub below_go : SetupParts → ℕ → DraftParts → List (List ℕ) → Result DraftParts (ℕ × PlanFault)
below_go s n d [] = Ok d
below_go s n d (line ∷ lines) = if is_go line then with_lines s (n + 1) d lines else below_go s (n + 1) d lines

-- whichever it is
abbrev pub from_line : SetupParts → (is_below : Bool) → ℕ → DraftParts → List (List ℕ) → Result DraftParts (ℕ × PlanFault)
from_line s true n d lines = with_lines s n d lines
from_line s false n d lines = below_go s n d lines

abbrev pub said : SetupParts → List ℕ → Result DraftParts (ℕ × PlanFault)
said s text = below_go s 1 empty (cut_lines text)

-- ---- the plan

abbrev pub parts_with : Settings → Dating → DraftParts → PlanParts
parts_with settings dating d = record {
  text = d.text;
  settings = settings;
  dating = dating;
  streams = d.streams;
  channels = d.channels;
  blocks = d.blocks;
  contacts = d.contacts;
}

abbrev pub parts : SetupParts → DraftParts → PlanParts
parts s d = parts_with (settings_in s.rate d) (dating_in d) d

abbrev pub rated : SetupParts → DraftParts → Option SettingsFault → Result PlanParts PlanRefusal
rated s d None = Ok (parts s d)
rated s d (Some f) = Err (refusal.Rate f)

abbrev pub missing : SetupParts → DraftParts → Option PlanRefusal
missing s d =
    if nat_lt (length d.channels) (length s.analog) then Some refusal.FewValues
    else if nat_lt (length d.contacts) (length s.status) then Some refusal.FewContacts
    else None

abbrev pub counted : SetupParts → DraftParts → Option PlanRefusal → Result PlanParts PlanRefusal
counted s d None = rated s d (settings_fault (settings_in s.rate d))
counted s d (Some e) = Err e

-- with a stream at least, and a line for each channel of the set-up
abbrev pub finished : SetupParts → DraftParts → Result PlanParts PlanRefusal
finished s d = if length d.streams == 0 then Err refusal.NoStream else counted s d (missing s d)

abbrev pub of_lines : SetupParts → Result DraftParts (ℕ × PlanFault) → Result PlanParts PlanRefusal
of_lines s (Err f) = Err (refusal.Line f.0 f.1)
of_lines s (Ok d) = finished s d

-- the plan in a text, over the channels of a set-up
abbrev pub planned : SetupParts → List ℕ → Result PlanParts PlanRefusal
planned s text = of_lines s (said s text)

abbrev pub refusal_at : ℕ → LineRefusal → PlanRefusal
refusal_at n (Fault f) = refusal.Line n f
refusal_at n Memory = refusal.Memory

-- that plan or refusal, or out of memory
abbrev pub Gives : Result PlanParts PlanRefusal → Result PlanParts PlanRefusal → Type 0
Gives said (Ok p) = said ≡ Ok p
Gives said (Err e) = (e ≡ refusal.Memory) ⊎ (said ≡ Err e)
