-- A script as a whole: what it says, or its first fault by lines.
use Rattle.std.specs.Prelude.{◌≡◌, ℕ, ℤ, zero, suc, ◌+◌, ◌==◌, Bool, false, if◌then◌else◌, List, [], ◌∷◌, length, drop, slice_index_or, Option, Some, Result, Ok, Err, codes, pos}
use Rattle.std.specs.List.{position_or_len}
use Rattle.std.specs.Result.{result_err, result_unwrap_or}
use Rattle.std.specs.Str.{bytes_eq}
use Rattle.comtrade_values.specs.Fields.{zero_number}
use Rattle.dfr_script.specs.declared.fault.Word.{Word}
use Rattle.dfr_script.specs.declared.fault.Word.TheVariants as word
use Rattle.dfr_script.specs.declared.fault.LineFault.{LineFault}
use Rattle.dfr_script.specs.declared.fault.LineFault.TheVariants as line_fault
use Rattle.dfr_script.specs.declared.fault.LineRefusal.{LineRefusal}
use Rattle.dfr_script.specs.declared.fault.LineRefusal.TheVariants as line_refusal
use Rattle.dfr_script.specs.declared.fault.ScriptFault.{ScriptFault}
use Rattle.dfr_script.specs.declared.fault.ScriptRefusal.{ScriptRefusal}
use Rattle.dfr_script.specs.declared.fault.ScriptRefusal.TheVariants.{Fault, Memory}
use Rattle.dfr_channels.specs.LineFields.{and_then}
use Rattle.dfr_script.specs.Words as words
use Rattle.dfr_script.specs.Drafts.{empty, dated, with_line, whole}
use Rattle.dfr_script.specs.Commands.{with_command}
use Rattle.dfr_script.specs.Parts.{DraftParts, CommandParts, RecorderSetupParts, ScriptParts}

-- the refusal is out of memory, or names this fault
abbrev pub Tells : Option ScriptFault → ScriptRefusal → Type 0
Tells fault (Fault f) = fault ≡ Some f
Tells fault Memory = Unit {0}

-- the fault of the line at place i, from 0
abbrev pub fault_at : ℕ → Word → ScriptFault
fault_at i w = record { line = i + 1; word = w }

-- what is said at place i, or its fault with the line's number
abbrev pub word_at : {X : Type 0} → ℕ → Result X Word → Result X ScriptFault
word_at i (Ok x) = Ok x
word_at i (Err w) = Err (fault_at i w)

abbrev pub word_of : LineFault → Word
word_of line_fault.Word = word.Word
word_of line_fault.Fields = word.Fields
word_of line_fault.Number = word.Number

-- what the line at place i says, or its fault with its number
abbrev pub at_place : {X : Type 0} → ℕ → Result X LineFault → Result X ScriptFault
at_place i (Ok x) = Ok x
at_place i (Err f) = Err (fault_at i (word_of f))

-- the refusal of the line at place i
abbrev pub refused_at : ℕ → LineRefusal → ScriptRefusal
refused_at i (line_refusal.Fault f) = Fault (fault_at i (word_of f))
refused_at i line_refusal.Memory = Memory

-- a refusal that names a fault names the one that was said; another is out of memory
abbrev pub Refuses : {Y : Type 0} → Result Y ScriptFault → ScriptRefusal → Type 0
Refuses said e = (f : ScriptFault) → e ≡ Fault f → said ≡ Err f

-- what was said, seen by view: the value, the fault, or out of memory
abbrev pub Is : {X Y : Type 0} → (X → Y) → Result Y ScriptFault → Result X ScriptRefusal → Type 0
Is view said (Ok x) = said ≡ Ok (view x)
Is view said (Err e) = Refuses said e

abbrev pub line : List (List ℕ) → ℕ → List ℕ
line ls i = slice_index_or ls i []

unfoldable pub is_go : List ℕ → Bool
is_go line = bytes_eq (words.word line) (codes "go")

-- the first draft with the first n lines
unfoldable pub draft : DraftParts → List (List ℕ) → ℕ → Result DraftParts ScriptFault
draft first ls zero = Ok first
draft first ls (suc n) = and_then (draft first ls n) (λ d. at_place n (with_line d (line ls n)))

-- the commands of the first n of these lines, which stand from this place on
unfoldable pub commands : ℕ → List (List ℕ) → ℕ → Result (List CommandParts) ScriptFault
commands from ls zero = Ok []
commands from ls (suc n) =
    and_then (commands from ls n) (λ cs. at_place (from + n) (with_command cs (from + n + 1) (line ls n)))

-- `go` has no rest, and each line that a set-up needs stands above it
unfoldable pub go : DraftParts → List ℕ → Result RecorderSetupParts Word
go d line = if length (words.rest line) == 0 then whole d else Err word.Word

-- these commands after this set-up
abbrev pub script_of : RecorderSetupParts → List CommandParts → ScriptParts
script_of s cs = record { setup = s.setup; limits = s.limits; rules = s.rules; commands = cs }

-- the lines from `go` on, which stands at this place: `go`, and those after it; a missing `go` is missed after the last line
abbrev pub from_go : ℕ → DraftParts → List (List ℕ) → Result ScriptParts ScriptFault
from_go at d [] = Err (fault_at at word.Setup)
from_go at d (line ∷ behind) =
    and_then (word_at at (go d line)) (λ set_up.
    and_then (commands (at + 1) behind (length behind)) (λ cs.
    Ok (script_of set_up cs)))

-- what the lines say, or their first fault: those before the first `go`, and those from it on
unfoldable pub script : List (List ℕ) → Result ScriptParts ScriptFault
script ls =
    let at = position_or_len is_go ls in
    and_then (draft empty ls at) (λ d. from_go at d (drop at ls))

-- a set-up ends with its last line, or at `go`, and nothing after that is read
abbrev pub set_up_end : ℕ → DraftParts → List (List ℕ) → Result RecorderSetupParts ScriptFault
set_up_end at d [] = word_at at (whole d)
set_up_end at d (line ∷ behind) = word_at at (go d line)

-- the set-up with this start that the lines say, or their first fault
unfoldable pub set_up : ℤ → List (List ℕ) → Result RecorderSetupParts ScriptFault
set_up start ls =
    let at = position_or_len is_go ls in
    and_then (draft (dated start) ls at) (λ d. set_up_end at d (drop at ls))

-- the first fault of a script's lines
unfoldable pub script_fault : List (List ℕ) → Option ScriptFault
script_fault ls = result_err (script ls)

abbrev pub nothing : ScriptParts
nothing = record {
  setup = record { station = []; device = []; analog = []; status = []; line_freq = zero_number; rate = 0; start = pos 0 };
  limits = record { pre = 0; post = 0; longest = 0; shelf = 0; unshared = false };
  rules = [];
  commands = [];
}

-- what the lines say, where they have no fault
unfoldable pub script_value : List (List ℕ) → ScriptParts
script_value ls = result_unwrap_or (script ls) nothing
