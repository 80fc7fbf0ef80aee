-- The recorder and the detectors of a set-up file, or why the file is refused.
use Rattle.std.specs.Prelude.{◌≡◌, ◌⊎◌, ℕ, ℤ, if◌then◌else◌, List, [], ◌∷◌, ◌++◌, ◌==◌, map, Option, Some, None, option_map, Result, Ok, Err}
use Rattle.std.specs.List.{All, slice_split}
use Rattle.comtrade_values.specs.Faults.{◌or◌}
use Rattle.comtrade_values.specs.Lines.{lines, cut_lines}
use Rattle.dfr_channels.specs.Parts.{SetupParts}
use Rattle.dfr_channels.specs.Setups.{setup_fault}
use Rattle.dfr_detect.specs.Detection.{all_detected}
use Rattle.dfr_detect.specs.Lost.{Works}
use Rattle.dfr_script.specs.Parts.{RecorderSetupParts}
use Rattle.dfr_script.specs.Recorders.{set_up_fault, IsMadeOf}
use Rattle.dfr_script.specs.Scripts.{set_up}
use Rattle.dfr_script.specs.declared.fault.Word.{Word}
use Rattle.dfr_script.specs.declared.fault.Word.TheVariants as word
use Rattle.dfr_script.specs.declared.fault.ScriptFault.{ScriptFault}
use Rattle.dfr_script.specs.declared.fault.ScriptRefusal.{ScriptRefusal}
use Rattle.dfr_script.specs.declared.fault.ScriptRefusal.TheVariants as script
use Rattle.dfr_script.specs.declared.recorder.RecorderFault.{RecorderFault}
use Rattle.dfr_script.specs.declared.recorder.RecorderFault.TheVariants as recorder
use Rattle.dfr_setup.specs.Plans.{PlanParts, wanted_of, with_lines, with_channels}
use Rattle.dfr_setup.specs.Wishes.{is_detect}
use Rattle.dfr_setup.specs.declared.fault.DetectorFault.{DetectorFault}
use Rattle.dfr_setup.specs.declared.prepared.Prepared.{Prepared}
use Rattle.dfr_setup.specs.declared.refusal.SetupRefusal.{SetupRefusal}
use Rattle.dfr_setup.specs.declared.refusal.SetupRefusal.TheVariants as refusal

-- ---- the other lines

-- a line with its end; one that asks for detectors is a comment
abbrev pub plain_line : List ℕ → List ℕ
plain_line line = (if is_detect line then 35 ∷ line else line) ++ 10 ∷ []

abbrev pub plain_lines : List (List ℕ) → List ℕ
plain_lines [] = []
plain_lines (line ∷ lines) = plain_line line ++ plain_lines lines

-- a text whose lines `detect` are comments
abbrev pub plain : List ℕ → List ℕ
plain text = plain_lines (slice_split (λ b. b == 10) text)

-- ---- refusals

-- the fault of line n; the line of a missing line isn't said
abbrev pub of_word : Word → ℕ → SetupRefusal
of_word word.Word n = refusal.Word n
of_word word.Fields n = refusal.Fields n
of_word word.Number n = refusal.Number n
of_word word.Setup n = refusal.Missing

abbrev pub of_line : ScriptFault → SetupRefusal
of_line f = of_word f.word f.line

abbrev pub of_script : ScriptRefusal → SetupRefusal
of_script (script.Fault f) = of_line f
of_script script.Memory = refusal.Memory

abbrev pub of_fault : RecorderFault → SetupRefusal
of_fault (recorder.Setup f) = refusal.Setup f
of_fault (recorder.Limits f) = refusal.Limits f
of_fault (recorder.Rules f) = refusal.Rules f

-- out of memory, or this fault
abbrev pub Refuses : Option SetupRefusal → SetupRefusal → Type 0
Refuses fault e = (e ≡ refusal.Memory) ⊎ (fault ≡ Some e)

-- of a recorder
abbrev pub recorder_fault : RecorderSetupParts → Option SetupRefusal
recorder_fault s = option_map of_fault (set_up_fault s)

-- of the channels of the input
abbrev pub inputs_fault : SetupParts → Option SetupRefusal
inputs_fault s = option_map refusal.Setup (setup_fault s)

-- ---- a set-up

-- a recorder's set-up with the status channels of these detectors behind the contacts
abbrev pub with_plans : RecorderSetupParts → List PlanParts → RecorderSetupParts
with_plans s plans = record s { setup = with_channels s.setup plans }

-- what the lines say of detectors
abbrev pub Said : Type 0
Said = Result (List PlanParts) (ℕ × DetectorFault)

abbrev pub lines_fault : Said → Option SetupRefusal
lines_fault (Err f) = Some (refusal.Detector f.0 f.1)
lines_fault (Ok plans) = None

-- the first fault of what lines say of detectors, or else of the set-up with their channels
abbrev pub detectors_fault : RecorderSetupParts → Said → Option SetupRefusal
detectors_fault s (Err f) = Some (refusal.Detector f.0 f.1)
detectors_fault s (Ok plans) = recorder_fault (with_plans s plans)

-- the first fault of a set-up: of the channels of the input, of the detectors, of the limits, of the rules
abbrev pub fault_of : RecorderSetupParts → Said → Option SetupRefusal
fault_of s said = inputs_fault s.setup or detectors_fault s said

-- a recorder of all channels, the channels of the input, and the detectors, which have seen no scan
pub record IsPrepared {A : Type 0} (s : RecorderSetupParts) (made : List PlanParts) (p : Prepared A) : Type 0 where
  pub recorder : IsMadeOf (with_plans s made) p.recorder
  pub inputs : p.inputs ≡ s.setup
  pub plans : p.plans.items ≡ made
  pub detectors : p.detectors ≡ all_detected (map wanted_of made) []
  pub works : All Works (map wanted_of made)

abbrev pub IsPreparedOf : {A : Type 0} → RecorderSetupParts → Said → Prepared A → Type 0
IsPreparedOf s (Err f) p = ⊥
IsPreparedOf s (Ok plans) p = IsPrepared s plans p

-- what the lines of a text say of detectors, over a set-up
abbrev pub said_of : RecorderSetupParts → List ℕ → Said
said_of s text = with_lines s.setup 1 [] (cut_lines text)

-- the first fault of a file: that of a line of another kind, or else of the set-up
abbrev pub fault_in : Result RecorderSetupParts ScriptFault → List ℕ → Option SetupRefusal
fault_in (Err f) text = Some (of_line f)
fault_in (Ok s) text = fault_of s (said_of s text)

abbrev pub file_fault : ℤ → List ℕ → Option SetupRefusal
file_fault start text = fault_in (set_up start (lines (plain text))) text

abbrev pub IsIn : {A : Type 0} → Result RecorderSetupParts ScriptFault → List ℕ → Prepared A → Type 0
IsIn (Err f) text p = ⊥
IsIn (Ok s) text p = IsPreparedOf s (said_of s text) p

-- what a file asks for, with this start
abbrev pub IsOf : {A : Type 0} → ℤ → List ℕ → Prepared A → Type 0
IsOf start text p = IsIn (set_up start (lines (plain text))) text p
