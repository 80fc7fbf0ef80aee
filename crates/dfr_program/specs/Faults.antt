-- What is wrong with a script or with the set-up that it says.
use Rattle.std.specs.Prelude.{◌≡◌, ℕ, List, Option, Some, option_map}
use Rattle.comtrade_values.specs.Faults.{◌or◌}
use Rattle.comtrade_values.specs.Lines.{lines}
use Rattle.dfr_recorder.specs.Kept.{Kept}
use Rattle.dfr_script.specs.Parts.{ScriptParts, set_up_in}
use Rattle.dfr_script.specs.Recorders as recorders
use Rattle.dfr_script.specs.Scripts as scripts
use Rattle.dfr_program.specs.declared.prepared.Fault.{Fault}
use Rattle.dfr_program.specs.declared.prepared.Fault.TheVariants as faults
use Rattle.dfr_program.specs.declared.prepared.Refusal.{Refusal}
use Rattle.dfr_program.specs.declared.prepared.Refusal.TheVariants as refusal

-- of the set-up that a script says
abbrev pub set_up_fault : ScriptParts → Option Fault
set_up_fault s = option_map faults.Recorder (recorders.set_up_fault (set_up_in s))

-- the script that a text says
abbrev pub script_in : List ℕ → ScriptParts
script_in text = scripts.script_value (lines text)

-- of a script's lines, and then of its set-up
unfoldable pub script_fault : List ℕ → Option Fault
script_fault text = option_map faults.Script (scripts.script_fault (lines text)) or set_up_fault (script_in text)

-- out of memory, or this fault
abbrev pub Refuses : Option Fault → Refusal → Type 0
Refuses fault (refusal.Fault f) = fault ≡ Some f
Refuses fault refusal.Memory = Unit {0}

-- the recorder of the set-up that a script says
abbrev pub IsMadeOf : ScriptParts → Kept → Type 0
IsMadeOf s k = recorders.IsMadeOf (set_up_in s) k
