-- The line that a fault prints.
use Rattle.std.specs.Prelude.{ℕ, List, ◌++◌, Option, Some, None, codes, decimal}
use Rattle.std.specs.Io.KnownBytes.{Appends}
use Rattle.dfr_channels.specs.declared.setup.SetupFault.{SetupFault}
use Rattle.dfr_channels.specs.declared.setup.SetupFault.TheVariants as setups
use Rattle.dfr_channels.specs.declared.rules.RuleFault.{RuleFault}
use Rattle.dfr_channels.specs.declared.rules.RuleFault.TheVariants as rules
use Rattle.dfr_recorder.specs.declared.limits.LimitFault.{LimitFault}
use Rattle.dfr_recorder.specs.declared.limits.LimitFault.TheVariants as limits
use Rattle.dfr_script.specs.declared.fault.Word.{Word}
use Rattle.dfr_script.specs.declared.fault.Word.TheVariants as words
use Rattle.dfr_script.specs.declared.recorder.RecorderFault.{RecorderFault}
use Rattle.dfr_script.specs.declared.recorder.RecorderFault.TheVariants as recorders
use Rattle.dfr_program.specs.declared.prepared.Fault.{Fault}
use Rattle.dfr_program.specs.declared.prepared.Fault.TheVariants as faults

unfoldable pub word_of : Word → List ℕ
word_of words.Word = codes "word"
word_of words.Fields = codes "fields"
word_of words.Number = codes "number"
word_of words.Setup = codes "setup"

unfoldable pub setup_word : SetupFault → List ℕ
setup_word (setups.Text place) = codes "text"
setup_word setups.Channels = codes "channels"
setup_word (setups.Span i) = codes "span"
setup_word setups.Rate = codes "rate"
setup_word setups.Start = codes "start"

unfoldable pub limit_word : LimitFault → List ℕ
limit_word limits.Pre = codes "pre"
limit_word limits.Post = codes "post"
limit_word limits.Longest = codes "longest"
limit_word limits.Shelf = codes "shelf"
limit_word limits.Stamp = codes "stamp"

unfoldable pub rule_word : RuleFault → List ℕ
rule_word rules.TooMany = codes "too-many"
rule_word (rules.NoChannel i) = codes "no-channel"

-- of a set-up's fault, what stands before the line's end
abbrev pub recorder_words : RecorderFault → List ℕ
recorder_words (recorders.Setup f) = codes "fault setup " ++ setup_word f
recorder_words (recorders.Limits f) = codes "fault limits " ++ limit_word f
recorder_words (recorders.Rules f) = codes "fault rules " ++ rule_word f

-- what stands before the line's end
abbrev pub fault_words : Fault → List ℕ
fault_words (faults.Script f) = codes "fault line " ++ decimal f.line ++ codes " " ++ word_of f.word
fault_words (faults.Recorder f) = recorder_words f
fault_words (faults.RulesAt line) = codes "fault line " ++ decimal line ++ codes " rules"

unfoldable pub fault_text : Fault → List ℕ
fault_text fault = fault_words fault ++ codes "\n"

-- there is a fault, and its line is what is written
abbrev pub PrintsFault : Option Fault → Option (List ℕ) → Option (List ℕ) → Type 0
PrintsFault (Some fault) old new = Appends old new (fault_text fault)
PrintsFault None old new = ⊥
