-- The commands that stand after `go`.
use Rattle.std.specs.Prelude.{ℕ, ◌==◌, if◌then◌else◌, List, ◌++◌, length, Option, Some, None, option_to_list, Result, Ok, Err, codes}
use Rattle.std.specs.Str.{bytes_eq}
use Rattle.dfr_script.specs.declared.fault.LineFault.{LineFault}
use Rattle.dfr_script.specs.declared.fault.LineFault.TheVariants as fault
use Rattle.dfr_script.specs.declared.command.Command.{Command}
use Rattle.dfr_script.specs.declared.command.Command.TheVariants as command
use Rattle.dfr_script.specs.declared.command.Verb.{Verb}
use Rattle.dfr_script.specs.declared.command.Verb.TheVariants as verbs
use Rattle.dfr_channels.specs.LineFields.{and_then}
use Rattle.dfr_script.specs.Words.{word, rest, is_silent}
use Rattle.dfr_script.specs.RuleLines.{rules}
use Rattle.dfr_script.specs.ScanLines.{scan}
use Rattle.dfr_script.specs.Parts.{CommandParts, Scan, Lost, Trigger, Take, Rules}

-- a command, whatever its allocator is
abbrev pub parts_of : {A : Type 0} → Command A → CommandParts
parts_of (command.Scan scan) = Scan scan
parts_of command.Lost = Lost
parts_of command.Trigger = Trigger
parts_of command.Take = Take
parts_of (command.Rules line list) = Rules line list.items

-- the command that the word names
unfoldable pub verb : List ℕ → Option Verb
verb w =
    if bytes_eq w (codes "scan") then Some verbs.Scan
    else if bytes_eq w (codes "lost") then Some verbs.Lost
    else if bytes_eq w (codes "trigger") then Some verbs.Trigger
    else if bytes_eq w (codes "take") then Some verbs.Take
    else if bytes_eq w (codes "rules") then Some verbs.Rules
    else None

-- nothing stands after the word
abbrev pub bare : {X : Type 0} → X → List ℕ → Result X LineFault
bare x rest = if length rest == 0 then Ok x else Err fault.Word

abbrev pub verb_says : ℕ → Option Verb → List ℕ → Result CommandParts LineFault
verb_says n None rest = Err fault.Word
verb_says n (Some verbs.Scan) rest = and_then (scan rest) (λ scan. Ok (Scan scan))
verb_says n (Some verbs.Lost) rest = bare Lost rest
verb_says n (Some verbs.Trigger) rest = bare Trigger rest
verb_says n (Some verbs.Take) rest = bare Take rest
verb_says n (Some verbs.Rules) rest = and_then (rules rest) (λ list. Ok (Rules n list))

-- the command of line n after `go`, where it isn't skipped
unfoldable pub command_line : ℕ → List ℕ → Result (Option CommandParts) LineFault
command_line n line =
    if is_silent line then Ok None
    else and_then (verb_says n (verb (word line)) (rest line)) (λ command. Ok (Some command))

-- the commands with that of line n
abbrev pub with_command : List CommandParts → ℕ → List ℕ → Result (List CommandParts) LineFault
with_command cs n line = and_then (command_line n line) (λ command. Ok (cs ++ option_to_list command))
