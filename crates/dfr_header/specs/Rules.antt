-- A trigger rule in words.
use Rattle.std.specs.Prelude.{ℕ, Bool, true, false, List, [], ◌++◌, codes, decimal, Option, Some, None, slice_get}
use Rattle.std.specs.List.{flat_map}
use Rattle.std.specs.Fmt.{signed_decimal}
use Rattle.comtrade_format.specs.Numbered.{numbered}
use Rattle.dfr_channels.specs.Parts.{AnalogParts, SetupParts, status_id}
use Rattle.dfr_channels.specs.declared.rule.Rule.{Rule}
use Rattle.dfr_channels.specs.declared.rule.Rule.TheVariants.{Level, Edge}
use Rattle.dfr_recorder.specs.declared.record.Cause.{Cause}
use Rattle.dfr_recorder.specs.declared.record.Cause.TheVariants as cause
use Rattle.dfr_header.specs.Lines.{line_end}

-- the id of an analogue channel; nothing where there is no such channel
abbrev pub analog_id : Option AnalogParts → List ℕ
analog_id None = []
analog_id (Some c) = c.id

abbrev pub side_text : Bool → List ℕ
side_text true = codes ") at or over "
side_text false = codes ") at or under "

abbrev pub change_text : Bool → List ℕ
change_text true = codes ") changed to 1"
change_text false = codes ") changed to 0"

-- a channel with its number and its id
unfoldable pub analog_text : SetupParts → ℕ → List ℕ
analog_text s channel = codes "analogue " ++ decimal channel ++ codes " (" ++ analog_id (slice_get s.analog channel)

unfoldable pub status_text : SetupParts → ℕ → List ℕ
status_text s channel = codes "status " ++ decimal channel ++ codes " (" ++ status_id (slice_get s.status channel)

-- when a rule holds: its channel, and the level or the change
unfoldable pub rule_text : SetupParts → Rule → List ℕ
rule_text s (Level channel over threshold) = analog_text s channel ++ side_text over ++ signed_decimal threshold
rule_text s (Edge channel rise) = status_text s channel ++ change_text rise

-- a rule with its number
unfoldable pub rule_line : SetupParts → ℕ → Rule → List ℕ
rule_line s n rule = codes "Rule " ++ decimal n ++ codes ": " ++ rule_text s rule ++ line_end

abbrev pub whole : List ℕ → List ℕ
whole text = text

-- each rule, numbered from 0
abbrev pub rule_lines : SetupParts → List Rule → List ℕ
rule_lines s rules = flat_map whole (numbered (rule_line s) 0 rules)

unfoldable pub known_text : SetupParts → List Rule → List ℕ
known_text s rules = codes "Rules in force at the trigger:\r\n" ++ rule_lines s rules

-- the rules in force, where they are known
abbrev pub rules_text : SetupParts → Option (List Rule) → List ℕ
rules_text s None = codes "Rules in force: not known\r\n"
rules_text s (Some rules) = known_text s rules

-- the rule of a number, if it is known
abbrev pub known_rule : Option (List Rule) → ℕ → Option Rule
known_rule None n = None
known_rule (Some rules) n = slice_get rules n

abbrev pub held_text : SetupParts → Option Rule → List ℕ
held_text s None = codes " held"
held_text s (Some rule) = codes " held: " ++ rule_text s rule

-- what opened the record
unfoldable pub why_text : SetupParts → Option (List Rule) → Cause → List ℕ
why_text s rules cause.Manual = codes "a manual trigger"
why_text s rules (cause.Rule n) = codes "rule " ++ decimal n ++ held_text s (known_rule rules n)
