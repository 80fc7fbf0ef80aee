-- The rules of a line.
use Rattle.std.specs.Prelude.{ℕ, ◌==◌, Bool, true, false, ◌&&◌, not, if◌then◌else◌, List, [], length, filter, Option, Some, None, Result, Ok, Err, ℤ, codes}
use Rattle.std.specs.List.{slice_split, list_all}
use Rattle.std.specs.Str.{bytes_eq}
use Rattle.comtrade_values.specs.Lines.{field}
use Rattle.dfr_channels.specs.declared.rule.Rule.{Rule}
use Rattle.dfr_channels.specs.declared.rule.Rule.TheVariants.{Level, Edge}
use Rattle.dfr_script.specs.declared.fault.LineFault.{LineFault}
use Rattle.dfr_script.specs.declared.fault.LineFault.TheVariants as fault
use Rattle.dfr_script.specs.Words.{is_blank}
use Rattle.dfr_script.specs.Fields.{small, natural, all_said}

-- what stands between the semicolons
abbrev pub parts : List ℕ → List (List ℕ)
parts rest = slice_split (λ b. b == 59) rest

-- the words between the blanks
unfoldable pub words : List ℕ → List (List ℕ)
words part = filter (λ w. not (length w == 0)) (slice_split is_blank part)

-- four words of a level, three of an edge, and at least one of anything else
unfoldable pub has_shape : List (List ℕ) → Bool
has_shape ws =
    if length ws == 0 then false
    else if bytes_eq (field ws 0) (codes "level") then length ws == 4
    else if bytes_eq (field ws 0) (codes "edge") then length ws == 3
    else true

-- which of two words stands there
abbrev pub either : List ℕ → List ℕ → List ℕ → Option Bool
either word first second = if bytes_eq word first then Some true else if bytes_eq word second then Some false else None

abbrev pub level_of : Option ℕ → Option Bool → Option ℤ → Option Rule
level_of (Some channel) (Some over) (Some threshold) = Some (Level channel over threshold)
level_of _ _ _ = None

-- `level C over T` or `level C under T`
unfoldable pub level : List (List ℕ) → Option Rule
level ws = level_of (natural (field ws 1)) (either (field ws 2) (codes "over") (codes "under")) (small (field ws 3))

abbrev pub edge_of : Option ℕ → Option Bool → Option Rule
edge_of (Some channel) (Some rise) = Some (Edge channel rise)
edge_of _ _ = None

-- `edge C rise` or `edge C fall`
unfoldable pub edge : List (List ℕ) → Option Rule
edge ws = edge_of (natural (field ws 1)) (either (field ws 2) (codes "rise") (codes "fall"))

-- the rule that the words say
unfoldable pub rule : List (List ℕ) → Option Rule
rule ws =
    if (length ws == 4) && bytes_eq (field ws 0) (codes "level") then level ws
    else if (length ws == 3) && bytes_eq (field ws 0) (codes "edge") then edge ws
    else None

-- each rule has its number of words
abbrev pub all_shaped : List (List ℕ) → Bool
all_shaped ps = list_all (λ p. has_shape (words p)) ps

abbrev pub rule_list : List (List ℕ) → Result (List Rule) LineFault
rule_list ps = all_said (λ p. rule (words p)) ps

-- the rest of a line `rules`: nothing, or rules separated by `;`, every count of words tested before any word is read
unfoldable pub rules : List ℕ → Result (List Rule) LineFault
rules rest =
    if length rest == 0 then Ok []
    else if all_shaped (parts rest) then rule_list (parts rest)
    else Err fault.Fields
