-- What contracts see of a script, whatever its allocator is.
use Rattle.std.specs.Prelude.{ℕ, ℤ, Bool, List, Option}
use Rattle.comtrade_values.specs.Spelling.{Number}
use Rattle.dfr_channels.specs.Parts.{AnalogParts, StatusParts, SetupParts, ScanParts}
use Rattle.dfr_channels.specs.declared.rule.Rule.{Rule}
use Rattle.dfr_script.specs.declared.limit_line.LimitNumbers.{LimitNumbers}

-- the lines of a set-up that came so far; `dated`: its start was given before, and lines `start` are skipped
pub record DraftParts : Type 0 where
  pub station : Option (List ℕ)
  pub device : Option (List ℕ)
  pub analog : List AnalogParts
  pub status : List StatusParts
  pub line_freq : Option Number
  pub rate : Option ℕ
  pub start : Option ℤ
  pub dated : Bool
  pub limits : Option LimitNumbers
  pub rules : Option (List Rule)

-- what the lines of a set-up say
pub record RecorderSetupParts : Type 0 where
  pub setup : SetupParts
  pub limits : LimitNumbers
  pub rules : List Rule

-- what a line after `go` asks for; rules with the number of their line
pub data CommandParts : Type 0 where
  Scan : ScanParts → CommandParts
  Lost : CommandParts
  Trigger : CommandParts
  Take : CommandParts
  Rules : ℕ → List Rule → CommandParts

pub record ScriptParts : Type 0 where
  pub setup : SetupParts
  pub limits : LimitNumbers
  pub rules : List Rule
  pub commands : List CommandParts

-- what a script says before its `go`
abbrev pub set_up_in : ScriptParts → RecorderSetupParts
set_up_in s = record { setup = s.setup; limits = s.limits; rules = s.rules }
