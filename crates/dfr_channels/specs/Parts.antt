-- What contracts see of channels, set-ups and scans, whatever their allocator is.
use Rattle.std.specs.Prelude.{ℕ, ℤ, Bool, List, [], Option, Some, None}
use Rattle.comtrade_values.specs.Spelling.{Number}
use Rattle.dfr_channels.specs.declared.channel.Side.{Side}
use Rattle.dfr_channels.specs.declared.scan.Reading.{Reading}

pub record AnalogParts : Type 0 where
  pub id : List ℕ
  pub phase : List ℕ
  pub component : List ℕ
  pub unit : List ℕ
  pub a : Number
  pub b : Number
  pub skew : Number
  pub min : ℤ
  pub max : ℤ
  pub primary : Number
  pub secondary : Number
  pub side : Side

pub record StatusParts : Type 0 where
  pub id : List ℕ
  pub phase : List ℕ
  pub component : List ℕ
  pub normal : Bool

-- the id of a contact; nothing where there is no such contact
abbrev pub status_id : Option StatusParts → List ℕ
status_id None = []
status_id (Some c) = c.id

pub record SetupParts : Type 0 where
  pub station : List ℕ
  pub device : List ℕ
  pub analog : List AnalogParts
  pub status : List StatusParts
  pub line_freq : Number
  pub rate : ℕ
  pub start : ℤ

pub record ScanParts : Type 0 where
  pub analog : List Reading
  pub status : List Bool
