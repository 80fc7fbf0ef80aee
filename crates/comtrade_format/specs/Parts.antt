-- What contracts see of a pair of files, whatever their allocator is.
use Rattle.std.specs.Prelude.{ℕ, ℤ, Bool, Option, List}
use Rattle.comtrade_values.specs.Spelling.{Number}
use Rattle.dfr_channels.specs.Parts.{AnalogParts, StatusParts}
use Rattle.dfr_channels.specs.declared.scan.Reading.{Reading}
use Rattle.comtrade_format.specs.declared.file.Kind.{Kind}
use Rattle.comtrade_format.specs.declared.file.Rate.{Rate}

pub record HeadParts : Type 0 where
  pub station : List ℕ
  pub device : List ℕ
  pub analog : List AnalogParts
  pub status : List StatusParts
  pub line_freq : Number
  pub nrates : ℕ
  pub rates : List Rate
  pub first : ℤ
  pub trigger : ℤ
  pub kind : Kind
  pub timemult : Number

pub record RowParts : Type 0 where
  pub number : ℕ
  pub stamp : Option ℕ
  pub values : List Reading
  pub bits : List Bool

pub record FileParts : Type 0 where
  pub head : HeadParts
  pub rows : List RowParts
