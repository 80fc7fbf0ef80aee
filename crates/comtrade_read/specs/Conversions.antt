-- A pair of files as a pair of another kind.
use Rattle.std.specs.Prelude.{◌≡◌, ℕ, List, Some}
use Rattle.comtrade_values.specs.Faults.{◌or◌}
use Rattle.comtrade_format.specs.Parts.{FileParts}
use Rattle.comtrade_format.specs.declared.file.Kind.{Kind}
use Rattle.comtrade_format.specs.declared.fault.WriteFault.{WriteFault}
use Rattle.comtrade_format.specs.Data.{dat_refusal}
use Rattle.comtrade_format.specs.Refusals.{cfg_refusal}
use Rattle.comtrade_read.specs.Reads.{Reads}
use Rattle.comtrade_read.specs.declared.convert.ConvertFault.{ConvertFault}
use Rattle.comtrade_read.specs.declared.convert.ConvertFault.TheVariants.{Read, Write, Memory}
use Rattle.comtrade_read.specs.Verdicts.{IsFaultyPair}

-- the same file, with data of this kind
abbrev pub of_kind : Kind → FileParts → FileParts
of_kind kind f = record f { head = record f.head { kind = kind } }

-- the one pair reads to a file, and the other to the same file, but for its kind
pub record Converts (cfg dat : List ℕ) (kind : Kind) (new_cfg new_dat : List ℕ) : Type 0 where
  pub file : FileParts
  pub reads : Reads cfg dat file
  pub reads_again : Reads new_cfg new_dat (of_kind kind file)

-- the pair reads to a file, and this is the writers' first refusal of it in this kind
pub record IsRefused (cfg dat : List ℕ) (kind : Kind) (e : WriteFault) : Type 0 where
  pub file : FileParts
  pub reads : Reads cfg dat file
  pub refused : cfg_refusal (of_kind kind file) or dat_refusal kind (of_kind kind file) ≡ Some e

-- why a pair isn't converted
abbrev pub refuses : List ℕ → List ℕ → Kind → ConvertFault → Type 0
refuses cfg dat kind (Read x) = IsFaultyPair cfg dat x.part x.fault
refuses cfg dat kind (Write e) = IsRefused cfg dat kind e
refuses cfg dat kind Memory = Unit {0}
