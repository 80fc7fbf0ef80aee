-- Whether a pair of files can be read, and what is written of it.
use Rattle.std.specs.Prelude.{◌≡◌, ◌≢◌, ℕ, List, Option, Bool, true, false}
use Rattle.std.specs.Io.KnownBytes.{Appends}
use Rattle.comtrade_read.specs.declared.fault.ReadFault.{ReadFault}
use Rattle.comtrade_read.specs.declared.fault.ReadFault.TheVariants.{Memory}
use Rattle.comtrade_read.specs.declared.pair.Part.{Part}
use Rattle.comtrade_read.specs.Reads.{Reads, FaultyPair, IsNoFile}
use Rattle.comtrade_format.specs.Parts.{FileParts}
use Rattle.dfr_program.specs.ReadTexts.{file_text, read_fault_text}
use Rattle.dfr_program.specs.Writing.{Cut}

-- the lines of the file to which the two texts read
pub record ReportsFile (cfg dat text : List ℕ) : Type 0 where
  pub file : FileParts
  pub reads : Reads cfg dat file
  pub same : text ≡ file_text file

-- they read to none, one of them has this first fault, and this is its line
pub record ReportsFault (cfg dat text : List ℕ) : Type 0 where
  pub part : Part
  pub fault : ReadFault
  pub named : fault ≢ Memory
  pub faulty : FaultyPair cfg dat part fault
  pub unread : IsNoFile cfg dat
  pub same : text ≡ read_fault_text part fault

-- what is printed of them, and whether they were read
abbrev pub ReportsPair : List ℕ → List ℕ → Bool → List ℕ → Type 0
ReportsPair cfg dat true text = ReportsFile cfg dat text
ReportsPair cfg dat false text = ReportsFault cfg dat text

-- it is written
pub record PrintsPair (cfg dat : List ℕ) (done : Bool) (old new : Option (List ℕ)) : Type 0 where
  pub text : List ℕ
  pub reports : ReportsPair cfg dat done text
  pub written : Appends old new text

-- a write failed, after a front of it
pub record CutsPair (cfg dat : List ℕ) (old new : Option (List ℕ)) : Type 0 where
  pub done : Bool
  pub text : List ℕ
  pub reports : ReportsPair cfg dat done text
  pub cut : Cut old new text
