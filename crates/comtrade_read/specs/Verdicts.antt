-- What is said of a pair of files.
use Rattle.std.specs.Prelude.{ℕ, List}
use Rattle.comtrade_format.specs.Parts.{FileParts}
use Rattle.comtrade_read.specs.declared.fault.ReadFault.{ReadFault}
use Rattle.comtrade_read.specs.declared.pair.Part.{Part}
use Rattle.comtrade_read.specs.Reads.{Reads, FaultyPair, IsNoFile}

-- the pair reads to a file
abbrev pub IsFile : List ℕ → List ℕ → Type 0
IsFile cfg dat = (f : FileParts) × Reads cfg dat f

-- this is the pair's first fault, and it reads to no file
abbrev pub IsFaultyPair : List ℕ → List ℕ → Part → ReadFault → Type 0
IsFaultyPair cfg dat part fault = FaultyPair cfg dat part fault × IsNoFile cfg dat
