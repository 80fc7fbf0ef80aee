-- Faults by numbers: the table of comtrade.h.
use Rattle.std.specs.Prelude.{◌≡◌, ℕ, List}
use Rattle.comtrade_format.specs.declared.fault.WriteFault.{WriteFault}
use Rattle.comtrade_format.specs.declared.fault.WriteFault.TheVariants as writing
use Rattle.comtrade_format.specs.Parts.{HeadParts}
use Rattle.comtrade_read.specs.declared.fault.ReadFault.{ReadFault}
use Rattle.comtrade_read.specs.declared.fault.ReadFault.TheVariants as reading
use Rattle.comtrade_read.specs.declared.pair.Part.{Part}
use Rattle.comtrade_read.specs.Reads.{ReadsHead, FaultyHead, FaultyPair, Nothing, IsNoFile}
use Rattle.comtrade_c.specs.declared.answer.Fault.{Fault}

abbrev pub at : ℕ → ℕ → ℕ → Fault
at kind place field = record { place = place; field = field; kind = kind }

abbrev pub of_read : ReadFault → Fault
of_read reading.Revision = at 1 1 0
of_read (reading.Fields line) = at 2 line 0
of_read (reading.Number line field) = at 3 line field
of_read (reading.Counts line) = at 4 line 0
of_read (reading.Instant line) = at 5 line 0
of_read reading.Kind = at 6 0 0
of_read (reading.Missing line) = at 7 line 0
of_read (reading.Extra line) = at 8 line 0
of_read reading.Length = at 9 0 0
of_read reading.Memory = at 0 0 0

abbrev pub of_write : WriteFault → Fault
of_write writing.Shape = at 10 0 0
of_write (writing.Text line field) = at 11 line field
of_write (writing.Value row channel) = at 12 row channel
of_write (writing.Stamp row) = at 13 row 0
of_write writing.Memory = at 0 0 0

-- the pair reads to no file, and the numbers are those of its first fault, which this part has
pub record IsPairFault (cfg dat : List ℕ) (part : Part) (said : Fault) : Type 0 where
  pub why : ReadFault
  pub faulty : FaultyPair cfg dat part why
  pub numbers : said ≡ of_read why
  pub unread : IsNoFile cfg dat

-- the configuration file reads to no head, and the numbers are those of its first fault
pub record IsHeadFault (cfg : List ℕ) (said : Fault) : Type 0 where
  pub why : ReadFault
  pub faulty : FaultyHead cfg why
  pub numbers : said ≡ of_read why
  pub unread : Nothing (ReadsHead cfg)

-- the configuration file reads to a head of which this holds
abbrev pub OfHead : List ℕ → (HeadParts → Type 0) → Type 0
OfHead cfg P = (h : HeadParts) × ReadsHead cfg h × P h
