-- What is printed of a pair of files.
use Rattle.std.specs.Prelude.{ℕ, List, [], ◌++◌, length, codes, decimal}
use Rattle.std.specs.Fmt.{signed_decimal}
use Rattle.comtrade_read.specs.declared.fault.ReadFault.{ReadFault}
use Rattle.comtrade_read.specs.declared.fault.ReadFault.TheVariants as faults
use Rattle.comtrade_read.specs.declared.pair.Part.{Part}
use Rattle.comtrade_read.specs.declared.pair.Part.TheVariants.{Cfg, Dat}
use Rattle.comtrade_format.specs.Parts.{HeadParts, FileParts}

abbrev pub part_text : Part → List ℕ
part_text Cfg = codes "cfg fault "
part_text Dat = codes "dat fault "

-- out of memory isn't printed
abbrev pub word_text : ReadFault → List ℕ
word_text faults.Revision = codes "revision"
word_text (faults.Fields line) = codes "fields " ++ decimal line
word_text (faults.Number line field) = codes "number " ++ decimal line ++ codes " " ++ decimal field
word_text (faults.Counts line) = codes "counts " ++ decimal line
word_text (faults.Instant line) = codes "instant " ++ decimal line
word_text faults.Kind = codes "kind"
word_text (faults.Missing line) = codes "missing " ++ decimal line
word_text (faults.Extra line) = codes "extra " ++ decimal line
word_text faults.Length = codes "length"
word_text faults.Memory = []

unfoldable pub read_fault_text : Part → ReadFault → List ℕ
read_fault_text part fault = part_text part ++ word_text fault ++ codes "\n"

unfoldable pub line_text : List ℕ → List ℕ → List ℕ
line_text name text = name ++ text ++ codes "\n"

unfoldable pub channels_text : HeadParts → List ℕ
channels_text h = codes "analog " ++ decimal (length h.analog) ++ codes " status " ++ decimal (length h.status)

unfoldable pub rows_text : ℕ → List ℕ
rows_text count = codes " rows " ++ decimal count ++ codes "\n"

-- microseconds since 1970-01-01 00:00:00
unfoldable pub instants_text : HeadParts → List ℕ
instants_text h = codes "first " ++ signed_decimal h.first ++ codes " trigger " ++ signed_decimal h.trigger ++ codes "\n"

-- the four lines of what was read
unfoldable pub file_text : FileParts → List ℕ
file_text f =
    line_text (codes "station ") f.head.station ++ line_text (codes "device ") f.head.device
    ++ channels_text f.head ++ rows_text (length f.rows) ++ instants_text f.head
