-- The File of a record.
use Rattle.std.specs.Prelude.{◌≡◌, Result, Ok, Err, ℕ, ◌-◌, ℤ, pos, ◌+ℤ◌, Bool, true, false, Some, [], ◌∷◌, length}
use Rattle.comtrade_values.specs.Spelling.{Number}
use Rattle.dfr_channels.specs.Parts.{ScanParts, SetupParts}
use Rattle.dfr_channels.specs.Scans.{micros}
use Rattle.dfr_recorder.specs.Parts.{RecordParts}
use Rattle.comtrade_format.specs.declared.file.Kind.{Kind}
use Rattle.comtrade_write.specs.declared.of_record.FileFault.{FileFault}
use Rattle.comtrade_write.specs.declared.of_record.FileFault.TheVariants.{Foreign, Memory}
use Rattle.comtrade_format.specs.Parts.{HeadParts, RowParts, FileParts}
use Rattle.comtrade_format.specs.Numbered.{numbered}

abbrev pub whole : ℕ → Number
whole n = record { units = pos n; places = 0 }

-- when scan k was taken, in microseconds since 1970-01-01 00:00:00
abbrev pub instant_at : SetupParts → ℕ → ℤ
instant_at layout k = layout.start +ℤ pos (micros layout.rate k)

-- one rate, and as many rows as the record has scans; stamps are microseconds
abbrev pub head_of : SetupParts → RecordParts → Kind → HeadParts
head_of layout r kind = record {
  station = layout.station;
  device = layout.device;
  analog = layout.analog;
  status = layout.status;
  line_freq = layout.line_freq;
  nrates = 1;
  rates = record { samp = whole layout.rate; endsamp = length r.scans } ∷ [];
  first = instant_at layout r.extent.first;
  trigger = instant_at layout r.extent.trigger;
  kind = kind;
  timemult = whole 1;
}

-- row i, from 1, and the microseconds from the first row's scan to its own
abbrev pub row_of : ℕ → ℕ → ScanParts → RowParts
row_of rate i scan = record { number = i; stamp = Some (micros rate (i - 1)); values = scan.analog; bits = scan.status }

unfoldable pub file : SetupParts → RecordParts → Kind → FileParts
file layout r kind = record { head = head_of layout r kind; rows = numbered (row_of layout.rate) 1 r.scans }

-- this File where the record matches the layout, Foreign exactly where it doesn't, and out of memory only where it does
abbrev pub FileAnswers : Result FileParts FileFault → Bool → FileParts → Type 0
FileAnswers (Ok f) own made = (own ≡ true) × (f ≡ made)
FileAnswers (Err Foreign) own made = own ≡ false
FileAnswers (Err Memory) own made = own ≡ true
