-- What isn't written, and how that is answered.
use Rattle.std.specs.Prelude.{◌≡◌, ℕ, ◌+◌, Bool, true, false, ◌&&◌, nat_le, int_le, Option, Some, None, Result, Ok, Err, pos, neg_ℤ, List, length}
use Rattle.std.specs.List.{list_all}
use Rattle.comtrade_values.specs.Faults.{◌or◌, fault_unless}
use Rattle.comtrade_values.specs.Texts.{is_name, is_phase, is_unit}
use Rattle.dfr_channels.specs.Parts.{AnalogParts, StatusParts}
use Rattle.dfr_channels.specs.declared.scan.Reading.{Reading}
use Rattle.dfr_channels.specs.declared.scan.Reading.TheVariants.{Value, Missing}
use Rattle.comtrade_format.specs.declared.bounds.Bounds.{Bounds}
use Rattle.comtrade_format.specs.declared.fault.WriteFault.{WriteFault}
use Rattle.comtrade_format.specs.declared.fault.WriteFault.TheVariants as faults
use Rattle.comtrade_format.specs.Parts.{HeadParts, RowParts, FileParts}
use Rattle.comtrade_format.specs.Numbered.{first_from}
use Rattle.comtrade_format.specs.Shape.{is_shaped}

-- what ASCII data can say: values of five digits other than 99999, which stands for a missing one, and numbers of ten digits
abbrev pub ascii_bounds : Bounds
ascii_bounds = record { low = neg_ℤ (pos 99_999); high = pos 99_998; number = 9_999_999_999; stamp = 9_999_999_999 }

-- what BINARY data can say: 8000 stands for a missing value, and FFFFFFFF for no stamp
abbrev pub binary_bounds : Bounds
binary_bounds = record { low = neg_ℤ (pos 32_767); high = pos 32_767; number = 4_294_967_295; stamp = 4_294_967_294 }

-- a missing value is always taken
abbrev pub takes_reading : Bounds → Reading → Bool
takes_reading m (Value x) = int_le m.low x && int_le x m.high
takes_reading m Missing = true

abbrev pub takes_stamp : Bounds → Option ℕ → Bool
takes_stamp m (Some t) = nat_le t m.stamp
takes_stamp m None = true

abbrev pub takes_times : Bounds → RowParts → Bool
takes_times m r = nat_le r.number m.number && takes_stamp m r.stamp

-- a row whose values, number and stamp are taken
abbrev pub takes_row : Bounds → RowParts → Bool
takes_row m r = list_all (takes_reading m) r.values && takes_times m r

-- the first value of a row that isn't taken, where its channels count from n
unfoldable pub values_from : Bounds → ℕ → ℕ → List Reading → Option WriteFault
values_from m row n values = first_from (λ channel v. fault_unless (takes_reading m v) (faults.Value row channel)) n values

abbrev pub values_refusal : Bounds → ℕ → List Reading → Option WriteFault
values_refusal m row values = values_from m row 1 values

-- the first value that isn't taken, by its row and then its channel
unfoldable pub rows_from : Bounds → ℕ → List RowParts → Option WriteFault
rows_from m n rows = first_from (λ row r. values_refusal m row r.values) n rows

abbrev pub value_refusal : Bounds → List RowParts → Option WriteFault
value_refusal m rows = rows_from m 1 rows

-- the first row whose number or stamp isn't taken
unfoldable pub stamps_from : Bounds → ℕ → List RowParts → Option WriteFault
stamps_from m n rows = first_from (λ row r. fault_unless (takes_times m r) (faults.Stamp row)) n rows

abbrev pub stamp_refusal : Bounds → List RowParts → Option WriteFault
stamp_refusal m rows = stamps_from m 1 rows

-- a value of any row comes before a stamp of any
abbrev pub rows_refusal : Bounds → List RowParts → Option WriteFault
rows_refusal m rows = value_refusal m rows or stamp_refusal m rows

-- the first refusal of a data file
unfoldable pub data_refusal : Bounds → FileParts → Option WriteFault
data_refusal m f = fault_unless (is_shaped f) faults.Shape or rows_refusal m f.rows

-- a text that breaks the rule, by its place
abbrev pub text_fault : Bool → ℕ → ℕ → Option WriteFault
text_fault fits line field = fault_unless fits (faults.Text line field)

abbrev pub names_refusal : HeadParts → Option WriteFault
names_refusal h = text_fault (is_name h.station) 1 1 or text_fault (is_name h.device) 1 2

unfoldable pub analog_refusal : ℕ → AnalogParts → Option WriteFault
analog_refusal line c =
    text_fault (is_name c.id) line 2 or text_fault (is_phase c.phase) line 3
    or text_fault (is_name c.component) line 4 or text_fault (is_unit c.unit) line 5

unfoldable pub status_refusal : ℕ → StatusParts → Option WriteFault
status_refusal line c = text_fault (is_name c.id) line 2 or text_fault (is_phase c.phase) line 3 or text_fault (is_name c.component) line 4

-- the first text that breaks the rule, by its line and field in the file that would be written
abbrev pub text_refusal : HeadParts → Option WriteFault
text_refusal h =
    names_refusal h or first_from analog_refusal 3 h.analog
    or first_from status_refusal (3 + length h.analog) h.status

-- the first refusal of a configuration file
unfoldable pub cfg_refusal : FileParts → Option WriteFault
cfg_refusal f = fault_unless (is_shaped f) faults.Shape or text_refusal f.head

-- how a refusal is answered; out of memory may be answered in its place
abbrev pub Fails : WriteFault → Option WriteFault → Type 0
Fails faults.Memory refusal = Unit {0}
Fails faults.Shape refusal = refusal ≡ Some faults.Shape
Fails (faults.Text line field) refusal = refusal ≡ Some (faults.Text line field)
Fails (faults.Value row channel) refusal = refusal ≡ Some (faults.Value row channel)
Fails (faults.Stamp row) refusal = refusal ≡ Some (faults.Stamp row)

-- whether all rows are taken is answered, and they are written where they are
abbrev pub WritesTaken : Bool → Bool → Type 0 → Type 0
WritesTaken true all written = (all ≡ true) × written
WritesTaken false all written = all ≡ false

-- a text where nothing is refused, and none where something is
abbrev pub GivesText : {V : Type 0} → (V → List ℕ) → Option V → Option WriteFault → List ℕ → Type 0
GivesText view (Some v) refusal text = (refusal ≡ None) × (view v ≡ text)
GivesText view None refusal text = ¬ (refusal ≡ None)

-- a writer's answer: the text where nothing is refused, else the refusal, or out of memory
abbrev pub Answers : {V : Type 0} → (V → List ℕ) → Result V WriteFault → Option WriteFault → List ℕ → Type 0
Answers view (Ok v) refusal text = (refusal ≡ None) × (view v ≡ text)
Answers view (Err e) refusal text = Fails e refusal
