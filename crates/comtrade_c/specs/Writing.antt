-- The file that is written of a head and tables, and what is said of its texts.
use Rattle.std.specs.Prelude.{◌≡◌, ◌<◌, ◌⊎◌, ℕ, ◌+◌, ◌==◌, ℤ, negsuc, Bool, true, false, not, if◌then◌else◌, Option, Some, None, List, [], ◌∷◌, length, map, take, drop}
use Rattle.std.specs.Ordering.{int_eq}
use Rattle.comtrade_values.specs.Faults.{◌or◌}
use Rattle.dfr_channels.specs.declared.scan.Reading.{Reading}
use Rattle.dfr_channels.specs.declared.scan.Reading.TheVariants.{Value, Missing}
use Rattle.comtrade_format.specs.declared.fault.WriteFault.{WriteFault}
use Rattle.comtrade_format.specs.declared.file.Kind.{Kind}
use Rattle.comtrade_format.specs.declared.file.Kind.TheVariants.{Ascii, Binary}
use Rattle.comtrade_format.specs.declared.file.Rate.{Rate}
use Rattle.comtrade_format.specs.Parts.{HeadParts, RowParts, FileParts}
use Rattle.comtrade_format.specs.Cfg.{cfg}
use Rattle.comtrade_format.specs.Data.{dat, dat_refusal}
use Rattle.comtrade_format.specs.Refusals.{cfg_refusal}
use Rattle.comtrade_read.specs.Reads.{Reads}
use Rattle.comtrade_c.specs.Buffers.{put}
use Rattle.comtrade_c.specs.Faults.{of_write}
use Rattle.comtrade_c.specs.declared.answer.Fault.{Fault}
use Rattle.comtrade_c.specs.declared.write.Sizes.{Sizes}

-- -2^31 stands for a missing reading
abbrev pub reading_of : ℤ → Reading
reading_of x = if int_eq x (negsuc 2_147_483_647) then Missing else Value x

-- 2^64 - 1 stands for a missing stamp
abbrev pub stamp_in : ℕ → Option ℕ
stamp_in t = if t == 18_446_744_073_709_551_615 then None else Some t

-- any byte but 0 is a bit that is set
abbrev pub flag_of : ℕ → Bool
flag_of b = not (b == 0)

abbrev pub row : ℕ → ℕ → List ℤ → List ℕ → RowParts
row number stamp samples bits = record {
  number = number;
  stamp = stamp_in stamp;
  values = map reading_of samples;
  bits = map flag_of bits;
}

-- a row for each stamp, numbered from n, with the next k samples and the next m bits; fewer of them
-- where a table ends before that, and what is too much in one is in no row
abbrev pub rows_from : ℕ → ℕ → ℕ → List ℕ → List ℤ → List ℕ → List RowParts
rows_from k m n [] samples bits = []
rows_from k m n (t ∷ ts) samples bits =
    row n t (take k samples) (take m bits) ∷ rows_from k m (n + 1) ts (drop k samples) (drop m bits)

-- the last rate ends with row n
abbrev pub ending : ℕ → List Rate → List Rate
ending n [] = []
ending n (r ∷ []) = record r { endsamp = n } ∷ []
ending n (r ∷ s ∷ rs) = r ∷ ending n (s ∷ rs)

abbrev pub kind_of : Bool → Kind
kind_of true = Binary
kind_of false = Ascii

-- the file that has this head but for its kind and the end of its last rate, and the rows of the tables
abbrev pub file_of_tables : Bool → List ℕ → List ℤ → List ℕ → HeadParts → FileParts
file_of_tables binary stamps samples bits h = record {
  head = record h { rates = ending (length stamps) h.rates; kind = kind_of binary };
  rows = rows_from (length h.analog) (length h.status) 1 stamps samples bits;
}

abbrev pub sizes_of : FileParts → Sizes
sizes_of f = record { cfg = length (cfg f.head); dat = length (dat f.head.kind f) }

-- the first refusal of a pair
abbrev pub refusal : FileParts → Option WriteFault
refusal f = cfg_refusal f or dat_refusal f.head.kind f

-- the writers take the file, and these are its two texts, which read to it
pub record AreTexts (f : FileParts) (cfg_text dat_text : List ℕ) : Type 0 where
  pub taken : refusal f ≡ None
  pub cfg_is : cfg_text ≡ cfg f.head
  pub dat_is : dat_text ≡ dat f.head.kind f
  pub reads : Reads (cfg f.head) (dat f.head.kind f) f

-- the file's two texts stand in front of what was after them in the buffers, and read to the file
pub record IsWritten (f : FileParts) (cfg_before dat_before : List ℕ) (sizes : Sizes) (cfg_after dat_after : List ℕ) : Type 0 where
  pub lengths : sizes ≡ sizes_of f
  pub cfg_text : cfg_after ≡ put (cfg f.head) cfg_before
  pub dat_text : dat_after ≡ put (dat f.head.kind f) dat_before
  pub reads : Reads (cfg f.head) (dat f.head.kind f) f

-- the file's two texts are as long as is said, and one of them is longer than its buffer
pub record LacksRoom (f : FileParts) (cfg_before dat_before : List ℕ) (sizes : Sizes) : Type 0 where
  pub lengths : sizes ≡ sizes_of f
  pub taken : refusal f ≡ None
  pub room : (length cfg_before < length (cfg f.head)) ⊎ (length dat_before < length (dat f.head.kind f))

-- the writers refuse the file, and the numbers are those of the first refusal
pub record IsRefused (f : FileParts) (said : Fault) : Type 0 where
  pub why : WriteFault
  pub refused : refusal f ≡ Some why
  pub numbers : said ≡ of_write why
