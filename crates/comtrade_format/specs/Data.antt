-- The data file in the form of a kind (C37.111-1999, clause 6), and what of it isn't written.
use Rattle.std.specs.Prelude.{◌≡◌, ℕ, Option, None, List}
use Rattle.comtrade_format.specs.declared.fault.WriteFault.{WriteFault}
use Rattle.comtrade_format.specs.declared.file.Kind.{Kind}
use Rattle.comtrade_format.specs.declared.file.Kind.TheVariants.{Ascii, Binary}
use Rattle.comtrade_format.specs.Parts.{FileParts}
use Rattle.comtrade_format.specs.Ascii.{ascii}
use Rattle.comtrade_format.specs.Binary.{binary}
use Rattle.comtrade_format.specs.Refusals.{cfg_refusal, data_refusal, ascii_bounds, binary_bounds}

abbrev pub dat : Kind → FileParts → List ℕ
dat Ascii f = ascii f.rows
dat Binary f = binary f.rows

abbrev pub dat_refusal : Kind → FileParts → Option WriteFault
dat_refusal Ascii f = data_refusal ascii_bounds f
dat_refusal Binary f = data_refusal binary_bounds f

-- no writer refuses the file, of whatever kind, unless out of memory
pub record IsWritable (f : FileParts) : Type 0 where
  pub cfg : cfg_refusal f ≡ None
  pub ascii : data_refusal ascii_bounds f ≡ None
  pub binary : data_refusal binary_bounds f ≡ None
