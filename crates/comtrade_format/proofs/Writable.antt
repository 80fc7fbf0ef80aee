-- A file that no writer refuses.
use Rattle.std.proofs.Common.{◌≡◌, None}
use Rattle.comtrade_format.specs.declared.file.Kind.{Kind}
use Rattle.comtrade_format.specs.declared.file.Kind.TheVariants.{Ascii, Binary}
use Rattle.comtrade_format.specs.Parts.{FileParts}
use Rattle.comtrade_format.specs.Data.{IsWritable, dat_refusal}

pub dat_taken : (kind : Kind) (f : FileParts) → IsWritable f → dat_refusal kind f ≡ None
dat_taken Ascii f w = w.ascii
dat_taken Binary f w = w.binary
