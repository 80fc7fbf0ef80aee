-- The rows of a file as tables of numbers.
use Rattle.std.specs.Prelude.{◌≡◌, ◌≢◌, ◌⊎◌, ℕ, ℤ, negsuc, Bool, true, false, Option, Some, None, List, length, map}
use Rattle.std.specs.List.{flat_map}
use Rattle.dfr_channels.specs.declared.scan.Reading.{Reading}
use Rattle.dfr_channels.specs.declared.scan.Reading.TheVariants.{Value, Missing}
use Rattle.comtrade_format.specs.Parts.{FileParts, HeadParts, RowParts}
use Rattle.comtrade_read.specs.Reads.{Reads, ReadsRows}

-- -2^31 stands for a missing reading
abbrev pub sample_of : Reading → ℤ
sample_of (Value x) = x
sample_of Missing = negsuc 2_147_483_647

abbrev pub bit_of : Bool → ℕ
bit_of true = 1
bit_of false = 0

-- 2^64 - 1 stands for a missing stamp
abbrev pub stamp_of : Option ℕ → ℕ
stamp_of (Some t) = t
stamp_of None = 18_446_744_073_709_551_615

abbrev pub row_samples : RowParts → List ℤ
row_samples r = map sample_of r.values

abbrev pub row_bits : RowParts → List ℕ
row_bits r = map bit_of r.bits

abbrev pub stamps_of : List RowParts → List ℕ
stamps_of rows = map (λ r. stamp_of r.stamp) rows

abbrev pub samples_of : List RowParts → List ℤ
samples_of rows = flat_map row_samples rows

abbrev pub bits_of : List RowParts → List ℕ
bits_of rows = flat_map row_bits rows

abbrev pub stamps_in : FileParts → List ℕ
stamps_in f = stamps_of f.rows

abbrev pub samples_in : FileParts → List ℤ
samples_in f = samples_of f.rows

abbrev pub bits_in : FileParts → List ℕ
bits_in f = bits_of f.rows

-- the pair reads to a file with these stamps, samples and bits, all of a row together
pub record Tabulates (cfg dat : List ℕ) (stamps : List ℕ) (samples : List ℤ) (bits : List ℕ) : Type 0 where
  pub file : FileParts
  pub reads : Reads cfg dat file
  pub stamps_are : stamps ≡ stamps_in file
  pub samples_are : samples ≡ samples_in file
  pub bits_are : bits ≡ bits_in file

-- the pair reads to a file, and one of the tables isn't as long as its stamps, samples or bits
pub record LacksRoom (cfg dat : List ℕ) (stamps : List ℕ) (samples : List ℤ) (bits : List ℕ) : Type 0 where
  pub file : FileParts
  pub reads : Reads cfg dat file
  pub lengths :
      (length stamps ≢ length (stamps_in file)) ⊎ (length samples ≢ length (samples_in file))
      ⊎ (length bits ≢ length (bits_in file))

-- the same of data under their head: they read to rows with these stamps, samples and bits
pub record TabulatesRows (h : HeadParts) (dat : List ℕ) (stamps : List ℕ) (samples : List ℤ) (bits : List ℕ) : Type 0 where
  pub rows : List RowParts
  pub reads : ReadsRows h dat rows
  pub stamps_are : stamps ≡ stamps_of rows
  pub samples_are : samples ≡ samples_of rows
  pub bits_are : bits ≡ bits_of rows

-- they read to rows, and one of the tables isn't as long as their stamps, samples or bits
pub record RowsLackRoom (h : HeadParts) (dat : List ℕ) (stamps : List ℕ) (samples : List ℤ) (bits : List ℕ) : Type 0 where
  pub rows : List RowParts
  pub reads : ReadsRows h dat rows
  pub lengths :
      (length stamps ≢ length (stamps_of rows)) ⊎ (length samples ≢ length (samples_of rows))
      ⊎ (length bits ≢ length (bits_of rows))
