-- Which texts read to which files, and the first fault of those that read to none: the grammar of both files.
use Rattle.std.specs.Prelude.{◌≡◌, ◌≢◌, ℕ, ◌+◌, ◌-◌, ◌*◌, ◌/◌, ◌<◌, ◌^◌, ◌≤ℤ◌, Bool, List, ◌++◌, length, map, Option, Some, None, Ok, Err, pos, neg_ℤ}
use Rattle.std.specs.List.{before_first, concat, AllByRecursion, AllZip}
use Rattle.comtrade_values.specs.Lines.{lines, fields}
use Rattle.dfr_channels.specs.declared.scan.Reading.{Reading}
use Rattle.dfr_channels.specs.declared.scan.Reading.TheVariants.{Value, Missing}
use Rattle.comtrade_format.specs.declared.file.Kind.{Kind}
use Rattle.comtrade_format.specs.declared.file.Kind.TheVariants.{Ascii, Binary}
use Rattle.comtrade_format.specs.Parts.{HeadParts, RowParts, FileParts}
use Rattle.comtrade_format.specs.Binary.{row_bytes}
use Rattle.comtrade_read.specs.declared.fault.ReadFault.{ReadFault}
use Rattle.comtrade_read.specs.declared.fault.ReadFault.TheVariants as faults
use Rattle.comtrade_read.specs.declared.pair.Part.{Part}
use Rattle.comtrade_read.specs.declared.pair.Part.TheVariants.{Cfg, Dat}
use Rattle.comtrade_read.specs.Joined.{IsJoined}
use Rattle.comtrade_read.specs.Head.{last_sample, head}
use Rattle.comtrade_read.specs.Ascii.{is_end_mark, data_lines, rows}

-- a configuration file
pub record ReadsHead (cfg : List ℕ) (h : HeadParts) : Type 0 where
  pub lines : List (List (List ℕ))
  pub joined : IsJoined cfg lines
  pub head : head lines ≡ Ok h

-- ASCII data: what stands before the first byte 1A is one line for each row
pub record ReadsAscii (k m : ℕ) (dat : List ℕ) (rs : List RowParts) : Type 0 where
  pub lines : List (List (List ℕ))
  pub joined : IsJoined (before_first is_end_mark dat) lines
  pub rows : rows k m (length rs) lines ≡ Ok rs

-- a value whose bytes aren't those of a missing one
abbrev pub IsPresent : Reading → Type 0
IsPresent (Value x) = (neg_ℤ (pos 32767) ≤ℤ x) × (x ≤ℤ pos 32767)
IsPresent Missing = Unit {0}

-- a stamp whose bytes aren't those of none
abbrev pub IsStamp : Option ℕ → Type 0
IsStamp (Some t) = t < 4294967295
IsStamp None = Unit {0}

-- a binary row of k values and m bits: its bytes are a writer's, with any bits where no channel stands
pub record IsRowOf (k m : ℕ) (bytes : List ℕ) (r : RowParts) : Type 0 where
  pub spare : List Bool
  pub spare_count : length spare ≡ 16 * ((m + 15) / 16) - m
  pub written : bytes ≡ row_bytes (record r { bits = r.bits ++ spare })
  pub number : r.number < 2 ^ 32
  pub stamp : IsStamp r.stamp
  pub value_count : length r.values ≡ k
  pub values : AllByRecursion IsPresent r.values
  pub bit_count : length r.bits ≡ m

-- BINARY data: the bytes of the rows, and nothing between them
pub record ReadsBinary (k m : ℕ) (dat : List ℕ) (rows : List RowParts) : Type 0 where
  pub parts : List (List ℕ)
  pub bytes : dat ≡ concat parts
  pub each : AllZip (IsRowOf k m) parts rows

abbrev pub ReadsAs : Kind → ℕ → ℕ → List ℕ → List RowParts → Type 0
ReadsAs Ascii k m dat rows = ReadsAscii k m dat rows
ReadsAs Binary k m dat rows = ReadsBinary k m dat rows

-- a data file under its head
pub record ReadsRows (h : HeadParts) (dat : List ℕ) (rows : List RowParts) : Type 0 where
  pub count : length rows ≡ last_sample h.rates
  pub each : ReadsAs h.kind (length h.analog) (length h.status) dat rows

-- a pair of files
pub record Reads (cfg dat : List ℕ) (f : FileParts) : Type 0 where
  pub head : ReadsHead cfg f.head
  pub rows : ReadsRows f.head dat f.rows

-- the first fault of a configuration file
abbrev pub FaultyHead : List ℕ → ReadFault → Type 0
FaultyHead cfg e = head (map fields (lines cfg)) ≡ Err e

-- the bytes of a binary row: number and stamp, two for each value, two for each sixteen bits begun
abbrev pub row_size : ℕ → ℕ → ℕ
row_size k m = 8 + 2 * k + 2 * ((m + 15) / 16)

abbrev pub FaultyAs : Kind → ℕ → ℕ → ℕ → List ℕ → ReadFault → Type 0
FaultyAs Ascii k m count dat e = rows k m count (map fields (data_lines dat)) ≡ Err e
FaultyAs Binary k m count dat e = (length dat ≢ count * row_size k m) × (e ≡ faults.Length)

-- the first fault of a data file under its head
abbrev pub FaultyData : HeadParts → List ℕ → ReadFault → Type 0
FaultyData h dat e = FaultyAs h.kind (length h.analog) (length h.status) (last_sample h.rates) dat e

-- the first fault of a pair: the data are judged under the head that the configuration file reads to
abbrev pub FaultyPair : List ℕ → List ℕ → Part → ReadFault → Type 0
FaultyPair cfg dat Cfg e = FaultyHead cfg e
FaultyPair cfg dat Dat e = (h : HeadParts) × (ReadsHead cfg h × FaultyData h dat e)

-- nothing has the property
abbrev pub Nothing : {A : Type 0} → (A → Type 0) → Type 0
Nothing {A = A} P = (x : A) → P x → ⊥

-- no two things have it
abbrev pub AtMostOne : {A : Type 0} → (A → Type 0) → Type 0
AtMostOne {A = A} P = (x y : A) → P x → P y → x ≡ y

-- the pair reads to no file
abbrev pub IsNoFile : List ℕ → List ℕ → Type 0
IsNoFile cfg dat = Nothing (Reads cfg dat)
