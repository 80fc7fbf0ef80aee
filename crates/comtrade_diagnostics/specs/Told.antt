-- Which samples notes on repairs cover, and when no other sample differs from the data.
use Rattle.std.specs.Prelude.{◌≡◌, ◌⊎◌, ℕ, ◌<◌, true, Bool, List, length, Option, Some, None, slice_get}
use Rattle.std.specs.List.{Contains}
use Rattle.dfr_channels.specs.declared.scan.Reading.{Reading}
use Rattle.dfr_channels.specs.declared.scan.Reading.TheVariants.{Value, Missing}
use Rattle.comtrade_dialects.specs.declared.key.Key.{Key}
use Rattle.comtrade_dialects.specs.declared.key.Key.TheVariants.{ValuesDecimal, ValuesWide, ValuesUnsigned, ValuesRounded, MissingMarks, KindFloat32}
use Rattle.comtrade_diagnostics.specs.declared.covers.Scope.{Scope}
use Rattle.comtrade_diagnostics.specs.declared.covers.Scope.TheVariants.{Nothing, Channels, Rows, Unfit}
use Rattle.comtrade_diagnostics.specs.declared.untold.Sample.{Sample}
use Rattle.comtrade_diagnostics.specs.declared.untold.Sample.TheVariants.{Whole, Absent, Beyond}
use Rattle.comtrade_diagnostics.specs.declared.untold.Place.{Place}
use Rattle.comtrade_format.specs.Parts.{RowParts}
use Rattle.comtrade_diagnostics.specs.Parts.{SaidParts}

-- ---- what a note covers

abbrev pub scope : Key → Scope
scope ValuesWide = Channels
scope ValuesUnsigned = Channels
scope ValuesRounded = Channels
scope MissingMarks = Rows
scope ValuesDecimal = Unfit
scope KindFloat32 = Unfit
scope _ = Nothing

-- the note names this channel or row, counted from 0
abbrev pub Names : SaidParts → ℕ → Type 0
Names note n = Contains note.named n ⊎ ((last : ℕ) × (note.past ≡ Some last) × (last < n))

-- a note of this scope covers the sample in row r and channel c for which y is written
abbrev pub CoversAs : Scope → List Bool → ℕ → ℕ → Reading → SaidParts → Type 0
CoversAs Nothing unfit r c y note = ⊥
CoversAs Channels unfit r c y note = Names note c
CoversAs Rows unfit r c y note = (y ≡ Missing) × Names note r
CoversAs Unfit unfit r c y note = slice_get unfit c ≡ Some true

abbrev pub Covers : List Bool → ℕ → ℕ → Reading → SaidParts → Type 0
Covers unfit r c y note = CoversAs (scope note.key) unfit r c y note

abbrev pub IsTold : List SaidParts → List Bool → ℕ → ℕ → Reading → Type 0
IsTold notes unfit r c y = (i : ℕ) × (note : SaidParts) × (slice_get notes i ≡ Some note) × Covers unfit r c y note

-- ---- what differs

-- a sample of the data is written as it is
abbrev pub IsKept : Sample → Reading → Type 0
IsKept (Whole x) (Value y) = x ≡ y
IsKept Absent Missing = Unit {0}
IsKept _ _ = ⊥

-- what is written in row r and channel c is told: the sample of the data, or one that a note covers; or both have no such channel
abbrev pub IsToldAt : List SaidParts → List Bool → ℕ → ℕ → Option Sample → Option Reading → Type 0
IsToldAt notes unfit r c (Some x) (Some y) = IsKept x y ⊎ IsTold notes unfit r c y
IsToldAt notes unfit r c None None = Unit {0}
IsToldAt _ _ _ _ _ _ = ⊥

abbrev pub IsRowTold : List SaidParts → List Bool → ℕ → List Sample → List Reading → Type 0
IsRowTold notes unfit r own written = (c : ℕ) → IsToldAt notes unfit r c (slice_get own c) (slice_get written c)

-- whole files: each row and channel is told
abbrev pub IsAllTold : List SaidParts → List Bool → List (List Sample) → List RowParts → Type 0
IsAllTold notes unfit own rows = (r : ℕ) (xs : List Sample) (row : RowParts) → slice_get own r ≡ Some xs → slice_get rows r ≡ Some row → IsRowTold notes unfit r xs row.values

-- this place isn't
pub record IsUntold (notes : List SaidParts) (unfit : List Bool) (own : List (List Sample)) (rows : List RowParts) (p : Place) : Type 0 where
  pub xs : List Sample
  pub row : RowParts
  pub in_data : slice_get own p.row ≡ Some xs
  pub in_file : slice_get rows p.row ≡ Some row
  pub untold : IsToldAt notes unfit p.row p.channel (slice_get xs p.channel) (slice_get row.values p.channel) → ⊥
