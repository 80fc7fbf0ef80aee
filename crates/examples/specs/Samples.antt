-- The samples of a channel, and their span.
use Rattle.std.specs.Prelude.{◌≡◌, ℕ, ℤ, ◌≤ℤ◌, List, [], Option, Some, None, slice_get}
use Rattle.std.specs.List.{All, Contains, filter_map}
use Rattle.dfr_channels.specs.Scans.{sample_in}
use Rattle.comtrade_format.specs.Parts.{RowParts}
use Rattle.examples.specs.declared.peaks.span.Span.{Span}

-- the sample of a channel in a row, where its reading isn't missing
abbrev pub sample : ℕ → RowParts → Option ℤ
sample channel row = sample_in (slice_get row.values channel)

-- the samples of a channel in these rows
abbrev pub samples : ℕ → List RowParts → List ℤ
samples channel rows = filter_map (sample channel) rows

-- all samples lie in the span, and both its ends are samples
pub record IsSpan (xs : List ℤ) (span : Span) : Type 0 where
  pub within : All (λ x. (span.least ≤ℤ x) × (x ≤ℤ span.greatest)) xs
  pub least : Contains xs span.least
  pub greatest : Contains xs span.greatest

-- there is a span exactly where there is a sample
abbrev pub Spans : List ℤ → Option Span → Type 0
Spans xs (Some span) = IsSpan xs span
Spans xs None = xs ≡ []
