-- What the line of a record tells.
use Rattle.std.specs.Prelude.{◌≡◌, ℕ, ◌==◌, ◌-◌, ◌-ℤ◌, ℤ, List, length, count_by, not, if◌then◌else◌, slice_get, option_map, option_and_then, Option, Some, None}
use Rattle.comtrade_values.specs.Spelling.{Number}
use Rattle.comtrade_format.specs.Parts.{HeadParts, FileParts}
use Rattle.comtrade_format.specs.declared.file.Rate.{Rate}
use Rattle.comtrade_analysis.specs.Contacts.{AreCounts}

-- from the first time to the last one, where both are known
abbrev pub length_of : List (Option ℤ) → Option ℤ
length_of times = option_and_then (λ first. option_map (λ (end : ℤ). end -ℤ first) (option_and_then (λ time. time) (slice_get times (length times - 1)))) (option_and_then (λ time. time) (slice_get times 0))

-- the first rate; none where only stamps give the times of rows
abbrev pub rate_of : HeadParts → Option Number
rate_of head = if head.nrates == 0 then None else option_map (λ (r : Rate). r.samp) (slice_get head.rates 0)

abbrev pub count_changed : List ℕ → ℕ
count_changed counts = count_by (λ count. not (count == 0)) counts

-- so many contacts have an event
pub record IsChanged (file : FileParts) (changed : ℕ) : Type 0 where
  pub counts : List ℕ
  pub count : length counts ≡ length file.head.status
  pub each : AreCounts file.rows (length file.rows) counts
  pub value : changed ≡ count_changed counts
