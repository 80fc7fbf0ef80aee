-- What the lines of a configuration file are, by the head that the reader reads of them.
use Rattle.std.specs.Prelude.{◌≡◌, ℕ, ◌+◌, ◌-◌, ◌<◌, ◌≤◌, nat_lt, if◌then◌else◌, List, length, map, slice_get, Some, Result, Ok, Err}
use Rattle.comtrade_values.specs.Lines.{fields, line_fields}
use Rattle.comtrade_format.specs.Parts.{HeadParts}
use Rattle.comtrade_read.specs.Head.{names_line, counts_line, analog_line, status_line, rate_line, instant_line, frequency_line, nrates_line, kind_line, timemult_line, head}
use Rattle.comtrade_read.specs.Line.{Fault, told}
use Rattle.comtrade_read.specs.declared.fault.ReadFault.{ReadFault}
use Rattle.comtrade_read.specs.declared.fault.ReadFault.TheVariants as faults
use Rattle.comtrade_diagnostics.specs.declared.counts.Counts.{Counts}
use Rattle.comtrade_diagnostics.specs.declared.names.Place.{Place}
use Rattle.comtrade_diagnostics.specs.declared.names.Place.TheVariants.{Station, Channels, Analog, Status, Frequency, RateCount, Rate, First, Trigger, DataType, TimeMultiplier, After}

-- number n of the list, from 1, of which this holds
abbrev pub Has : {A : Type 0} → List A → ℕ → (A → Type 0) → Type 0
Has {A} list n P = (x : A) × (0 < n) × (slice_get list (n - 1) ≡ Some x) × P x

-- what the line at place n says, from 0
unfoldable pub line_at : {A : Type 0} → (List (List ℕ) → Result A Fault) → List (List ℕ) → ℕ → Result A ReadFault
line_at says ls n = if nat_lt n (length ls) then told (n + 1) (says (line_fields ls n)) else Err (faults.Missing (n + 1))

-- the line at this place, from 0, says this part of the head
abbrev pub Says : Place → List (List ℕ) → ℕ → HeadParts → Type 0
Says Station ls at h = line_at names_line ls at ≡ Ok (h.station, h.device)
Says Channels ls at h = line_at counts_line ls at ≡ Ok (length h.analog, length h.status)
Says (Analog n) ls at h = Has h.analog n (λ c. line_at (analog_line n) ls at ≡ Ok c)
Says (Status n) ls at h = Has h.status n (λ c. line_at (status_line n) ls at ≡ Ok c)
Says Frequency ls at h = line_at frequency_line ls at ≡ Ok h.line_freq
Says RateCount ls at h = line_at nrates_line ls at ≡ Ok h.nrates
Says (Rate n) ls at h = Has h.rates n (λ r. (before : ℕ) × (line_at (rate_line before) ls at ≡ Ok r))
Says First ls at h = line_at instant_line ls at ≡ Ok h.first
Says Trigger ls at h = line_at instant_line ls at ≡ Ok h.trigger
Says DataType ls at h = line_at kind_line ls at ≡ Ok h.kind
Says TimeMultiplier ls at h = line_at timemult_line ls at ≡ Ok h.timemult
Says After ls at h = length ls ≤ at

-- so many channels and rate lines
pub record Counted (c : Counts) (h : HeadParts) : Type 0 where
  pub analog : length h.analog ≡ c.analog
  pub status : length h.status ≡ c.status
  pub rates : length h.rates ≡ c.rates

-- as few as a head can count
abbrev pub AreFew : Counts → Type 0
AreFew c = c.analog + c.status + c.rates < 3000000

-- in each configuration file that can be read and has such counts, the line of this number, from 1, is what the place says
abbrev pub IsPlace : Counts → ℕ → Place → Type 0
IsPlace c number place =
    (ls : List (List ℕ)) (h : HeadParts) → head (map fields ls) ≡ Ok h → Counted c h → Says place ls (number - 1) h
