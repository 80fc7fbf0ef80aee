-- The kinds of line of a configuration file (C37.111-1999, clause 5), and where they stand.
use Rattle.std.specs.Prelude.{ℕ, ◌+◌, ◌-◌, max, Bool, false, ◌&&◌, ◌==◌, nat_lt, nat_le, if◌then◌else◌, List, [], length, slice_get, Option, Some, None, option_map, unwrap_or, Result, Ok, Err, ℤ, pos, negsuc, codes}
use Rattle.std.specs.Str.{str_eq_ignore_ascii_case}
use Rattle.comtrade_values.specs.Spelling.{Number}
use Rattle.comtrade_values.specs.Lines.{field}
use Rattle.comtrade_values.specs.Fields.{free_scale}
use Rattle.dfr_channels.specs.LineFields.{many, need, analog_from, status_from}
use Rattle.dfr_channels.specs.Parts.{AnalogParts, StatusParts}
use Rattle.comtrade_format.specs.declared.file.Kind.{Kind}
use Rattle.comtrade_format.specs.declared.file.Kind.TheVariants.{Ascii, Binary}
use Rattle.comtrade_format.specs.declared.file.Rate.{Rate}
use Rattle.comtrade_format.specs.Parts.{HeadParts}
use Rattle.comtrade_read.specs.declared.fault.ReadFault.{ReadFault}
use Rattle.comtrade_read.specs.declared.fault.ReadFault.TheVariants as faults
use Rattle.comtrade_read.specs.Line.{Fault, number, one, follow, Left, from_first, next, each, end}
use Rattle.comtrade_read.specs.Fields.{whole, natural, small, ten_digits, scale, count}
use Rattle.comtrade_read.specs.Instant.{date, time, instant_at}

-- the whole number n stands there
abbrev pub is_number : ℕ → Option ℤ → Bool
is_number n None = false
is_number n (Some (pos m)) = m == n
is_number n (Some (negsuc m)) = false

abbrev pub revision : Fault
revision line = faults.Revision

-- station, device and the revision
unfoldable pub names_line : List (List ℕ) → Result (List ℕ × List ℕ) Fault
names_line fs =
    if length fs == 2 then Err revision
    else many 3 faults.Fields fs (if is_number 1999 (whole (field fs 2)) then Ok (field fs 0, field fs 1) else Err revision)

-- the numbers of channels, analogue and status, together 1 to 999,999
unfoldable pub counts_line : List (List ℕ) → Result (ℕ × ℕ) Fault
counts_line fs = many 3 faults.Fields fs (
    need (natural 999999 (field fs 0)) (number 1) (λ total.
    need (count 65 (field fs 1)) (number 2) (λ k.
    need (count 68 (field fs 2)) (number 3) (λ m.
    if (total == k + m) && nat_lt 0 total then Ok (k, m) else Err faults.Counts))))

-- the analogue channel n, from 1
unfoldable pub analog_line : ℕ → List (List ℕ) → Result AnalogParts Fault
analog_line n fs = many 13 faults.Fields fs (
    need (whole (field fs 0)) (number 1) (λ found. follow (analog_from 1 number small fs) (λ channel.
    if is_number n (Some found) then Ok channel else Err faults.Counts)))

-- the status channel n, from 1
unfoldable pub status_line : ℕ → List (List ℕ) → Result StatusParts Fault
status_line n fs = many 5 faults.Fields fs (
    need (whole (field fs 0)) (number 1) (λ found. follow (status_from 1 number fs) (λ channel.
    if is_number n (Some found) then Ok channel else Err faults.Counts)))

-- the last sample of the last rate, or 0 where there is no rate
abbrev pub last_sample : List Rate → ℕ
last_sample rates = unwrap_or (option_map (λ r. r.endsamp) (slice_get rates (length rates - 1))) 0

-- a rate whose last sample isn't below this one
unfoldable pub rate_line : ℕ → List (List ℕ) → Result Rate Fault
rate_line before fs = many 2 faults.Fields fs (
    need (scale (field fs 0)) (number 1) (λ samp.
    need (natural ten_digits (field fs 1)) (number 2) (λ endsamp.
    if nat_le before endsamp then Ok (record { samp = samp; endsamp = endsamp }) else Err faults.Counts)))

unfoldable pub instant_line : List (List ℕ) → Result ℤ Fault
instant_line fs = many 2 faults.Fields fs (
    need (date (field fs 0)) faults.Instant (λ day.
    need (time (field fs 1)) faults.Instant (λ micros.
    Ok (instant_at day micros))))

-- ASCII or BINARY in any case of letters
unfoldable pub kind : List ℕ → Option Kind
kind f = if str_eq_ignore_ascii_case f (codes "ASCII") then Some Ascii else if str_eq_ignore_ascii_case f (codes "BINARY") then Some Binary else None

-- lines of one field
abbrev pub frequency_line : List (List ℕ) → Result Number Fault
frequency_line fs = one free_scale (number 1) fs

abbrev pub nrates_line : List (List ℕ) → Result ℕ Fault
nrates_line fs = one (natural 999) (number 1) fs

abbrev pub kind_line : List (List ℕ) → Result Kind Fault
kind_line fs = one kind (λ line. faults.Kind) fs

abbrev pub timemult_line : List (List ℕ) → Result Number Fault
timemult_line fs = one scale (number 1) fs

-- a line after those before it
abbrev pub next_analog : List AnalogParts → List (List ℕ) → Result AnalogParts Fault
next_analog before fs = analog_line (length before + 1) fs

abbrev pub next_status : List StatusParts → List (List ℕ) → Result StatusParts Fault
next_status before fs = status_line (length before + 1) fs

abbrev pub next_rate : List Rate → List (List ℕ) → Result Rate Fault
next_rate before fs = rate_line (last_sample before) fs

-- what the lines after the rates say
pub record EndParts : Type 0 where
  pub first : ℤ
  pub trigger : ℤ
  pub kind : Kind
  pub timemult : Number

unfoldable pub ending : Left → Result EndParts ReadFault
ending left =
    follow (next instant_line left) (λ first. follow (next instant_line first.1) (λ trigger.
    follow (next kind_line trigger.1) (λ kind. follow (next timemult_line kind.1) (λ timemult.
    follow (end timemult.1) (λ none.
    Ok (record { first = first.0; trigger = trigger.0; kind = kind.0; timemult = timemult.0 }))))))

-- what the lines after the channels say; where there is no rate there is one rate line
pub record TailParts : Type 0 where
  pub line_freq : Number
  pub nrates : ℕ
  pub rates : List Rate
  pub ending : EndParts

unfoldable pub tail : Left → Result TailParts ReadFault
tail left =
    follow (next frequency_line left) (λ line_freq. follow (next nrates_line line_freq.1) (λ nrates.
    follow (each next_rate (max 1 nrates.0) [] nrates.1) (λ rates. follow (ending rates.1) (λ e.
    Ok (record { line_freq = line_freq.0; nrates = nrates.0; rates = rates.0; ending = e })))))

-- what the lines of a configuration file say, or their first fault
unfoldable pub head : List (List (List ℕ)) → Result HeadParts ReadFault
head ls =
    follow (next names_line (from_first ls)) (λ names. follow (next counts_line names.1) (λ counts.
    follow (each next_analog counts.0.0 [] counts.1) (λ analog. follow (each next_status counts.0.1 [] analog.1) (λ status.
    follow (tail status.1) (λ t.
    Ok (record {
      station = names.0.0;
      device = names.0.1;
      analog = analog.0;
      status = status.0;
      line_freq = t.line_freq;
      nrates = t.nrates;
      rates = t.rates;
      first = t.ending.first;
      trigger = t.ending.trigger;
      kind = t.ending.kind;
      timemult = t.ending.timemult;
    }))))))
