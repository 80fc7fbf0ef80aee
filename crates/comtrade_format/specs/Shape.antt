-- Files of the right shape: what the configuration file counts stands in the data file, and each number is in its range.
use Rattle.std.specs.Prelude.{ℕ, ◌+◌, ◌-◌, ◌==◌, ℤ, pos, neg_ℤ, Bool, false, ◌&&◌, nat_le, nat_lt, int_le, if◌then◌else◌, Option, Some, None, List, [], ◌∷◌, length}
use Rattle.std.specs.List.{list_all}
use Rattle.dfr_channels.specs.Parts.{AnalogParts}
use Rattle.comtrade_format.specs.declared.file.Rate.{Rate}
use Rattle.comtrade_format.specs.Parts.{HeadParts, RowParts, FileParts}

-- 1 to 999,999 channels together
abbrev pub channels_fit : ℕ → ℕ → Bool
channels_fit k m = nat_lt k 1_000_000 && nat_lt m (1_000_000 - k) && nat_lt 0 (k + m)

-- how many rate lines there are; without a rate there is one line (5.3.6)
abbrev pub rate_line_count : ℕ → ℕ
rate_line_count nrates = if nat_lt 0 nrates then nrates else 1

abbrev pub rates_counted : HeadParts → Bool
rates_counted h = nat_le h.nrates 999 && (length h.rates == rate_line_count h.nrates)

abbrev pub endsamp_fits : ℕ → ℕ → Bool
endsamp_fits before endsamp = nat_le before endsamp && nat_le endsamp 9_999_999_999

-- the last endsamp, where each is at least the one before and none is too great
abbrev pub rates_end : ℕ → List Rate → Option ℕ
rates_end before [] = Some before
rates_end before (r ∷ rs) = if endsamp_fits before r.endsamp then rates_end r.endsamp rs else None

abbrev pub is_some_of : Option ℕ → ℕ → Bool
is_some_of (Some e) n = e == n
is_some_of None n = false

-- an instant of the years 1 to 9999
abbrev pub is_writable : ℤ → Bool
is_writable t = int_le (neg_ℤ (pos 62_135_596_800_000_000)) t && int_le t (pos 253_402_300_799_999_999)

abbrev pub in_bounds : ℤ → Bool
in_bounds x = int_le (neg_ℤ (pos 99_999)) x && int_le x (pos 99_999)

abbrev pub has_bounds : AnalogParts → Bool
has_bounds a = in_bounds a.min && in_bounds a.max

abbrev pub instants_fit : HeadParts → Bool
instants_fit h = is_writable h.first && is_writable h.trigger

unfoldable pub head_shaped : HeadParts → Bool
head_shaped h =
    channels_fit (length h.analog) (length h.status) && rates_counted h && instants_fit h
    && list_all has_bounds h.analog

-- a row has as many values and bits as the head has channels
abbrev pub row_shaped : ℕ → ℕ → RowParts → Bool
row_shaped k m r = (length r.values == k) && (length r.bits == m)

abbrev pub rows_shaped : HeadParts → List RowParts → Bool
rows_shaped h rows = list_all (row_shaped (length h.analog) (length h.status)) rows

unfoldable pub is_shaped : FileParts → Bool
is_shaped f = head_shaped f.head && is_some_of (rates_end 0 f.head.rates) (length f.rows) && rows_shaped f.head f.rows
