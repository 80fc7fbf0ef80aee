-- The configuration file (C37.111-1999, clause 5): its lines, and the fields of each.
use Rattle.std.specs.Prelude.{ℤ, ℕ, ◌+◌, List, [], ◌∷◌, ◌++◌, length, map, codes}
use Rattle.std.specs.List.{flat_map}
use Rattle.std.specs.Fmt.{decimal, signed_decimal}
use Rattle.comtrade_values.specs.Spelling.{Number}
use Rattle.comtrade_values.specs.Written.{decimal_text}
use Rattle.dfr_channels.specs.Parts.{AnalogParts, StatusParts}
use Rattle.dfr_channels.specs.declared.channel.Side.{Side}
use Rattle.dfr_channels.specs.declared.channel.Side.TheVariants.{Primary, Secondary}
use Rattle.comtrade_format.specs.declared.file.Kind.{Kind}
use Rattle.comtrade_format.specs.declared.file.Kind.TheVariants.{Ascii, Binary}
use Rattle.comtrade_format.specs.declared.file.Rate.{Rate}
use Rattle.comtrade_format.specs.Parts.{HeadParts}
use Rattle.comtrade_format.specs.Lines.{line, bit_text}
use Rattle.comtrade_values.specs.Dates.{instant_fields}
use Rattle.comtrade_format.specs.Numbered.{numbered}

abbrev pub side_text : Side → List ℕ
side_text Primary = codes "P"
side_text Secondary = codes "S"

abbrev pub kind_text : Kind → List ℕ
kind_text Ascii = codes "ASCII"
kind_text Binary = codes "BINARY"

-- station, recording device and the year of the standard (5.3.1)
unfoldable pub names_fields : List ℕ → List ℕ → List (List ℕ)
names_fields station device = station ∷ device ∷ codes "1999" ∷ []

-- how many channels there are, all, analogue and status (5.3.2)
unfoldable pub counts_fields : ℕ → ℕ → List (List ℕ)
counts_fields k m = decimal (k + m) ∷ (decimal k ++ codes "A") ∷ (decimal m ++ codes "D") ∷ []

-- analogue channel n (5.3.3)
unfoldable pub analog_fields : ℕ → AnalogParts → List (List ℕ)
analog_fields n c =
    decimal n ∷ c.id ∷ c.phase ∷ c.component ∷ c.unit ∷ decimal_text c.a ∷ decimal_text c.b ∷ decimal_text c.skew
    ∷ signed_decimal c.min ∷ signed_decimal c.max ∷ decimal_text c.primary ∷ decimal_text c.secondary ∷ side_text c.side ∷ []

-- status channel n (5.3.4)
unfoldable pub status_fields : ℕ → StatusParts → List (List ℕ)
status_fields n c = decimal n ∷ c.id ∷ c.phase ∷ c.component ∷ bit_text c.normal ∷ []

-- a sampling rate, and the number of the last row at it (5.3.6)
unfoldable pub rate_fields : Rate → List (List ℕ)
rate_fields r = decimal_text r.samp ∷ decimal r.endsamp ∷ []

-- the lines up to the last channel's; channels of a kind are numbered from 1
unfoldable pub channel_lines : List ℕ → List ℕ → List AnalogParts → List StatusParts → List (List (List ℕ))
channel_lines station device analog status =
    names_fields station device ∷ counts_fields (length analog) (length status)
    ∷ (numbered analog_fields 1 analog ++ numbered status_fields 1 status)

-- line frequency (5.3.5), the number of rates, and the rates (5.3.6)
unfoldable pub rate_lines : Number → ℕ → List Rate → List (List (List ℕ))
rate_lines line_freq nrates rates = (decimal_text line_freq ∷ []) ∷ (decimal nrates ∷ []) ∷ map rate_fields rates

-- the instants of the first row and of the trigger (5.3.7), the form of the data (5.3.8) and the stamps' multiplier (5.3.9)
unfoldable pub last_lines : ℤ → ℤ → Kind → Number → List (List (List ℕ))
last_lines first trigger kind timemult =
    instant_fields first ∷ instant_fields trigger ∷ (kind_text kind ∷ []) ∷ (decimal_text timemult ∷ []) ∷ []

-- the fields of each line
unfoldable pub head_lines : HeadParts → List (List (List ℕ))
head_lines h =
    channel_lines h.station h.device h.analog h.status
    ++ (rate_lines h.line_freq h.nrates h.rates ++ last_lines h.first h.trigger h.kind h.timemult)

-- the whole file
unfoldable pub cfg : HeadParts → List ℕ
cfg h = flat_map line (head_lines h)
