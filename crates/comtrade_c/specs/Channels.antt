-- What a configuration file says of its channels and rates, as tables.
use Rattle.std.specs.Prelude.{◌≡◌, ◌≢◌, ◌⊎◌, ℕ, Bool, true, false, List, [], ◌∷◌, ◌++◌, length, map}
use Rattle.std.specs.List.{AllZip, flat_map}
use Rattle.dfr_channels.specs.Parts.{AnalogParts, StatusParts}
use Rattle.dfr_channels.specs.declared.channel.Side.{Side}
use Rattle.dfr_channels.specs.declared.channel.Side.TheVariants.{Primary, Secondary}
use Rattle.comtrade_format.specs.Parts.{HeadParts}
use Rattle.comtrade_format.specs.declared.file.Rate.{Rate}
use Rattle.comtrade_format.specs.Floats.{IsNearest}
use Rattle.comtrade_c.specs.Tables.{bit_of}
use Rattle.comtrade_c.specs.declared.channels.Analog.{Analog}
use Rattle.comtrade_c.specs.declared.channels.RateEnd.{RateEnd}

abbrev pub is_secondary : Side → Bool
is_secondary Primary = false
is_secondary Secondary = true

-- each decimal as the nearest float
pub record IsAnalog (c : AnalogParts) (s : Analog) : Type 0 where
  pub a : IsNearest c.a s.a
  pub b : IsNearest c.b s.b
  pub skew : IsNearest c.skew s.skew
  pub primary : IsNearest c.primary s.primary
  pub secondary : IsNearest c.secondary s.secondary
  pub min : s.min ≡ c.min
  pub max : s.max ≡ c.max
  pub side : s.on_secondary ≡ is_secondary c.side

pub record IsRate (r : Rate) (s : RateEnd) : Type 0 where
  pub samp : IsNearest r.samp s.samp
  pub endsamp : s.endsamp ≡ r.endsamp

-- the four texts of an analogue channel, and how long each is
abbrev pub analog_text : AnalogParts → List ℕ
analog_text c = c.id ++ c.phase ++ c.component ++ c.unit

abbrev pub analog_lengths : AnalogParts → List ℕ
analog_lengths c = length c.id ∷ length c.phase ∷ length c.component ∷ length c.unit ∷ []

-- the three texts of a status channel, and how long each is
abbrev pub status_text : StatusParts → List ℕ
status_text c = c.id ++ c.phase ++ c.component

abbrev pub status_lengths : StatusParts → List ℕ
status_lengths c = length c.id ∷ length c.phase ∷ length c.component ∷ []

-- all texts, one after the other: the station, the device, those of each channel
abbrev pub text_in : HeadParts → List ℕ
text_in h = h.station ++ h.device ++ flat_map analog_text h.analog ++ flat_map status_text h.status

abbrev pub lengths_in : HeadParts → List ℕ
lengths_in h =
    (length h.station ∷ length h.device ∷ []) ++ flat_map analog_lengths h.analog ++ flat_map status_lengths h.status

-- the bit of each status channel while nothing is wrong
abbrev pub normal_in : HeadParts → List ℕ
normal_in h = map (λ c. bit_of c.normal) h.status

-- the tables say all channels, rates and texts
pub record IsTold (h : HeadParts) (analog : List Analog) (normal : List ℕ) (rates : List RateEnd) (lengths text : List ℕ) : Type 0 where
  pub analog_are : AllZip IsAnalog h.analog analog
  pub normal_are : normal ≡ normal_in h
  pub rates_are : AllZip IsRate h.rates rates
  pub lengths_are : lengths ≡ lengths_in h
  pub text_are : text ≡ text_in h

-- one of the tables isn't as long as what it is to say
abbrev pub LacksRoom : HeadParts → List Analog → List ℕ → List RateEnd → List ℕ → List ℕ → Type 0
LacksRoom h analog normal rates lengths text =
    (length analog ≢ length h.analog) ⊎ (length normal ≢ length (normal_in h)) ⊎ (length rates ≢ length h.rates)
    ⊎ (length lengths ≢ length (lengths_in h)) ⊎ (length text ≢ length (text_in h))
