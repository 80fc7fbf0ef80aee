-- The text of metrics, in the format of Prometheus.
use Rattle.std.specs.Prelude.{ℕ, ◌/◌, ◌%◌, ◌==◌, ◌||◌, Bool, true, false, if◌then◌else◌, List, [], ◌∷◌, ◌++◌, flat_map, codes, decimal, Option, Some, None}
use Rattle.comtrade_values.specs.Written.{padded}
use Rattle.dfr_station.specs.declared.event.Trouble.{Trouble}
use Rattle.dfr_station.specs.declared.event.Trouble.TheVariants as trouble
use Rattle.dfr_health.specs.declared.counts.Lost.{Lost}
use Rattle.dfr_health.specs.declared.counts.Unwritten.{Unwritten}

-- a byte of a label's value: quotes and backslashes have a backslash before them, a line feed is \n
abbrev pub escaped_byte : ℕ → List ℕ
escaped_byte b =
    if b == 10 then 92 ∷ 110 ∷ []
    else if (b == 34) || (b == 92) then 92 ∷ b ∷ []
    else b ∷ []

abbrev pub escaped : List ℕ → List ℕ
escaped name = flat_map escaped_byte name

-- a metric's help and its type
unfoldable pub head_text : List ℕ → List ℕ → List ℕ → List ℕ
head_text name kind help =
    codes "# HELP " ++ name ++ codes " " ++ help
    ++ codes "\n# TYPE " ++ name ++ codes " " ++ kind ++ codes "\n"

-- a metric's name and its labels: the station's name, which is escaped here, and then these
unfoldable pub labels_text : List ℕ → List ℕ → List ℕ → List ℕ
labels_text name station more = name ++ codes "{station=\"" ++ station ++ codes "\"" ++ more ++ codes "} "

unfoldable pub sample_text : List ℕ → List ℕ → List ℕ → ℕ → List ℕ
sample_text name station more value = labels_text name station more ++ decimal value ++ codes "\n"

-- a counter and a gauge of one sample
abbrev pub counter_text : List ℕ → List ℕ → List ℕ → ℕ → List ℕ
counter_text station name help value = head_text name (codes "counter") help ++ sample_text name station [] value

abbrev pub gauge_text : List ℕ → List ℕ → List ℕ → ℕ → List ℕ
gauge_text station name help value = head_text name (codes "gauge") help ++ sample_text name station [] value

abbrev pub sign_text : Bool → List ℕ
sign_text true = codes "-"
sign_text false = []

-- a gauge in seconds, from its sign and its microseconds
abbrev pub seconds_text : List ℕ → List ℕ → List ℕ → Bool → ℕ → List ℕ
seconds_text station name help is_negative micros =
    head_text name (codes "gauge") help ++ labels_text name station [] ++ sign_text is_negative
    ++ decimal (micros / 1_000_000) ++ codes "." ++ padded 6 (micros % 1_000_000) ++ codes "\n"

-- a gauge from its sign and its thousandths
abbrev pub thousandths_text : List ℕ → List ℕ → List ℕ → Bool → ℕ → List ℕ
thousandths_text station name help is_negative thousandths =
    head_text name (codes "gauge") help ++ labels_text name station [] ++ sign_text is_negative
    ++ decimal (thousandths / 1_000) ++ codes "." ++ padded 3 (thousandths % 1_000) ++ codes "\n"

-- the samples of a metric for each reason: of scans that could not be used
abbrev pub unusable_text : List ℕ → List ℕ → Lost → List ℕ
unusable_text station name l =
    sample_text name station (codes ",reason=\"told\"") l.told
    ++ sample_text name station (codes ",reason=\"unread\"") l.unread
    ++ sample_text name station (codes ",reason=\"shape\"") l.shape
    ++ sample_text name station (codes ",reason=\"range\"") l.range

-- of scans that found no room, or did not come
abbrev pub missing_text : List ℕ → List ℕ → Lost → List ℕ
missing_text station name l =
    sample_text name station (codes ",reason=\"full\"") l.full
    ++ sample_text name station (codes ",reason=\"memory\"") l.memory
    ++ sample_text name station (codes ",reason=\"counted\"") l.counted
    ++ sample_text name station (codes ",reason=\"silent\"") l.silent

abbrev pub lost_text : List ℕ → List ℕ → Lost → List ℕ
lost_text station name l = unusable_text station name l ++ missing_text station name l

-- the reasons for which the store took no pair
abbrev pub refused_text : List ℕ → List ℕ → Unwritten → List ℕ
refused_text station name u =
    sample_text name station (codes ",reason=\"full\"") u.full
    ++ sample_text name station (codes ",reason=\"gone\"") u.gone
    ++ sample_text name station (codes ",reason=\"denied\"") u.denied
    ++ sample_text name station (codes ",reason=\"memory\"") u.memory

-- the other reasons
abbrev pub dropped_text : List ℕ → List ℕ → Unwritten → List ℕ
dropped_text station name u =
    sample_text name station (codes ",reason=\"other\"") u.other
    ++ sample_text name station (codes ",reason=\"storm\"") u.storm
    ++ sample_text name station (codes ",reason=\"unfinished\"") u.unfinished

abbrev pub unwritten_text : List ℕ → List ℕ → Unwritten → List ℕ
unwritten_text station name u = refused_text station name u ++ dropped_text station name u
