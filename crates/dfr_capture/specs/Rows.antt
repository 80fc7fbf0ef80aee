-- The lines of a scan, as `dfrd` reads them. A scan has what came of each stream, or None.
use Rattle.std.specs.Prelude.{ℕ, zero, suc, ℤ, ◌+◌, ◌*◌, ◌/◌, ◌==◌, ◌&&◌, Bool, nat_lt, List, [], ◌∷◌, ◌++◌, length, map, take, drop, codes, decimal, slice_index_or, Option, Some, None, Result, Ok, Err, if◌then◌else◌}
use Rattle.std.specs.Fmt.{signed_decimal}
use Rattle.dfr_bay.specs.declared.channel.Channel.{Channel}
use Rattle.dfr_bay.specs.declared.channel.Lost.{Lost}
use Rattle.dfr_bay.specs.Readings.{reading}
use Rattle.dfr_capture.specs.declared.plan.Dating.{Dating}
use Rattle.dfr_capture.specs.declared.plan.Dating.TheVariants.{Synchronised, Stamps}
use Rattle.dfr_capture.specs.declared.feed.LostReading.{LostReading}
use Rattle.dfr_capture.specs.Plans.{PlanParts}
use Rattle.dfr_capture.specs.Units.{UnitParts, sample_in, first_unit}

-- the reading of a channel in a scan
abbrev pub reading_in : List (Option UnitParts) → Channel → Result ℤ Lost
reading_in scan c = reading c (sample_in (slice_index_or scan c.stream None) c.index)

-- a reading, or an asterisk where there is none
abbrev pub reading_text : Result ℤ Lost → List ℕ
reading_text (Ok value) = signed_decimal value
reading_text (Err lost) = codes "*"

-- commas stand between readings
abbrev pub comma : ℕ → List ℕ
comma zero = []
comma (suc n) = codes ","

-- the readings of channels, of which the first is channel n
unfoldable pub readings_text : List (Option UnitParts) → ℕ → List Channel → List ℕ
readings_text scan n [] = []
readings_text scan n (c ∷ cs) = comma n ++ reading_text (reading_in scan c) ++ readings_text scan (n + 1) cs

abbrev pub bit_text : Bool → ℕ
bit_text on = if on then 49 else 48

unfoldable pub scan_text : PlanParts → List (Option UnitParts) → List Bool → List ℕ
scan_text p scan bits = codes "scan " ++ readings_text scan 0 p.channels ++ codes "/" ++ map bit_text bits ++ codes "\n"

-- the second nearest to a nanosecond, in microseconds
abbrev pub second_of : ℕ → ℕ
second_of time = (time + 500_000_000) / 1_000_000_000 * 1_000_000

-- Sample 0 of a stream that is synchronised to a global clock is the top of a second: that nearest to the capture's time. Or each sample 0 has
-- the capture's time.
unfoldable pub told_by : Dating → UnitParts → Option ℕ
told_by Synchronised u = if u.asdu.smp_cnt == 0 && u.asdu.smp_synch == 2 then Some (second_of u.time) else None
told_by Stamps u = if u.asdu.smp_cnt == 0 then Some (u.time / 1000) else None

abbrev pub time_text : Option ℕ → List ℕ
time_text None = []
time_text (Some instant) = codes "time " ++ decimal instant ++ codes "\n"

-- a scan of which nothing came is lost; another has the states of the contacts when the first of it came
unfoldable pub row_by : PlanParts → List (Option UnitParts) → Option UnitParts → List ℕ
row_by p scan None = codes "lost\n"
row_by p scan (Some u) = time_text (told_by p.dating u) ++ scan_text p scan u.bits

abbrev pub row : PlanParts → List (Option UnitParts) → List ℕ
row p scan = row_by p scan (first_unit scan)

-- the readings that are missing in a scan that isn't lost, with their channels
abbrev pub lost_of : ℕ → Result ℤ Lost → List LostReading
lost_of n (Ok value) = []
lost_of n (Err why) = record { channel = n; why = why } ∷ []

unfoldable pub lost_readings : List (Option UnitParts) → ℕ → List Channel → List LostReading
lost_readings scan n [] = []
lost_readings scan n (c ∷ cs) = lost_of n (reading_in scan c) ++ lost_readings scan (n + 1) cs

abbrev pub missing_by : PlanParts → List (Option UnitParts) → Option UnitParts → List LostReading
missing_by p scan None = []
missing_by p scan (Some u) = lost_readings scan 0 p.channels

abbrev pub missing_in : PlanParts → List (Option UnitParts) → List LostReading
missing_in p scan = missing_by p scan (first_unit scan)

-- of scans of so many streams, one after the other, what each gives; at most so many are left
unfoldable pub of_scans : {X Y : Type 0} → (List X → List Y) → (streams left : ℕ) → List X → List Y
of_scans f streams zero samples = []
of_scans f streams (suc left) samples =
    if nat_lt (length samples) streams then [] else f (take streams samples) ++ of_scans f streams left (drop streams samples)

abbrev pub each_scan : {X Y : Type 0} → (List X → List Y) → (streams : ℕ) → List X → List Y
each_scan f streams samples = of_scans f streams (length samples) samples
