-- Settings without a fault fit.
use Rattle.std.proofs.Common.{◌≡◌, refl, ℕ, Bool, true, false, leb, ◌&&◌, Option, Some, None}
use Rattle.std.proofs.lemmas.Bool.{and_parts, leb-true}
use Rattle.comtrade_values.specs.Faults.{◌or◌, fault_unless}
use Rattle.dfr_channels.proofs.Lawful.{or-none, unless-none}
use Rattle.dfr_detect.specs.Fitting.{is_level, most_level, has_reset, test_fault, least_of, has_order, wave_fault, condition_fault, settings_fault, FitsTest, FitsWaves, FitsCondition, Fits}
use Rattle.dfr_detect.specs.declared.settings.Condition.{Condition}
use Rattle.dfr_detect.specs.declared.settings.Condition.TheVariants.{RmsOver, RmsUnder, Change, Jump, Frequency, Waves}
use Rattle.dfr_detect.specs.declared.settings.FrequencyTest.{FrequencyTest}
use Rattle.dfr_detect.specs.declared.settings.WaveTest.{WaveTest}
use Rattle.dfr_detect.specs.declared.settings.Settings.{Settings}
use Rattle.dfr_detect.specs.declared.settings.SettingsFault.TheVariants.{Scans, Cycles, Rate, Period, Order, Least, Level, Reset, Short, Row}

test_fits : (t : FrequencyTest) → test_fault t ≡ None → FitsTest t
test_fits t h =
    let cycles = unless-none (leb 1 t.cycles && leb t.cycles 64) Cycles (or-none _ _ h).0 in
    let rate = unless-none (leb 1 t.rate && leb t.rate 1_000_000) Rate ((or-none _ _ (or-none _ _ h).1).0) in
    record { few = leb-true t.cycles 64 (and_parts _ _ cycles).1; rate = leb-true t.rate 1_000_000 (and_parts _ _ rate).1 }

waves_fit : (t : WaveTest) (n : ℕ) → wave_fault t n ≡ None → FitsWaves t n
waves_fit t n h =
    let period = unless-none (leb 12 n && leb n 4096) Period (or-none _ _ h).0 in
    let least = unless-none (is_level 1_099_511_627_776 (least_of t)) Least ((or-none _ _ (or-none _ _ h).1).1) in
    record {
      some = leb-true 12 n (and_parts _ _ period).0;
      few = leb-true n 4096 (and_parts _ _ period).1;
      least = leb-true (least_of t) 1_099_511_627_776 (and_parts _ _ least).1;
    }

condition_fits : (condition : Condition) (n : ℕ) → condition_fault condition n ≡ None → FitsCondition condition n
condition_fits RmsOver n h = tt
condition_fits RmsUnder n h = tt
condition_fits Change n h = tt
condition_fits Jump n h = tt
condition_fits (Frequency t) n h = test_fits t h
condition_fits (Waves t) n h = waves_fit t n h

pub settings_fit : (s : Settings) → settings_fault s ≡ None → Fits s
settings_fit s h =
    let most = most_level s.condition in
    let scans = unless-none (leb 1 s.scans && leb s.scans 65_536) Scans (or-none _ _ h).0 in
    let from_condition = (or-none _ _ h).1 in
    let from_level = (or-none _ _ from_condition).1 in
    let level = unless-none (is_level most s.level) Level (or-none _ _ from_level).0 in
    let from_reset = (or-none _ _ from_level).1 in
    let reset = unless-none (is_level most s.reset && has_reset s.condition s.level s.reset) Reset (or-none _ _ from_reset).0 in
    let from_cycles = (or-none _ _ from_reset).1 in
    let row = unless-none (leb 1 s.row) Row (or-none _ _ from_cycles).1 in
    record {
      some = leb-true 1 s.scans (and_parts _ _ scans).0;
      few = leb-true s.scans 65_536 (and_parts _ _ scans).1;
      condition = condition_fits s.condition s.scans (or-none _ _ from_condition).0;
      level = leb-true s.level most (and_parts _ _ level).1;
      reset = leb-true s.reset most (and_parts (leb 1 s.reset) (leb s.reset most) (and_parts _ _ reset).0).1;
      row = leb-true 1 s.row row;
    }
