-- The detectors that the lines of a set-up ask for.
use Rattle.std.specs.Prelude.{ℕ, ◌+◌, ◌==◌, Bool, false, not, ◌&&◌, ◌||◌, nat_lt, is_some, if◌then◌else◌, List, [], ◌∷◌, ◌++◌, length, map, Option, option_map, Result, Ok, Err}
use Rattle.std.specs.List.{slice_split, list_any}
use Rattle.std.specs.Str.{bytes_eq}
use Rattle.comtrade_values.specs.Faults.{◌or◌, fault_unless}
use Rattle.comtrade_values.specs.Lines.{field}
use Rattle.comtrade_values.specs.Spelling.{Number, whole_number}
use Rattle.comtrade_values.specs.Texts.{is_plain}
use Rattle.dfr_channels.specs.LineFields.{and_then, need}
use Rattle.dfr_channels.specs.Parts.{AnalogParts, SetupParts, StatusParts}
use Rattle.dfr_detect.specs.Detection.{Wanted, wanted}
use Rattle.dfr_detect.specs.Fitting.{settings_fault}
use Rattle.dfr_detect.specs.declared.settings.Settings.{Settings}
use Rattle.dfr_detect.specs.declared.settings.SettingsFault.{SettingsFault}
use Rattle.dfr_detect.specs.declared.settings.SettingsFault.TheVariants.{Scans, Cycles, Rate, Period, Order, Least, Level, Reset, Short, Row}
use Rattle.dfr_setup.specs.Addends.{SumParts, no_sum}
use Rattle.dfr_setup.specs.Addends as addends
use Rattle.dfr_setup.specs.Quantities.{level_in, least_in, one_of, periods, reach, window_in, within}
use Rattle.dfr_setup.specs.Refusing.{unless}
use Rattle.dfr_setup.specs.Tests.{condition_of, has_phases}
use Rattle.dfr_setup.specs.Units.{has_units}
use Rattle.dfr_setup.specs.Wishes.{is_detect, is_go, words, wish}
use Rattle.dfr_setup.specs.declared.fault.DetectorFault.{DetectorFault}
use Rattle.dfr_setup.specs.declared.fault.DetectorFault.TheVariants as fault
use Rattle.dfr_setup.specs.declared.tested.Test.{Test}
use Rattle.dfr_setup.specs.declared.wish.Wish.{Wish}

-- a detector: the name of its status channel, what it is asked, and its levels in the channels' unit, in Hz or in percent
pub record PlanParts : Type 0 where
  pub name : List ℕ
  pub test : Test
  pub settings : Settings
  pub channels : List ℕ
  pub level : Number
  pub reset : Number
  pub least : Number

abbrev pub wanted_of : PlanParts → Wanted
wanted_of p = wanted p.settings p.channels

-- ---- names

-- a contact has this name, or a detector
abbrev pub is_contact : List StatusParts → List ℕ → Bool
is_contact status name = list_any (λ c. bytes_eq c.id name) status

abbrev pub is_detector : List PlanParts → List ℕ → Bool
is_detector have name = list_any (λ p. bytes_eq p.name name) have

abbrev pub is_taken : List StatusParts → List PlanParts → List ℕ → Bool
is_taken status have name = is_contact status name || is_detector have name

-- why no further detector may have this name
abbrev pub name_fault : List StatusParts → List PlanParts → List ℕ → Option DetectorFault
name_fault status have name =
    fault_unless (is_plain 1 64 name && not (is_some (whole_number name))) fault.Name
    or fault_unless (not (is_taken status have name)) fault.Twice
    or fault_unless (nat_lt (length status + length have) 256) fault.Channels

-- the name of a line's only detector is that of the line; each of several has its channels behind it
abbrev pub name_of : Bool → List ℕ → List ℕ → List ℕ
name_of is_only base sum = if is_only then base else base ++ 45 ∷ sum

-- ---- one detector

-- a fault of settings is one of the line
abbrev pub of_settings : SettingsFault → DetectorFault
of_settings Scans = fault.Window
of_settings Cycles = fault.Cycles
of_settings Rate = fault.Rate
of_settings Period = fault.Period
of_settings Order = fault.Order
of_settings Least = fault.Least
of_settings Level = fault.Level
of_settings Reset = fault.Side
of_settings Short = fault.Short
of_settings Row = fault.Row

-- the first fault of settings
abbrev pub fault_of : Settings → Option DetectorFault
fault_of s = option_map of_settings (settings_fault s)

abbrev pub checked : Settings → Result Settings DetectorFault
checked s = unless (fault_of s) s

-- what a wish makes of channels with this multiplier, and this greatest size of their sum: levels in samples or mHz, and a window in scans
abbrev pub settings_of : SetupParts → Wish → Option Number → ℕ → Result Settings DetectorFault
settings_of s w multiplier most =
    need multiplier fault.Channel (λ a.
    need (level_in w.test w.level (one_of w.test a) (reach w.test most s.rate)) fault.Level (λ level.
    need (level_in w.test w.reset (one_of w.test a) (reach w.test most s.rate)) fault.Reset (λ reset.
    need (least_in w.test w.least a most) fault.Least (λ least.
    need (within w.cycles 64) fault.Cycles (λ cycles.
    need (window_in w.window (periods w.test cycles) s.rate s.line_freq) fault.Window (λ scans.
    checked (record { condition = condition_of w.test cycles s.rate least; scans = scans; level = level; reset = reset; row = w.row })))))))

-- the same of a wish that these words name, over channels that have the units of its levels
abbrev pub settings_over : SetupParts → Wish → List (List ℕ) → List ℕ → Option Number → ℕ → Result Settings DetectorFault
settings_over s w ws channels multiplier most = if has_units w.test s.analog channels ws w.units then settings_of s w multiplier most else Err fault.Unit

-- the sum that a text names, by channels between plus signs
abbrev pub sum_of : List AnalogParts → Test → List ℕ → Result SumParts DetectorFault
sum_of cs test text = addends.with_words cs test no_sum (slice_split (λ b. b == 43) text)

-- that, if its test takes so many channels
abbrev pub counted : Test → SumParts → Result SumParts DetectorFault
counted test sum =
    if length sum.channels == 0 then Err fault.Channel
    else if has_phases test && not (length sum.channels == 3) then Err fault.Phases
    else Ok sum

abbrev pub whole_sum : List AnalogParts → Test → List ℕ → Result SumParts DetectorFault
whole_sum cs test text = and_then (sum_of cs test text) (λ sum. counted test sum)

abbrev pub plan_of : SetupParts → Wish → List (List ℕ) → List ℕ → List ℕ → Result PlanParts DetectorFault
plan_of s w ws name text =
    and_then (whole_sum s.analog w.test text) (λ sum.
    and_then (settings_over s w ws sum.channels sum.a sum.most) (λ settings.
    Ok (record { name = name; test = w.test; settings = settings; channels = sum.channels; level = w.level; reset = w.reset; least = w.least })))

-- ---- the detectors of a line

-- with one detector more, after those that there are
abbrev pub with_plan : SetupParts → Wish → List (List ℕ) → List PlanParts → List ℕ → List ℕ → Result (List PlanParts) DetectorFault
with_plan s w ws have name text =
    and_then (unless (name_fault s.status have name) name) (λ free.
    and_then (plan_of s w ws free text) (λ plan. Ok (have ++ plan ∷ [])))

-- with one for each of these sums
abbrev pub with_sums : SetupParts → Wish → Bool → List (List ℕ) → List PlanParts → List (List ℕ) → Result (List PlanParts) DetectorFault
with_sums s w is_only ws have [] = Ok have
with_sums s w is_only ws have (text ∷ texts) =
    and_then (with_plan s w ws have (name_of is_only (field ws 1) text) text) (λ more. with_sums s w is_only ws more texts)

-- with those that a wish asks for: one for each sum between commas
abbrev pub with_wish : SetupParts → List PlanParts → List (List ℕ) → Wish → Result (List PlanParts) DetectorFault
with_wish s have ws w =
    let sums = slice_split (λ b. b == 44) (field ws (w.at + 2)) in
    with_sums s w (length sums == 1) ws have sums

-- with those of the words of a line
abbrev pub with_words : SetupParts → List PlanParts → List (List ℕ) → Result (List PlanParts) DetectorFault
with_words s have ws = and_then (wish ws) (λ w. with_wish s have ws w)

-- with those of a line
abbrev pub with_line : SetupParts → List PlanParts → List ℕ → Result (List PlanParts) DetectorFault
with_line s have line = if is_detect line then with_words s have (words line) else Ok have

-- ---- the detectors of a set-up

-- the detectors of lines up to `go`, of which the first is line n; or the first fault and its line
abbrev pub at_line : {A : Type 0} → ℕ → Result A DetectorFault → Result A (ℕ × DetectorFault)
at_line n (Ok x) = Ok x
at_line n (Err f) = Err (n, f)

abbrev pub with_lines : SetupParts → ℕ → List PlanParts → List (List ℕ) → Result (List PlanParts) (ℕ × DetectorFault)
with_lines s n have [] = Ok have
with_lines s n have (line ∷ lines) =
    if is_go line then Ok have
    else and_then (at_line n (with_line s have line)) (λ more. with_lines s (n + 1) more lines)

-- the status channel of a detector
abbrev pub status_of : PlanParts → StatusParts
status_of p = record { id = p.name; phase = []; component = []; normal = false }

-- a set-up with the status channels of its detectors behind the contacts
abbrev pub with_channels : SetupParts → List PlanParts → SetupParts
with_channels s plans = record s { status = s.status ++ map status_of plans }
