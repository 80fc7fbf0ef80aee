-- Worked examples, computed by the definitions.
use Rattle.std.proofs.Common.{ℕ, ◌≡◌, refl, Bool, true, false, List, [], ◌∷◌, ◌++◌, Some, None, Ok, Err, Option, ℤ, pos, negsuc, lit≤, map}
use Rattle.comtrade_values.specs.Spelling.{Number}
use Rattle.dfr_channels.specs.Parts.{AnalogParts, StatusParts, SetupParts, ScanParts}
use Rattle.dfr_channels.specs.Scans.{scan_fault}
use Rattle.dfr_channels.specs.Firing.{holds, lowest_holding, names_channel, rules_fit}
use Rattle.dfr_channels.specs.declared.channel.Side.TheVariants.{Primary}
use Rattle.dfr_channels.specs.declared.scan.Reading.{Reading}
use Rattle.dfr_channels.specs.declared.scan.Reading.TheVariants.{Value, Missing}
use Rattle.dfr_channels.specs.declared.rule.Rule.{Rule}
use Rattle.dfr_channels.specs.declared.rule.Rule.TheVariants as rule
use Rattle.dfr_recorder.specs.declared.limits.Limits.{Limits}
use Rattle.dfr_recorder.specs.declared.limits.LimitFault.TheVariants.{Pre, Post, Longest, Shelf, Stamp}
use Rattle.dfr_recorder.specs.declared.record.Cause.{Cause}
use Rattle.dfr_recorder.specs.declared.record.Cause.TheVariants as cause
use Rattle.dfr_recorder.specs.declared.step.Hit.{Hit}
use Rattle.dfr_recorder.specs.declared.step.Hit.TheVariants as hit
use Rattle.dfr_recorder.specs.declared.step.ScanRefusal.TheVariants as refusal
use Rattle.dfr_recorder.specs.declared.step.TriggerFault.TheVariants as fault
use Rattle.dfr_recorder.specs.Limits.{limit_fault}
use Rattle.dfr_recorder.specs.Steps.{StepParts}
use Rattle.dfr_recorder.specs.Steps as step
use Rattle.dfr_recorder.specs.Answers.{AnswerParts}
use Rattle.dfr_recorder.specs.Answers as answer
use Rattle.dfr_recorder.specs.History.{Opening, opening}
use Rattle.dfr_recorder.specs.Kept.{kept, held}
use Rattle.dfr_recorder.specs.Run.{replies}

abbrev zero_number : Number
zero_number = record { units = pos 0; places = 0 }

abbrev analog_channel : AnalogParts
analog_channel = record {
  id = [];
  phase = [];
  component = [];
  unit = 65 ∷ [];
  a = zero_number;
  b = zero_number;
  skew = zero_number;
  min = negsuc 32766;
  max = pos 32767;
  primary = zero_number;
  secondary = zero_number;
  side = Primary;
}

abbrev status_channel : StatusParts
status_channel = record { id = []; phase = []; component = []; normal = false }

abbrev layout : List StatusParts → ℕ → ℤ → SetupParts
layout status rate start = record { station = []; device = []; analog = analog_channel ∷ []; status = status; line_freq = zero_number; rate = rate; start = start }

abbrev one_channel : SetupParts
one_channel = layout [] 1000 (pos 0)

abbrev one_of_each : SetupParts
one_of_each = layout (status_channel ∷ []) 1000 (pos 0)

abbrev limits_2_2_6_1 : Limits
limits_2_2_6_1 = record { pre = 2; post = 2; longest = 6; shelf = 1; unshared = false; some = (lit≤ tt, lit≤ tt); fit = (lit≤ tt, lit≤ tt); few = lit≤ tt; early = lit≤ tt }

abbrev limits_2_2_6_2 : Limits
limits_2_2_6_2 = record { pre = 2; post = 2; longest = 6; shelf = 2; unshared = false; some = (lit≤ tt, lit≤ tt); fit = (lit≤ tt, lit≤ tt); few = lit≤ tt; early = lit≤ tt }

abbrev limits_2_2_8_1 : Limits
limits_2_2_8_1 = record { pre = 2; post = 2; longest = 8; shelf = 1; unshared = false; some = (lit≤ tt, lit≤ tt); fit = (lit≤ tt, lit≤ tt); few = lit≤ tt; early = lit≤ tt }

abbrev limits_0_3_4_1 : Limits
limits_0_3_4_1 = record { pre = 0; post = 3; longest = 4; shelf = 1; unshared = false; some = (lit≤ tt, lit≤ tt); fit = (lit≤ tt, lit≤ tt); few = lit≤ tt; early = lit≤ tt }

abbrev limits_0_1_2_1 : Limits
limits_0_1_2_1 = record { pre = 0; post = 1; longest = 2; shelf = 1; unshared = false; some = (lit≤ tt, lit≤ tt); fit = (lit≤ tt, lit≤ tt); few = lit≤ tt; early = lit≤ tt }

abbrev no_rules : List Rule
no_rules = []

abbrev over_100 : List Rule
over_100 = rule.Level 0 true (pos 100) ∷ []

abbrev value : ℕ → ScanParts
value n = record { analog = Value (pos n) ∷ []; status = [] }

abbrev scan : ℕ → StepParts
scan n = step.Scan (value n)

abbrev read : Reading → StepParts
read reading = step.Scan (record { analog = reading ∷ []; status = [] })

abbrev with_bit : ℕ → Bool → StepParts
with_bit n b = step.Scan (record { analog = Value (pos n) ∷ []; status = b ∷ [] })

abbrev idle : ℕ → AnswerParts
idle n = answer.Scan (Ok (record { number = n; trigger = None; closed = None }))

abbrev closes : ℕ → ℕ → AnswerParts
closes n record_number = answer.Scan (Ok (record { number = n; trigger = None; closed = Some record_number }))

abbrev fired : ℕ → Hit → Option ℕ → AnswerParts
fired n h closed = answer.Scan (Ok (record { number = n; trigger = Some h; closed = closed }))

abbrev opened_by_hand : ℕ → AnswerParts
opened_by_hand record_number = answer.Trigger (Ok (hit.Opened record_number))

abbrev taken : ℕ → ℕ → ℕ → ℕ → Cause → List ℕ → AnswerParts
taken number first trigger last by values =
    answer.Take (Some (record { extent = record { number = number; first = first; trigger = trigger; last = last; cause = by }; scans = map value values }))

abbrev first_opening : Opening
first_opening = opening one_channel limits_2_2_6_1 no_rules

-- the steps up to the closing of the first record
abbrev first_steps : List StepParts
first_steps = scan 10 ∷ scan 11 ∷ scan 12 ∷ scan 13 ∷ step.Trigger ∷ scan 14 ∷ scan 15 ∷ []

abbrev first_answers : List AnswerParts
first_answers = idle 0 ∷ idle 1 ∷ idle 2 ∷ idle 3 ∷ opened_by_hand 1 ∷ idle 4 ∷ closes 5 1 ∷ []

abbrev first_record : AnswerParts
first_record = taken 1 1 3 5 cause.Manual (11 ∷ 12 ∷ 13 ∷ 14 ∷ 15 ∷ [])

-- a manual trigger, with the scans before and after it
pub one_record : replies first_opening [] (first_steps ++ step.Take ∷ []) ≡ first_answers ++ first_record ∷ []
unfolding scan_fault lowest_holding holds
one_record = refl

-- fewer scans before it than there may be
pub short_record : replies first_opening [] (scan 10 ∷ step.Trigger ∷ scan 11 ∷ scan 12 ∷ step.Take ∷ [])
    ≡ idle 0 ∷ opened_by_hand 1 ∷ idle 1 ∷ closes 2 1 ∷ taken 1 0 0 2 cause.Manual (10 ∷ 11 ∷ 12 ∷ []) ∷ []
unfolding scan_fault lowest_holding holds
short_record = refl

-- nothing scanned
pub nothing : replies first_opening [] (step.Trigger ∷ step.Take ∷ []) ≡ answer.Trigger (Err fault.NoScan) ∷ answer.Take None ∷ []
nothing = refl

abbrev high_steps : List StepParts
high_steps = scan 0 ∷ scan 0 ∷ scan 0 ∷ scan 100 ∷ scan 100 ∷ scan 100 ∷ scan 100 ∷ scan 100 ∷ []

-- a rule that fires on goes to the greatest length
pub at_limit : replies (opening one_channel limits_2_2_6_2 over_100) [] (high_steps ++ step.Take ∷ [])
    ≡ idle 0 ∷ idle 1 ∷ idle 2 ∷ fired 3 (hit.Opened 1) None ∷ fired 4 (hit.Extended 1) None ∷ fired 5 (hit.AtLimit 1) None
    ∷ fired 6 (hit.AtLimit 1) (Some 1) ∷ fired 7 (hit.Opened 2) None ∷ taken 1 1 3 6 (cause.Rule 0) (0 ∷ 0 ∷ 100 ∷ 100 ∷ 100 ∷ 100 ∷ []) ∷ []
unfolding scan_fault lowest_holding holds
at_limit = refl

-- the record after it, from the scans that it shares
pub next_record : replies (opening one_channel limits_2_2_6_2 over_100) [] (high_steps ++ scan 0 ∷ scan 0 ∷ step.Take ∷ step.Take ∷ [])
    ≡ idle 0 ∷ idle 1 ∷ idle 2 ∷ fired 3 (hit.Opened 1) None ∷ fired 4 (hit.Extended 1) None ∷ fired 5 (hit.AtLimit 1) None
    ∷ fired 6 (hit.AtLimit 1) (Some 1) ∷ fired 7 (hit.Opened 2) None ∷ idle 8 ∷ closes 9 2
    ∷ taken 1 1 3 6 (cause.Rule 0) (0 ∷ 0 ∷ 100 ∷ 100 ∷ 100 ∷ 100 ∷ []) ∷ taken 2 5 7 9 (cause.Rule 0) (100 ∷ 100 ∷ 100 ∷ 0 ∷ 0 ∷ []) ∷ []
unfolding scan_fault lowest_holding holds
next_record = refl

-- the same with a shelf of one record, which is full
pub shelf_full : replies (opening one_channel limits_2_2_6_1 over_100) [] high_steps
    ≡ idle 0 ∷ idle 1 ∷ idle 2 ∷ fired 3 (hit.Opened 1) None ∷ fired 4 (hit.Extended 1) None ∷ fired 5 (hit.AtLimit 1) None
    ∷ fired 6 (hit.AtLimit 1) (Some 1) ∷ fired 7 hit.ShelfFull None ∷ []
unfolding scan_fault lowest_holding holds
shelf_full = refl

-- a record's last scan fires, and so isn't the last
pub extended_at_last : replies (opening one_channel limits_2_2_8_1 over_100) [] (scan 0 ∷ scan 0 ∷ scan 0 ∷ scan 100 ∷ scan 0 ∷ scan 100 ∷ scan 0 ∷ scan 0 ∷ step.Take ∷ [])
    ≡ idle 0 ∷ idle 1 ∷ idle 2 ∷ fired 3 (hit.Opened 1) None ∷ idle 4 ∷ fired 5 (hit.Extended 1) None ∷ idle 6 ∷ closes 7 1
    ∷ taken 1 1 3 7 (cause.Rule 0) (0 ∷ 0 ∷ 100 ∷ 0 ∷ 100 ∷ 0 ∷ 0 ∷ []) ∷ []
unfolding scan_fault lowest_holding holds
extended_at_last = refl

-- two records share scans
pub shared_scans : replies (opening one_channel limits_2_2_6_2 no_rules) [] (first_steps ++ step.Trigger ∷ scan 16 ∷ scan 17 ∷ step.Take ∷ step.Take ∷ [])
    ≡ first_answers ++ opened_by_hand 2 ∷ idle 6 ∷ closes 7 2 ∷ first_record ∷ taken 2 3 5 7 cause.Manual (13 ∷ 14 ∷ 15 ∷ 16 ∷ 17 ∷ []) ∷ []
unfolding scan_fault lowest_holding holds
shared_scans = refl

-- a full shelf refuses a manual trigger, until a record is taken
pub taken_first : replies first_opening [] (first_steps ++ step.Trigger ∷ step.Take ∷ step.Trigger ∷ [])
    ≡ first_answers ++ answer.Trigger (Err fault.ShelfFull) ∷ first_record ∷ opened_by_hand 2 ∷ []
unfolding scan_fault lowest_holding holds
taken_first = refl

-- the same two under unshared limits: a manual trigger is refused until a scan comes that no record has, and the next record begins there
abbrev covered : AnswerParts
covered = answer.Trigger (Err fault.Covered)

pub no_shared_scans : replies (opening one_channel (record limits_2_2_6_2 { unshared = true }) no_rules) [] (first_steps ++ step.Trigger ∷ scan 16 ∷ step.Trigger ∷ scan 17 ∷ scan 18 ∷ step.Take ∷ step.Take ∷ [])
    ≡ first_answers ++ covered ∷ idle 6 ∷ opened_by_hand 2 ∷ idle 7 ∷ closes 8 2 ∷ first_record ∷ taken 2 6 6 8 cause.Manual (16 ∷ 17 ∷ 18 ∷ []) ∷ []
unfolding scan_fault lowest_holding holds
no_shared_scans = refl

pub covered_before_full : replies (opening one_channel (record limits_2_2_6_1 { unshared = true }) no_rules) [] (first_steps ++ step.Trigger ∷ step.Take ∷ step.Trigger ∷ scan 16 ∷ step.Trigger ∷ [])
    ≡ first_answers ++ covered ∷ first_record ∷ covered ∷ idle 6 ∷ opened_by_hand 2 ∷ []
unfolding scan_fault lowest_holding holds
covered_before_full = refl

-- a scan that fires is never covered
pub fired_unshared : replies (opening one_channel (record limits_2_2_6_2 { unshared = true }) over_100) [] (high_steps ++ scan 0 ∷ scan 0 ∷ step.Take ∷ step.Take ∷ [])
    ≡ idle 0 ∷ idle 1 ∷ idle 2 ∷ fired 3 (hit.Opened 1) None ∷ fired 4 (hit.Extended 1) None ∷ fired 5 (hit.AtLimit 1) None
    ∷ fired 6 (hit.AtLimit 1) (Some 1) ∷ fired 7 (hit.Opened 2) None ∷ idle 8 ∷ closes 9 2
    ∷ taken 1 1 3 6 (cause.Rule 0) (0 ∷ 0 ∷ 100 ∷ 100 ∷ 100 ∷ 100 ∷ []) ∷ taken 2 7 7 9 (cause.Rule 0) (100 ∷ 0 ∷ 0 ∷ []) ∷ []
unfolding scan_fault lowest_holding holds
fired_unshared = refl

-- another rate, and none before the trigger
pub none_before : replies (opening (layout [] 4800 (pos 0)) limits_0_3_4_1 no_rules) [] (scan 1 ∷ step.Trigger ∷ scan 2 ∷ scan 3 ∷ scan 4 ∷ step.Take ∷ [])
    ≡ idle 0 ∷ opened_by_hand 1 ∷ idle 1 ∷ idle 2 ∷ closes 3 1 ∷ taken 1 0 0 3 cause.Manual (1 ∷ 2 ∷ 3 ∷ 4 ∷ []) ∷ []
unfolding scan_fault lowest_holding holds
none_before = refl

-- the year 9999 ends
pub clock_end : replies (opening (layout [] 1 (pos 253402300798999999)) limits_0_1_2_1 no_rules) [] (scan 1 ∷ step.Trigger ∷ scan 2 ∷ scan 3 ∷ scan 3 ∷ step.Take ∷ [])
    ≡ idle 0 ∷ opened_by_hand 1 ∷ closes 1 1 ∷ answer.Scan (Err refusal.ClockEnd) ∷ answer.Scan (Err refusal.ClockEnd) ∷ taken 1 0 0 1 cause.Manual (1 ∷ 2 ∷ []) ∷ []
unfolding scan_fault lowest_holding holds
clock_end = refl

-- an edge is seen from the second scan on, and the lowest rule is the cause
pub rise : replies (opening one_of_each limits_0_1_2_1 (rule.Edge 0 true ∷ rule.Level 0 true (pos 5) ∷ [])) [] (with_bit 0 true ∷ with_bit 0 false ∷ with_bit 9 true ∷ with_bit 0 false ∷ step.Take ∷ [])
    ≡ idle 0 ∷ idle 1 ∷ fired 2 (hit.Opened 1) None ∷ closes 3 1
    ∷ answer.Take (Some (record {
      extent = record { number = 1; first = 2; trigger = 2; last = 3; cause = cause.Rule 0 };
      scans = record { analog = Value (pos 9) ∷ []; status = true ∷ [] } ∷ record { analog = Value (pos 0) ∷ []; status = false ∷ [] } ∷ [];
    })) ∷ []
unfolding scan_fault lowest_holding holds
rise = refl

pub fall : replies (opening one_of_each limits_0_1_2_1 (rule.Edge 0 false ∷ rule.Level 0 true (pos 5) ∷ [])) [] (with_bit 0 true ∷ with_bit 0 false ∷ [])
    ≡ idle 0 ∷ fired 1 (hit.Opened 1) None ∷ []
unfolding scan_fault lowest_holding holds
fall = refl

-- a missing reading never fires
pub missing : replies (opening one_channel limits_2_2_6_1 (rule.Level 0 false (pos 0) ∷ [])) [] (read Missing ∷ scan 0 ∷ []) ≡ idle 0 ∷ fired 1 (hit.Opened 1) None ∷ []
unfolding scan_fault lowest_holding holds
missing = refl

-- refused scans have no number
pub refused_scans : replies first_opening [] (step.Scan (record { analog = Value (pos 1) ∷ Value (pos 2) ∷ []; status = [] }) ∷ scan 32768 ∷ scan 1 ∷ [])
    ≡ answer.Scan (Err refusal.Shape) ∷ answer.Scan (Err (refusal.Range 0)) ∷ idle 0 ∷ []
unfolding scan_fault lowest_holding holds
refused_scans = refl

-- rules that name no channel of the layout change nothing
pub other_rules : replies first_opening [] (step.SetRules (rule.Edge 0 true ∷ []) ∷ step.SetRules (rule.Level 0 true (pos 5) ∷ []) ∷ scan 9 ∷ [])
    ≡ answer.SetRules false ∷ answer.SetRules true ∷ fired 0 (hit.Opened 1) None ∷ []
unfolding scan_fault lowest_holding holds rules_fit names_channel
other_rules = refl

-- how many scans are held after each step
abbrev held_after : Opening → List StepParts → List StepParts → List ℕ
held_after o h [] = []
held_after o h (s ∷ ss) = held (kept o (s ∷ h)) ∷ held_after o (s ∷ h) ss

pub held_one_record : held_after first_opening [] (first_steps ++ step.Take ∷ []) ≡ 1 ∷ 2 ∷ 3 ∷ 3 ∷ 6 ∷ 7 ∷ 8 ∷ 3 ∷ []
unfolding scan_fault lowest_holding holds
held_one_record = refl

pub held_short_record : held_after first_opening [] (scan 10 ∷ step.Trigger ∷ scan 11 ∷ scan 12 ∷ step.Take ∷ []) ≡ 1 ∷ 2 ∷ 4 ∷ 6 ∷ 3 ∷ []
unfolding scan_fault lowest_holding holds
held_short_record = refl

pub held_at_limit : held_after (opening one_channel limits_2_2_6_2 over_100) [] high_steps ≡ 1 ∷ 2 ∷ 3 ∷ 6 ∷ 7 ∷ 8 ∷ 9 ∷ 12 ∷ []
unfolding scan_fault lowest_holding holds
held_at_limit = refl

-- limits at one scan a second
pub limits_at_1 : map (λ (q : ℕ × ℕ × ℕ × ℕ). limit_fault 1 q.0 q.1 q.2 q.3) ((100001, 1, 1000000, 1) ∷ (0, 0, 1, 1) ∷ (2, 2, 4, 1) ∷ (0, 1, 2, 65) ∷ (0, 1, 4296, 1) ∷ (0, 1, 4295, 1) ∷ [])
    ≡ Some Pre ∷ Some Post ∷ Some Longest ∷ Some Shelf ∷ Some Stamp ∷ None ∷ []
limits_at_1 = refl
