-- What the events of a recording come to. A list of them has the newest first.
use Rattle.std.specs.Prelude.{◌≡◌, ℕ, ◌+◌, ◌-◌, ◌^◌, ℤ, min, max, nat_lt, Bool, true, false, if◌then◌else◌, List, [], ◌∷◌, sum_by, Option, Some, None, unwrap_or}
use Rattle.dfr_station.specs.declared.event.ClockState.{ClockState}
use Rattle.dfr_station.specs.declared.event.Event.{Event}
use Rattle.dfr_station.specs.declared.event.Event.TheVariants as event
use Rattle.dfr_station.specs.declared.event.Trouble.{Trouble}
use Rattle.dfr_station.specs.declared.event.Trouble.TheVariants as trouble
use Rattle.dfr_station.specs.declared.intake.feed.Why.{Why}
use Rattle.dfr_station.specs.declared.intake.feed.Why.TheVariants as why
use Rattle.dfr_health.specs.declared.counts.Reason.{Reason}
use Rattle.dfr_health.specs.declared.counts.Reason.TheVariants as reason
use Rattle.dfr_health.specs.declared.counts.Lost.{Lost}
use Rattle.dfr_health.specs.declared.counts.Unwritten.{Unwritten}
use Rattle.dfr_health.specs.declared.counts.Tally.{Tally}
use Rattle.dfr_health.specs.declared.state.State.{State}
use Rattle.dfr_health.specs.declared.standing.Standing.{Standing}

-- ---- sums

-- the sum over all events, which stops at the greatest `u64`
abbrev pub counted : (Event → ℕ) → List Event → ℕ
counted in_event events = min (sum_by in_event events) (2 ^ 64 - 1)

abbrev pub is_for : Reason → Why → Bool
is_for reason.Told why.Told = true
is_for reason.Unread why.Unread = true
is_for reason.Shape why.Shape = true
is_for reason.Range (why.Range channel) = true
is_for reason.Full why.Full = true
is_for reason.Memory why.Memory = true
is_for reason.Counted why.Counted = true
is_for reason.Silent why.Silent = true
is_for r w = false

-- how many scans an event reports as lost for this reason
abbrev pub lost_in : Reason → Event → ℕ
lost_in r (event.Lost first last count w) = if is_for r w then count else 0
lost_in r e = 0

abbrev pub is_same : Trouble → Trouble → Bool
is_same trouble.Full trouble.Full = true
is_same trouble.Gone trouble.Gone = true
is_same trouble.Denied trouble.Denied = true
is_same trouble.Memory trouble.Memory = true
is_same trouble.Other trouble.Other = true
is_same trouble.Storm trouble.Storm = true
is_same x y = false

-- how many records an event reports as given up for this reason
abbrev pub unwritten_in : Trouble → Event → ℕ
unwritten_in t (event.Unwritten extent key w) = if is_same t w then 1 else 0
unwritten_in t e = 0

-- a record that was open and could not be closed
abbrev pub unfinished_in : Event → ℕ
unfinished_in event.Unfinished = 1
unfinished_in e = 0

abbrev pub records_in : Event → ℕ
records_in (event.Record extent key clock is_cut) = 1
records_in e = 0

abbrev pub removed_in : Event → ℕ
removed_in (event.Removed count) = count
removed_in e = 0

-- scans at which a rule fired while the shelf was full
abbrev pub unopened_in : Event → ℕ
unopened_in (event.Unopened count) = count
unopened_in e = 0

abbrev pub missed_in : Event → ℕ
missed_in (event.Missed count) = count
missed_in e = 0

-- ---- what the newest event says

-- what the newest event says that says anything of it; this where none does
abbrev pub newest : {X : Type 0} → (Event → Option X) → X → List Event → X
newest said_in first [] = first
newest said_in first (e ∷ events) = unwrap_or (said_in e) (newest said_in first events)

-- how many scans came; not known after the start, up to the first minute
abbrev pub scans_in : Event → Option (Option ℕ)
scans_in (event.Started start rate) = Some None
scans_in (event.Minute scans lost records waiting missed clock) = Some (Some scans)
scans_in (event.Ended scans lost records left) = Some (Some scans)
scans_in e = None

-- how many records were stored, and at how many scans a rule found the shelf full
abbrev pub all_records_in : Event → Option ℕ
all_records_in (event.Minute scans lost records waiting missed clock) = Some records
all_records_in (event.Ended scans lost records left) = Some records
all_records_in e = None

abbrev pub all_unopened_in : Event → Option ℕ
all_unopened_in (event.Minute scans lost records waiting missed clock) = Some missed
all_unopened_in e = None

-- how many records wait on the shelf
abbrev pub waiting_in : Event → Option (Option ℕ)
waiting_in (event.Started start rate) = Some None
waiting_in (event.Minute scans lost records waiting missed clock) = Some (Some waiting)
waiting_in (event.ShelfFull waiting) = Some (Some waiting)
waiting_in event.ShelfFree = Some None
waiting_in (event.Ended scans lost records left) = Some (Some 0)
waiting_in e = None

abbrev pub shelf_full_in : Event → Option Bool
shelf_full_in (event.ShelfFull waiting) = Some true
shelf_full_in event.ShelfFree = Some false
shelf_full_in (event.Ended scans lost records left) = Some false
shelf_full_in e = None

-- why the store takes no pair
abbrev pub trouble_in : Event → Option (Option Trouble)
trouble_in (event.Trouble why) = Some (Some why)
trouble_in event.Over = Some None
trouble_in (event.Record extent key clock is_cut) = Some None
trouble_in e = None

-- how the wall clock and the scans stand to each other
abbrev pub clock_in : Event → Option (Option ClockState)
clock_in (event.Minute scans lost records waiting missed (Some clock)) = Some (Some clock)
clock_in (event.Record extent key (Some clock) is_cut) = Some (Some clock)
clock_in e = None

-- for how many seconds no scan had come when that was reported
abbrev pub silence_in : Event → Option (Option ℕ)
silence_in (event.Silent seconds) = Some (Some seconds)
silence_in event.Heard = Some None
silence_in e = None

-- whether a scan has come
abbrev pub has_scan_in : Event → Option Bool
has_scan_in (event.Started start rate) = Some true
has_scan_in (event.Minute scans lost records waiting missed clock) = Some (nat_lt 0 scans)
has_scan_in (event.Ended scans lost records left) = Some (nat_lt 0 scans)
has_scan_in e = None

abbrev pub recording_in : Event → Option Bool
recording_in (event.Started start rate) = Some true
recording_in (event.Ended scans lost records left) = Some false
recording_in e = None

-- ---- all of it

-- of each reason the scans that were reported as lost for it
pub record IsLostOf (events : List Event) (l : Lost) : Type 0 where
  pub told : l.told ≡ counted (lost_in reason.Told) events
  pub unread : l.unread ≡ counted (lost_in reason.Unread) events
  pub shape : l.shape ≡ counted (lost_in reason.Shape) events
  pub range : l.range ≡ counted (lost_in reason.Range) events
  pub full : l.full ≡ counted (lost_in reason.Full) events
  pub memory : l.memory ≡ counted (lost_in reason.Memory) events
  pub by_counter : l.counted ≡ counted (lost_in reason.Counted) events
  pub silent : l.silent ≡ counted (lost_in reason.Silent) events

pub record IsUnwrittenOf (events : List Event) (u : Unwritten) : Type 0 where
  pub full : u.full ≡ counted (unwritten_in trouble.Full) events
  pub gone : u.gone ≡ counted (unwritten_in trouble.Gone) events
  pub denied : u.denied ≡ counted (unwritten_in trouble.Denied) events
  pub memory : u.memory ≡ counted (unwritten_in trouble.Memory) events
  pub other : u.other ≡ counted (unwritten_in trouble.Other) events
  pub storm : u.storm ≡ counted (unwritten_in trouble.Storm) events
  pub unfinished : u.unfinished ≡ counted unfinished_in events

-- what the events count one by one, and the sum that the newest says
abbrev pub IsTallyOf : (Event → ℕ) → (Event → Option ℕ) → List Event → Tally → Type 0
IsTallyOf one_in all_in events t = (t.new ≡ counted one_in events) × (t.sum ≡ newest all_in 0 events)

pub record IsStateOf (events : List Event) (s : State) : Type 0 where
  pub scans : s.scans ≡ newest scans_in (Some 0) events
  pub waiting : s.waiting ≡ newest waiting_in (Some 0) events
  pub shelf : s.is_shelf_full ≡ newest shelf_full_in false events
  pub trouble : s.trouble ≡ newest trouble_in None events
  pub clock : s.clock ≡ newest clock_in None events
  pub silence : s.silence ≡ newest silence_in None events
  pub has_scan : s.has_scan ≡ newest has_scan_in false events
  pub recording : s.is_recording ≡ newest recording_in false events

pub record IsStandingOf (events : List Event) (s : Standing) : Type 0 where
  pub lost : IsLostOf events s.lost
  pub unwritten : IsUnwrittenOf events s.unwritten
  pub records : IsTallyOf records_in all_records_in events s.records
  pub unopened : IsTallyOf unopened_in all_unopened_in events s.unopened
  pub removed : s.removed ≡ counted removed_in events
  pub missed : s.missed ≡ counted missed_in events
  pub state : IsStateOf events s.state
