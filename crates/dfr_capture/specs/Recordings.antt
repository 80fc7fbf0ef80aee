-- What the frames of a capture come to: the lines of the scans, and what is reported. A history has the frames that came, the newest first.
use Rattle.std.specs.Prelude.{◌≡◌, ℕ, ◌==◌, Bool, false, List, [], ◌∷◌, ◌++◌, length, Option, Some, None, Result, Ok, Err, if◌then◌else◌}
use Rattle.dfr_bus.specs.declared.fault.Fault.{Fault}
use Rattle.dfr_bus.specs.declared.frame.Ethernet.{Ethernet}
use Rattle.dfr_bus.specs.declared.asdu.Asdu.{Asdu}
use Rattle.dfr_bus.specs.declared.goose.Goose.{Goose}
use Rattle.dfr_bus.specs.Ethernets.{ethernet_at}
use Rattle.dfr_bus.specs.SampledValues as sampled
use Rattle.dfr_bus.specs.Goose.{goose_at}
use Rattle.dfr_bay.specs.declared.arrival.Arrival.{Arrival}
use Rattle.dfr_bay.specs.declared.arrival.Arrival.TheVariants.{Taken}
use Rattle.dfr_bay.specs.Lines.{Frame, Board, arrival, board, source}
use Rattle.dfr_bay.specs.Waiting as waiting
use Rattle.dfr_bay.specs.Waiting.{Grows}
use Rattle.dfr_capture.specs.declared.feed.Event.{Event}
use Rattle.dfr_capture.specs.declared.feed.Event.TheVariants.{Stream, Skipped}
use Rattle.dfr_capture.specs.declared.feed.LostReading.{LostReading}
use Rattle.dfr_capture.specs.Plans.{PlanParts}
use Rattle.dfr_capture.specs.Streams.{stream_of}
use Rattle.dfr_capture.specs.Units.{UnitParts}
use Rattle.dfr_capture.specs.Contacts.{bits_of}
use Rattle.dfr_capture.specs.Rows.{row, missing_in, each_scan}
use Rattle.dfr_capture.specs.Listening.{Listening, beginning, passed, passed_events, with_message, message_events}

-- the bytes of a frame, and the nanosecond at which it came
pub record Came : Type 0 where
  pub bytes : List ℕ
  pub time : ℕ

abbrev pub came_at : List ℕ → ℕ → Came
came_at bytes time = record { bytes = bytes; time = time }

-- ---- GOOSE

abbrev pub goose_heard : PlanParts → Came → Result Goose Fault → Listening → Listening
goose_heard p c (Ok g) s = with_message p.text c.bytes c.time g s
goose_heard p c (Err f) s = s

-- by the EtherType: 0x88B8
abbrev pub payload_heard : PlanParts → Came → Result Ethernet Fault → Listening → Listening
payload_heard p c (Ok e) s = if e.ether_type == 35_000 then goose_heard p c (goose_at c.bytes e.payload.from e.payload.to) s else s
payload_heard p c (Err f) s = s

-- the times to live that are over by then
abbrev pub at_time : Came → Listening → Listening
at_time c s = passed c.time (length s.blocks) s

abbrev pub ethernet_of : Came → Result Ethernet Fault
ethernet_of c = ethernet_at c.bytes 0 (length c.bytes)

abbrev pub frame_heard : PlanParts → Came → Listening → Listening
frame_heard p c s = payload_heard p c (ethernet_of c) (at_time c s)

-- what the control blocks and the contacts come to
unfoldable pub listening : PlanParts → List Came → Listening
listening p [] = beginning p
listening p (c ∷ past) = frame_heard p c (listening p past)

-- ---- sampled values

-- What a unit is of: the frame that it came with, the application, the states of the contacts.
pub record From : Type 0 where
  pub came : Came
  pub ethernet : Ethernet
  pub app_id : ℕ
  pub bits : List Bool

-- a unit of stream n, for the bay
abbrev pub unit_at : From → Asdu → (n : ℕ) → Frame UnitParts
unit_at f asdu n = record {
  stream = n;
  count = asdu.smp_cnt;
  content = record { frame = f.came.bytes; asdu = asdu; bits = f.bits; time = f.came.time };
}

-- the units of a history, the newest first, with one more, if it is of a stream
abbrev pub unit_by : From → Asdu → Option ℕ → List (Frame UnitParts) → List (Frame UnitParts)
unit_by f asdu None units = units
unit_by f asdu (Some n) units = unit_at f asdu n ∷ units

abbrev pub with_unit : PlanParts → From → Asdu → List (Frame UnitParts) → List (Frame UnitParts)
with_unit p f asdu units = unit_by f asdu (stream_of p f.came.bytes f.ethernet f.app_id asdu) units

unfoldable pub with_units : PlanParts → From → List Asdu → List (Frame UnitParts) → List (Frame UnitParts)
with_units p f [] units = units
with_units p f (asdu ∷ asdus) units = with_units p f asdus (with_unit p f asdu units)

abbrev pub sampled_units : PlanParts → Came → Ethernet → List Bool → Result sampled.Frame Fault → List (Frame UnitParts) → List (Frame UnitParts)
sampled_units p c e bits (Ok f) units = with_units p (record { came = c; ethernet = e; app_id = f.app_id; bits = bits }) f.asdus units
sampled_units p c e bits (Err f) units = units

-- by the EtherType: 0x88BA
abbrev pub payload_units : PlanParts → Came → List Bool → Result Ethernet Fault → List (Frame UnitParts) → List (Frame UnitParts)
payload_units p c bits (Ok e) units =
    if e.ether_type == 35_002 then sampled_units p c e bits (sampled.frame_at c.bytes e.payload.from e.payload.to) units else units
payload_units p c bits (Err f) units = units

-- all units; those of a frame with the states that the contacts have then
unfoldable pub units : PlanParts → List Came → List (Frame UnitParts)
units p [] = []
units p (c ∷ past) = payload_units p c (bits_of (at_time c (listening p past)).held) (ethernet_of c) (units p past)

-- ---- scans

abbrev pub board_of : PlanParts → List (Frame UnitParts) → Board UnitParts
board_of p us = board p.settings (length p.streams) us

abbrev pub lines_of : PlanParts → List (Frame UnitParts) → List ℕ
lines_of p us = each_scan (row p) (length p.streams) (source (board_of p us))

abbrev pub missing_of : PlanParts → List (Frame UnitParts) → List LostReading
missing_of p us = each_scan (missing_in p) (length p.streams) (source (board_of p us))

-- The lines of all scans that are complete, and the readings that are missing in them.
abbrev pub lines : PlanParts → List Came → List ℕ
lines p past = lines_of p (units p past)

abbrev pub missing : PlanParts → List Came → List LostReading
missing p past = missing_of p (units p past)

-- ---- what is reported

-- all that becomes of a unit, but that it is taken without a gap
abbrev pub is_plain : Arrival → Bool
is_plain (Taken lost) = lost == 0
is_plain _ = false

abbrev pub arrival_events : (n : ℕ) → Arrival → List Event
arrival_events n a = if is_plain a then [] else Stream n a ∷ []

abbrev pub unit_events_by : PlanParts → From → Asdu → Option ℕ → List (Frame UnitParts) → List Event
unit_events_by p f asdu None us = []
unit_events_by p f asdu (Some n) us = arrival_events n (arrival p.settings (board_of p us) (unit_at f asdu n))

abbrev pub unit_events : PlanParts → From → Asdu → List (Frame UnitParts) → List Event
unit_events p f asdu us = unit_events_by p f asdu (stream_of p f.came.bytes f.ethernet f.app_id asdu) us

unfoldable pub units_events : PlanParts → From → List Asdu → List (Frame UnitParts) → List Event
units_events p f [] us = []
units_events p f (asdu ∷ asdus) us = unit_events p f asdu us ++ units_events p f asdus (with_unit p f asdu us)

abbrev pub sampled_events : PlanParts → Came → Ethernet → List Bool → Result sampled.Frame Fault → List (Frame UnitParts) → List Event
sampled_events p c e bits (Ok f) us = units_events p (record { came = c; ethernet = e; app_id = f.app_id; bits = bits }) f.asdus us
sampled_events p c e bits (Err fault) us = Skipped fault ∷ []

abbrev pub goose_events : PlanParts → Came → Result Goose Fault → Listening → List Event
goose_events p c (Ok g) s = message_events p.text c.bytes g s
goose_events p c (Err fault) s = Skipped fault ∷ []

abbrev pub payload_events : PlanParts → Came → Result Ethernet Fault → Listening → List (Frame UnitParts) → List Event
payload_events p c (Ok e) s us =
    if e.ether_type == 35_002 then sampled_events p c e (bits_of s.held) (sampled.frame_at c.bytes e.payload.from e.payload.to) us
    else if e.ether_type == 35_000 then goose_events p c (goose_at c.bytes e.payload.from e.payload.to) s
    else []
payload_events p c (Err fault) s us = Skipped fault ∷ []

abbrev pub frame_events : PlanParts → Came → Listening → List (Frame UnitParts) → List Event
frame_events p c s us =
    passed_events c.time (length s.blocks) s ++ payload_events p c (ethernet_of c) (at_time c s) us

-- all events, the oldest first
unfoldable pub events : PlanParts → List Came → List Event
events p [] = []
events p (c ∷ past) = events p past ++ frame_events p c (listening p past) (units p past)

-- ---- what is kept

-- what was handed out
pub record FeedParts : Type 0 where
  pub lines : List ℕ
  pub events : List Event
  pub missing : List LostReading

pub record Kept : Type 0 where
  pub plan : PlanParts
  pub bay : waiting.Kept UnitParts
  pub listening : Listening

-- the bay keeps what waits of these units
abbrev pub Waits : PlanParts → List (Frame UnitParts) → waiting.Kept UnitParts → Type 0
Waits p us bay = waiting.kept p.settings (board_of p us) ≡ bay

-- From some units to others a feed grew by just what the others have more, and by these events; and a bay keeps what waits of the others.
pub record Feeds (p : PlanParts) (us more : List (Frame UnitParts)) (told : List Event) (before after : FeedParts) (bay : waiting.Kept UnitParts) : Type 0 where
  pub waits : Waits p more bay
  pub lines : Grows before.lines after.lines (lines_of p us) (lines_of p more)
  pub missing : Grows before.missing after.missing (missing_of p us) (missing_of p more)
  pub events : after.events ≡ before.events ++ told

-- so it is for all units of which `bay` keeps what waits
abbrev pub FeedsAll : PlanParts → (bay : waiting.Kept UnitParts) → (more : List (Frame UnitParts) → List (Frame UnitParts))
    → (told : List (Frame UnitParts) → List Event) → (before after : FeedParts) → (new : waiting.Kept UnitParts) → Type 0
FeedsAll p bay more told before after new = (us : List (Frame UnitParts)) → Waits p us bay → Feeds p us (more us) (told us) before after new

-- this is kept of a history
pub record IsKept (past : List Came) (k : Kept) : Type 0 where
  pub waits : Waits k.plan (units k.plan past) k.bay
  pub heard : listening k.plan past ≡ k.listening

-- a feed grew by just what a history has more with its newest frame
pub record IsFed (p : PlanParts) (c : Came) (past : List Came) (before after : FeedParts) : Type 0 where
  pub lines : Grows before.lines after.lines (lines p past) (lines p (c ∷ past))
  pub events : Grows before.events after.events (events p past) (events p (c ∷ past))
  pub missing : Grows before.missing after.missing (missing p past) (missing p (c ∷ past))

-- for every history of which these parts are kept, the feed grows, and the new parts are kept
abbrev pub TakesAll : PlanParts → Came → (bay : waiting.Kept UnitParts) → (heard : Listening) → (before after : FeedParts) → (new : waiting.Kept UnitParts)
    → (hears : Listening) → Type 0
TakesAll p c bay heard before after new hears =
    (past : List Came) → Waits p (units p past) bay → listening p past ≡ heard
    → IsFed p c past before after × Waits p (units p (c ∷ past)) new × (listening p (c ∷ past) ≡ hears)

-- for every history of which `old` is kept: with the next frame the feed grows by just what the definitions have more, and `new` is kept
abbrev pub IsTaken : Kept → Came → FeedParts → FeedParts → Kept → Type 0
IsTaken old c before after new =
    (past : List Came) → IsKept past old → IsFed old.plan c past before after × IsKept (c ∷ past) new × (new.plan ≡ old.plan)
