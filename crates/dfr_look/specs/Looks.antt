-- What the frames of a capture come to.
use Rattle.std.specs.Prelude.{◌≡◌, ℕ, not, ◌==◌, if◌then◌else◌, List, [], ◌∷◌, length, replicate, Result, Ok, Err}
use Rattle.dfr_bus.specs.declared.fault.Fault.{Fault}
use Rattle.dfr_bus.specs.declared.frame.Ethernet.{Ethernet}
use Rattle.dfr_bus.specs.declared.asdu.Asdu.{Asdu}
use Rattle.dfr_bus.specs.declared.goose.Goose.{Goose}
use Rattle.dfr_bus.specs.Ethernets.{ethernet_at}
use Rattle.dfr_bus.specs.SampledValues.{Frame, frame_at}
use Rattle.dfr_bus.specs.Goose.{goose_at}
use Rattle.dfr_look.specs.declared.flow.Flow.{Flow}
use Rattle.dfr_look.specs.declared.talk.Talk.{Talk}
use Rattle.dfr_look.specs.declared.look.Counts.{Counts}
use Rattle.dfr_look.specs.Tracks.{up}
use Rattle.dfr_look.specs.Units.{unit_of}
use Rattle.dfr_look.specs.Flows.{counts, first_flow, flow_after}
use Rattle.dfr_look.specs.Talks.{message_of, first_talk, talk_after}
use Rattle.dfr_look.specs.Faults.{noted}
use Rattle.dfr_look.specs.Entries.{Entry, key_of, entered, is_named}

-- the bytes of a frame, and the nanosecond at which it came
pub record Came : Type 0 where
  pub bytes : List ℕ
  pub time : ℕ

pub record Seen : Type 0 where
  pub streams : List (Entry Flow)
  pub blocks : List (Entry Talk)
  pub counts : Counts

-- a unit of sampled values is of the stream with its key
abbrev pub unit_key : (bytes : List ℕ) → Ethernet → (app_id : ℕ) → Asdu → List ℕ
unit_key bytes e app_id asdu = key_of bytes e.source app_id asdu.sv_id

unfoldable pub unit_seen : (bytes : List ℕ) → Ethernet → (app_id : ℕ) → Asdu → Seen → Seen
unit_seen bytes e app_id asdu s =
    let key = unit_key bytes e app_id asdu in
    let new : Entry Flow = record { key = key; frame = bytes; content = first_flow (unit_of bytes asdu) } in
    record s {
      streams = entered (λ f. flow_after f (unit_of bytes asdu)) new s.streams;
      counts = record s.counts { units = up s.counts.units (counts (not (is_named key s.streams))) };
    }

unfoldable pub units_seen : (bytes : List ℕ) → Ethernet → (app_id : ℕ) → List Asdu → Seen → Seen
units_seen bytes e app_id [] s = s
units_seen bytes e app_id (asdu ∷ asdus) s = units_seen bytes e app_id asdus (unit_seen bytes e app_id asdu s)

unfoldable pub sampled_seen : (bytes : List ℕ) → Ethernet → Result Frame Fault → Seen → Seen
sampled_seen bytes e (Ok f) s = units_seen bytes e f.app_id f.asdus s
sampled_seen bytes e (Err f) s = record s { counts = record s.counts { sampled = noted f.wrong s.counts.sampled } }

-- a message is of the control block with its key
unfoldable pub message_seen : (bytes : List ℕ) (time : ℕ) → Ethernet → Goose → Seen → Seen
message_seen bytes time e g s =
    let key = key_of bytes e.source g.app_id g.gocb_ref in
    let new : Entry Talk = record { key = key; frame = bytes; content = first_talk (message_of g time) } in
    record s {
      blocks = entered (λ t. talk_after t (message_of g time)) new s.blocks;
      counts = record s.counts { messages = up s.counts.messages (counts (not (is_named key s.blocks))) };
    }

unfoldable pub goose_seen : (bytes : List ℕ) (time : ℕ) → Ethernet → Result Goose Fault → Seen → Seen
goose_seen bytes time e (Ok g) s = message_seen bytes time e g s
goose_seen bytes time e (Err f) s = record s { counts = record s.counts { goose = noted f.wrong s.counts.goose } }

-- by the EtherType: 0x88BA, 0x88B8, or another
unfoldable pub payload_seen : (bytes : List ℕ) (time : ℕ) → Ethernet → Seen → Seen
payload_seen bytes time e s =
    if e.ether_type == 35_002 then sampled_seen bytes e (frame_at bytes e.payload.from e.payload.to) s
    else if e.ether_type == 35_000 then goose_seen bytes time e (goose_at bytes e.payload.from e.payload.to) s
    else record s { counts = record s.counts { others = up s.counts.others 1 } }

unfoldable pub ethernet_seen : (bytes : List ℕ) (time : ℕ) → Result Ethernet Fault → Seen → Seen
ethernet_seen bytes time (Ok e) s = payload_seen bytes time e s
ethernet_seen bytes time (Err f) s = record s { counts = record s.counts { short = up s.counts.short 1 } }

-- one frame more
unfoldable pub frame_seen : (bytes : List ℕ) (time : ℕ) → Seen → Seen
frame_seen bytes time s =
    ethernet_seen bytes time (ethernet_at bytes 0 (length bytes)) (record s { counts = record s.counts { frames = up s.counts.frames 1 } })

abbrev pub blank : Seen
blank = record {
  streams = [];
  blocks = [];
  counts = record { frames = 0; units = 0; messages = 0; others = 0; short = 0; sampled = replicate 13 0; goose = replicate 13 0 };
}

-- what the frames of a history come to, the newest first
unfoldable pub look : List Came → Seen
look [] = blank
look (c ∷ past) = frame_seen c.bytes c.time (look past)

-- `new` is what the frames of each history come to of which `old` is what they come to, with one frame more
abbrev pub IsLook : (old : Seen) (bytes : List ℕ) (time : ℕ) (new : Seen) → Type 0
IsLook old bytes time new = (past : List Came) → look past ≡ old → look (record { bytes = bytes; time = time } ∷ past) ≡ new
