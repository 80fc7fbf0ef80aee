-- What the messages of the control blocks come to.
use Rattle.std.specs.Prelude.{ℕ, zero, suc, ◌+◌, ◌-◌, ◌*◌, ◌==◌, ◌&&◌, ◌||◌, Bool, true, false, not, nat_lt, nat_le, List, [], ◌∷◌, ◌++◌, length, map, position, slice_get, slice_set, Option, Some, None, Result, Ok, Err, if◌then◌else◌}
use Rattle.std.specs.Str.{bytes_eq}
use Rattle.dfr_bus.specs.declared.goose.Goose.{Goose}
use Rattle.dfr_capture.specs.declared.plan.Block.{Block}
use Rattle.dfr_capture.specs.declared.listened.Heard.{Heard}
use Rattle.dfr_capture.specs.declared.listened.Listened.{Listened}
use Rattle.dfr_capture.specs.declared.contact.Held.{Held}
use Rattle.dfr_capture.specs.declared.feed.Event.{Event}
use Rattle.dfr_capture.specs.declared.feed.Event.TheVariants.{Expired, Doubtful, StatesLost, Back}
use Rattle.dfr_capture.specs.Plans.{PlanParts, part}
use Rattle.dfr_capture.specs.Contacts.{resting, after_message, doubted, no_states}

-- the control blocks and the contacts
pub record Listening : Type 0 where
  pub blocks : List Listened
  pub held : List Held

abbrev pub unheard : Block → Listened
unheard b = record { block = b; heard = None }

abbrev pub beginning : PlanParts → Listening
beginning p = record { blocks = map unheard p.blocks; held = map resting p.contacts }

-- ---- the time to live

-- no message came in the time that the newest one allows, and that isn't told yet. A time to live is in milliseconds
abbrev pub is_over : (time : ℕ) → Option Heard → Bool
is_over time None = false
is_over time (Some h) = not h.is_told && nat_lt (h.time + h.live * 1_000_000) time

abbrev pub told : Option Heard → Option Heard
told None = None
told (Some h) = Some (record h { is_told = true })

abbrev pub passed_block : (time : ℕ) → Listened → Listened
passed_block time l = record l { heard = if is_over time l.heard then told l.heard else l.heard }

abbrev pub passed_held : (time n : ℕ) → Listened → List Held → List Held
passed_held time n l held = if is_over time l.heard then doubted n l.block.doubt held else held

abbrev pub listening_of : List Listened → List Held → Listening
listening_of blocks held = record { blocks = blocks; held = held }

-- block n, if there is one
abbrev pub over_by : (time n : ℕ) → Option Listened → Listening → Listening
over_by time n None s = s
over_by time n (Some l) s = listening_of (slice_set s.blocks n (passed_block time l)) (passed_held time n l s.held)

abbrev pub over_events : (time n : ℕ) → Option Listened → List Event
over_events time n None = []
over_events time n (Some l) = if is_over time l.heard then Expired n ∷ [] else []

-- the first n blocks
unfoldable pub passed : (time n : ℕ) → Listening → Listening
passed time zero s = s
passed time (suc n) s = over_by time n (slice_get (passed time n s).blocks n) (passed time n s)

unfoldable pub passed_events : (time n : ℕ) → Listening → List Event
passed_events time zero s = []
passed_events time (suc n) s = passed_events time n s ++ over_events time n (slice_get (passed time n s).blocks n)

-- ---- messages

-- A message whose states aren't taken: it is a test, its block needs commissioning, or it is simulated.
abbrev pub is_doubtful : Goose → Bool
is_doubtful g = g.test || g.nds_com || nat_le 32_768 g.reserved_1

abbrev pub heard_at : (time : ℕ) → Goose → Heard
heard_at time g = record { state = g.st_num; live = g.time_allowed_to_live; time = time; is_told = false }

-- states between that of the newest message and this one are lost; a lower one is out of order, or its sender began anew
abbrev pub turn_events : (n : ℕ) → Option Heard → Goose → List Event
turn_events n None g = []
turn_events n (Some h) g =
    if nat_lt g.st_num h.state then Back n ∷ []
    else if nat_lt (h.state + 1) g.st_num then StatesLost n (g.st_num - h.state - 1) ∷ []
    else []

abbrev pub held_after : (bytes : List ℕ) → Goose → (n : ℕ) → Listened → List Held → List Held
held_after bytes g n l held = if is_doubtful g then doubted n l.block.doubt held else map (after_message bytes g.all_data n) held

abbrev pub state_events : (bytes : List ℕ) → Goose → (n : ℕ) → List Held → List Event
state_events bytes g n held = if is_doubtful g then Doubtful n ∷ [] else no_states bytes g.all_data n 0 held

-- a message of block n, if there is one
abbrev pub message_by : (bytes : List ℕ) (time : ℕ) → Goose → (n : ℕ) → Option Listened → Listening → Listening
message_by bytes time g n None s = s
message_by bytes time g n (Some l) s =
    listening_of (slice_set s.blocks n (record l { heard = Some (heard_at time g) })) (held_after bytes g n l s.held)

abbrev pub message_events_by : (bytes : List ℕ) → Goose → (n : ℕ) → Option Listened → Listening → List Event
message_events_by bytes g n None s = []
message_events_by bytes g n (Some l) s = turn_events n l.heard g ++ state_events bytes g n s.held

-- the first block of this name
abbrev pub block_in : (text bytes : List ℕ) → Goose → List Listened → Option ℕ
block_in text bytes g blocks = position (λ (l : Listened). bytes_eq (part text l.block.name) (part bytes g.gocb_ref)) blocks

abbrev pub message_at : (bytes : List ℕ) (time : ℕ) → Goose → Option ℕ → Listening → Listening
message_at bytes time g None s = s
message_at bytes time g (Some n) s = message_by bytes time g n (slice_get s.blocks n) s

abbrev pub message_events_at : (bytes : List ℕ) → Goose → Option ℕ → Listening → List Event
message_events_at bytes g None s = []
message_events_at bytes g (Some n) s = message_events_by bytes g n (slice_get s.blocks n) s

abbrev pub with_message : (text bytes : List ℕ) (time : ℕ) → Goose → Listening → Listening
with_message text bytes time g s = message_at bytes time g (block_in text bytes g s.blocks) s

abbrev pub message_events : (text bytes : List ℕ) → Goose → Listening → List Event
message_events text bytes g s = message_events_at bytes g (block_in text bytes g s.blocks) s
