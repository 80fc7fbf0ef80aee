-- What the bytes of a capture that came so far come to.
use Rattle.std.specs.Prelude.{◌≡◌, ℕ, ◌+◌, ◌*◌, List, [], ◌∷◌, ◌++◌, map, length, slice_range, Option, Some, None, Result, Ok, Err}
use Rattle.dfr_bus.specs.declared.capture.Capture.{Capture}
use Rattle.dfr_bus.specs.declared.capture.Packet as packet
use Rattle.dfr_bus.specs.Captures.{packet_at}
use Rattle.dfr_bay.specs.Waiting.{Grows}
use Rattle.dfr_pcap.specs.declared.pieces.Step.TheVariants as steps
use Rattle.dfr_pcap.specs.Pieces.{PiecesParts, step, added, begun, nanosecond}
use Rattle.dfr_pcap.specs.Wholes.{IsOf}
use Rattle.dfr_capture.specs.Plans.{PlanParts}
use Rattle.dfr_capture.specs.Recordings as recordings
use Rattle.dfr_capture.specs.Recordings.{Came, FeedParts, IsKept, lines, events, missing}
use Rattle.dfr_convert.specs.declared.conversion.Stop.{Stop}
use Rattle.dfr_convert.specs.declared.conversion.Stop.TheVariants.{Memory, Damaged, Time, Long}

pub record Kept : Type 0 where
  pub pieces : PiecesParts
  pub recorder : recordings.Kept

abbrev pub kept : PiecesParts → recordings.Kept → Kept
kept p r = record { pieces = p; recorder = r }

-- These packets, the newest first, lie one after the other behind the head of the capture, and the newest ends at `at`.
abbrev pub ArePast : Capture → (came : List ℕ) (at : ℕ) → List packet.Packet → Type 0
ArePast c came at [] = at ≡ 24
ArePast c came at (p ∷ past) = (from : ℕ) × (packet_at c came from (length came) ≡ Ok p) × (p.content.to ≡ at) × ArePast c came from past

-- none before the head was passed
abbrev pub Past : Option Capture → (came : List ℕ) (at : ℕ) → List packet.Packet → Type 0
Past None came at past = past ≡ []
Past (Some c) came at past = ArePast c came at past

-- the frame of a packet: its bytes, and the nanosecond at which it came
abbrev pub frame_of : (came : List ℕ) → packet.Packet → Came
frame_of came p = record { bytes = slice_range came p.content.from p.content.to; time = p.seconds * 1_000_000_000 + p.nanoseconds }

abbrev pub frames_of : (came : List ℕ) → List packet.Packet → List Came
frames_of came past = map (frame_of came) past

-- this is kept where all these bytes came, and these are the packets of them that were taken in
pub record IsSoFar (came : List ℕ) (past : List packet.Packet) (k : Kept) : Type 0 where
  pub pieces : IsOf came k.pieces
  pub packets : Past k.pieces.capture came k.pieces.passed past
  pub frames : IsKept (frames_of came past) k.recorder

-- when the frame came that gave the first lines, after a frame that came at `time`: known is known
abbrev pub noted : (first : Option ℕ) (lines : List ℕ) (time : ℕ) → Option ℕ
noted (Some first) lines time = Some first
noted None [] time = None
noted None (b ∷ lines) time = Some time

-- of all these frames, the newest first
abbrev pub first_time : PlanParts → List Came → Option ℕ
first_time p [] = None
first_time p (c ∷ past) = noted (first_time p past) (lines p (c ∷ past)) c.time

-- where there are lines, the time of the first ones is known
abbrev pub Knows : (lines : List ℕ) (first : Option ℕ) → Type 0
Knows lines (Some time) = Unit {0}
Knows lines None = lines ≡ []

pub record IsFirst (p : PlanParts) (past : List Came) (feed : FeedParts) (first : Option ℕ) : Type 0 where
  pub time : first ≡ first_time p past
  pub known : Knows feed.lines first

-- a feed grew by just what some frames give more than others; and if `old` was the time of the first lines of those, `new` is that of these
pub record HasGrown (p : PlanParts) (was now : List Came) (before after : FeedParts) (old new : Option ℕ) : Type 0 where
  pub lines : Grows before.lines after.lines (lines p was) (lines p now)
  pub events : Grows before.events after.events (events p was) (events p now)
  pub missing : Grows before.missing after.missing (missing p was) (missing p now)
  pub first : IsFirst p was before old → IsFirst p now after new

-- what is kept, a feed, and when the frame came that gave the first lines
pub record State : Type 0 where
  pub kept : Kept
  pub feed : FeedParts
  pub first : Option ℕ

abbrev pub state : Kept → FeedParts → Option ℕ → State
state k feed first = record { kept = k; feed = feed; first = first }

-- more packets of the same bytes
pub record More (came : List ℕ) (past : List packet.Packet) (p : PlanParts) (old new : State) : Type 0 where
  pub more : List packet.Packet
  pub kept : IsSoFar came (more ++ past) new.kept
  pub grown : HasGrown p (frames_of came past) (frames_of came (more ++ past)) old.feed new.feed old.first new.first
  pub plan : new.kept.recorder.plan ≡ p

abbrev pub Takes : (old new : State) → Type 0
Takes old new = (came : List ℕ) (past : List packet.Packet) → IsSoFar came past old.kept → More came past old.kept.recorder.plan old new

-- If memory ran out nothing is promised.
abbrev pub TakesUpTo : Result (Unit {0}) Stop → (old new : State) → Type 0
TakesUpTo (Err Memory) old new = Unit {0}
TakesUpTo r old new = Takes old new

-- what comes next: nothing that is whole, or what the reading stops at
abbrev pub StopsAt : Result (Unit {0}) Stop → PiecesParts → Type 0
StopsAt (Ok _) p = step p ≡ steps.Wait
StopsAt (Err (Damaged at w)) p = step p ≡ steps.Fault at w
StopsAt (Err Time) p = (q : packet.Packet) × (step p ≡ steps.Packet q) × (nanosecond q ≡ None)
StopsAt (Err s) p = Unit {0}

abbrev pub StopsAtError : Result (Unit {0}) Stop → PiecesParts → Type 0
StopsAtError (Ok _) p = Unit {0}
StopsAtError (Err s) p = StopsAt (Err s) p

-- a piece comes after what is left, and the head is passed once it came; a capture that is too long stays as it is
abbrev pub Adds : (piece : List ℕ) → Result (Unit {0}) Stop → PiecesParts → PiecesParts → Type 0
Adds piece (Ok _) old new = new ≡ begun (added piece old)
Adds piece (Err Memory) old new = Unit {0}
Adds piece (Err Long) old new = new ≡ old
Adds piece (Err s) old new = ⊥

-- with a piece more
abbrev pub TakesPiece : (piece : List ℕ) → (old new : State) → Type 0
TakesPiece piece old new =
    (came : List ℕ) (past : List packet.Packet) → IsSoFar came past old.kept
    → (more : List packet.Packet) × IsSoFar (came ++ piece) (more ++ past) new.kept
    × HasGrown old.kept.recorder.plan (frames_of came past) (frames_of (came ++ piece) (more ++ past)) old.feed new.feed old.first new.first
    × (new.kept.recorder.plan ≡ old.kept.recorder.plan)

abbrev pub TakesIn : (piece : List ℕ) → Result (Unit {0}) Stop → (old new : State) → Type 0
TakesIn piece (Err Memory) old new = Unit {0}
TakesIn piece (Err Long) old new = new ≡ old
TakesIn piece r old new = TakesPiece piece old new

-- after a packet: if memory ran out or its time doesn't fit, as before
abbrev pub NotedAfter : Result (Unit {0}) Stop → packet.Packet → (lines : List ℕ) → (old new : Option ℕ) → Type 0
NotedAfter (Ok _) p lines old new = new ≡ noted old lines (p.seconds * 1_000_000_000 + p.nanoseconds)
NotedAfter (Err _) p lines old new = new ≡ old

-- what is known stays so
abbrev pub StaysKnown : (old new : Option ℕ) → Type 0
StaysKnown old new = (first : ℕ) → old ≡ Some first → new ≡ Some first
