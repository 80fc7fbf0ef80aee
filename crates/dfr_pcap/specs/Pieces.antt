-- A capture that comes in pieces: what came and was not passed, how much was, and the head once it was passed.
use Rattle.std.specs.Prelude.{◌≡◌, ℕ, ◌+◌, ◌*◌, ◌^◌, ◌≤◌, ◌<◌, nat_lt, List, ◌++◌, length, drop, Option, Some, None, Result, Ok, Err, if◌then◌else◌}
use Rattle.dfr_bus.specs.declared.fault.Fault.{Fault}
use Rattle.dfr_bus.specs.declared.fault.Wrong.{Wrong}
use Rattle.dfr_bus.specs.declared.fault.Wrong.TheVariants.{CutShort}
use Rattle.dfr_bus.specs.declared.capture.Capture.{Capture}
use Rattle.dfr_bus.specs.declared.capture.Packet as packet
use Rattle.dfr_bus.specs.Captures.{head_at, packet_at}
use Rattle.dfr_pcap.specs.declared.pieces.Step as step_of
use Rattle.dfr_pcap.specs.declared.pieces.Step.TheVariants as steps
use Rattle.dfr_pcap.specs.declared.pieces.AddFault.{AddFault}
use Rattle.dfr_pcap.specs.declared.pieces.AddFault.TheVariants.{Memory, Long}

pub record PiecesParts : Type 0 where
  pub capture : Option Capture
  pub passed : ℕ
  pub bytes : List ℕ

abbrev pub joined : List ℕ → List ℕ → List ℕ
joined left piece = left ++ piece

-- the head at the front, and the packet at the front, read by the grammar of captures
abbrev pub head_in : List ℕ → Result Capture Fault
head_in bytes = head_at bytes (length bytes)

abbrev pub packet_in : Capture → List ℕ → Result packet.Packet Fault
packet_in c bytes = packet_at c bytes 0 (length bytes)

abbrev pub some_of : Result Capture Fault → Option Capture
some_of (Ok c) = Some c
some_of (Err f) = None

abbrev pub head_of : List ℕ → Option Capture
head_of bytes = some_of (head_in bytes)

-- what is cut short may go on in the next piece
abbrev pub wrong_step : (at : ℕ) → Wrong → step_of.Step
wrong_step at CutShort = steps.Wait
wrong_step at w = steps.Fault at w

-- a fault after so many bytes
abbrev pub fault_step : (passed : ℕ) → Fault → step_of.Step
fault_step passed f = wrong_step (passed + f.at) f.wrong

abbrev pub of_packet : (passed : ℕ) → Result packet.Packet Fault → step_of.Step
of_packet passed (Ok p) = steps.Packet p
of_packet passed (Err f) = fault_step passed f

abbrev pub of_head : (passed : ℕ) → Result Capture Fault → step_of.Step
of_head passed (Ok c) = steps.Wait
of_head passed (Err f) = fault_step passed f

abbrev pub packet_step : (passed : ℕ) → Capture → List ℕ → step_of.Step
packet_step passed c bytes = of_packet passed (packet_in c bytes)

abbrev pub head_step : (passed : ℕ) → List ℕ → step_of.Step
head_step passed bytes = of_head passed (head_in bytes)

abbrev pub step_in : (passed : ℕ) → Option Capture → List ℕ → step_of.Step
step_in passed None bytes = head_step passed bytes
step_in passed (Some c) bytes = packet_step passed c bytes

abbrev pub step : PiecesParts → step_of.Step
step p = step_in p.passed p.capture p.bytes

-- the content of a packet lies within so many bytes, and not at their front
abbrev pub IsInside : step_of.Step → ℕ → Type 0
IsInside (steps.Packet p) n = (1 ≤ p.content.from) × (p.content.from ≤ p.content.to) × (p.content.to ≤ n)
IsInside s n = Unit {0}

abbrev pub with_head : PiecesParts → Option Capture → PiecesParts
with_head p (Some c) = record { capture = Some c; passed = p.passed + 24; bytes = drop 24 p.bytes }
with_head p None = p

abbrev pub begun_by : PiecesParts → Option Capture → PiecesParts
begun_by p None = with_head p (head_of p.bytes)
begun_by p (Some c) = p

-- the head is passed, if it came
abbrev pub begun : PiecesParts → PiecesParts
begun p = begun_by p p.capture

abbrev pub passed : ℕ → PiecesParts → PiecesParts
passed n p = record p { passed = p.passed + n; bytes = drop n p.bytes }

abbrev pub added : List ℕ → PiecesParts → PiecesParts
added piece p = record p { bytes = joined p.bytes piece }

-- so many bytes came, and come
abbrev pub total : PiecesParts → List ℕ → ℕ
total p piece = p.passed + length p.bytes + length piece

-- a piece comes after what is left; after a fault all is as before
abbrev pub Adds : PiecesParts → (piece : List ℕ) → Result (Unit {0}) AddFault → PiecesParts → Type 0
Adds p piece (Ok _) new = (new ≡ added piece p) × (total p piece < 2 ^ 64)
Adds p piece (Err Memory) new = (new ≡ p) × (total p piece < 2 ^ 64)
Adds p piece (Err Long) new = (new ≡ p) × (2 ^ 64 ≤ total p piece)

abbrev pub nanosecond : packet.Packet → Option ℕ
nanosecond p =
    let all = p.seconds * 1_000_000_000 + p.nanoseconds in
    if nat_lt all (2 ^ 64) then Some all else None
