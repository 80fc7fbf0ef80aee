-- All packets of a capture, up to its first fault.
use Rattle.std.specs.Prelude.{◌≡◌, ℕ, ◌-◌, ◌*◌, List, [], ◌∷◌, map, length, slice_range, Option, Some, None, Ok, Err}
use Rattle.dfr_bus.specs.declared.fault.Fault.{Fault}
use Rattle.dfr_bus.specs.declared.capture.Capture.{Capture}
use Rattle.dfr_bus.specs.declared.capture.Packet as packet
use Rattle.dfr_bus.specs.Captures.{packet_at}
use Rattle.dfr_look.specs.Tracks.{up}
use Rattle.dfr_look.specs.Looks.{Came, Seen, look}

-- when a packet came, in nanoseconds since 1970
abbrev pub time_of : packet.Packet → ℕ
time_of p = up (p.seconds * 1_000_000_000) p.nanoseconds

abbrev pub came : (bytes : List ℕ) → packet.Packet → Came
came bytes p = record { bytes = slice_range bytes p.content.from p.content.to; time = time_of p }

-- These packets, the newest first, lie one after the other behind the head of the capture, and the newest ends at `at`.
abbrev pub ArePast : Capture → (bytes : List ℕ) (at : ℕ) → List packet.Packet → Type 0
ArePast c bytes at [] = at ≡ 24
ArePast c bytes at (p ∷ past) =
    (p.content.to ≡ at) × (packet_at c bytes (p.content.from - 16) (length bytes) ≡ Ok p) × ArePast c bytes (p.content.from - 16) past

-- when the first of them came, and the last
abbrev pub with_time : ℕ → Option (ℕ × ℕ) → Option (ℕ × ℕ)
with_time time None = Some (time, time)
with_time time (Some t) = Some (t.0, time)

abbrev pub times_of : List packet.Packet → Option (ℕ × ℕ)
times_of [] = None
times_of (p ∷ past) = with_time (time_of p) (times_of past)

-- what is seen, and when, is that of all packets before `at`
abbrev pub IsSoFar : Capture → (bytes : List ℕ) (at : ℕ) → Seen → Option (ℕ × ℕ) → Type 0
IsSoFar c bytes at seen times = (past : List packet.Packet) × ArePast c bytes at past × (look (map (came bytes) past) ≡ seen) × (times_of past ≡ times)

-- after them the bytes end, or no packet follows for this fault
abbrev pub EndsAt : Capture → (bytes : List ℕ) (at : ℕ) → Option Fault → Type 0
EndsAt c bytes at None = at ≡ length bytes
EndsAt c bytes at (Some f) = packet_at c bytes at (length bytes) ≡ Err f
