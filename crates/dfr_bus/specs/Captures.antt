-- A capture file, as libpcap writes it: a head of 24 bytes, and packets of a head of 16 bytes and their bytes. The numbers
-- are in the order of the machine that wrote the file.
use Rattle.std.specs.Prelude.{◌≡◌, ℕ, ◌+◌, ◌-◌, ◌*◌, ◌%◌, Bool, ◌&&◌, List, [], ◌∷◌, Option, Some, None, Result, Ok, Err, nat_lt, ◌==◌, if◌then◌else◌}
use Rattle.dfr_bus.specs.declared.span.Span.{Span}
use Rattle.dfr_bus.specs.declared.fault.Fault.{Fault}
use Rattle.dfr_bus.specs.declared.fault.Wrong.TheVariants.{CutShort, Magic, Version, Link, Packet}
use Rattle.dfr_bus.specs.declared.capture.Capture.{Capture}
use Rattle.dfr_bus.specs.declared.capture.Packet as packet
use Rattle.dfr_bus.specs.declared.capture.Order.{Order}
use Rattle.dfr_bus.specs.declared.capture.Order.TheVariants.{Big, Little}
use Rattle.dfr_bus.specs.declared.capture.Unit as unit
use Rattle.dfr_bus.specs.declared.capture.Unit.TheVariants.{Micro, Nano}
use Rattle.dfr_bus.specs.Bytes.{big_2, big_4, little_2, little_4}
use Rattle.dfr_bus.specs.Readings.{◌>>=◌, fault}

-- numbers in an order
abbrev pub two : Order → List ℕ → ℕ → ℕ
two Big bytes at = big_2 bytes at
two Little bytes at = little_2 bytes at

abbrev pub four : Order → List ℕ → ℕ → ℕ
four Big bytes at = big_4 bytes at
four Little bytes at = little_4 bytes at

-- A1B2C3D4 for fractions in microseconds, A1B23C4D for those in nanoseconds
unfoldable pub magic : (first : ℕ) → Option Capture
magic first =
    if first == 2712847316 then Some (record { order = Big; unit = Micro })
    else if first == 2712812621 then Some (record { order = Big; unit = Nano })
    else if first == 3569595041 then Some (record { order = Little; unit = Micro })
    else if first == 1295823521 then Some (record { order = Little; unit = Nano })
    else None

-- version 2.4, and Ethernet, 1, in the lower 16 bits of the link type
unfoldable pub rest_of_head : (bytes : List ℕ) → Option Capture → Result Capture Fault
rest_of_head bytes None = Err (fault 0 Magic)
rest_of_head bytes (Some c) =
    if two c.order bytes 4 == 2 && two c.order bytes 6 == 4 then
    (if four c.order bytes 20 % 65536 == 1 then Ok c else Err (fault 20 Link))
    else Err (fault 4 Version)

-- The head in the first bytes of a file, of which there are so many. Of its other fields none changes what the packets are.
unfoldable pub head_at : (bytes : List ℕ) (end : ℕ) → Result Capture Fault
head_at bytes end =
    if nat_lt end 24 then Err (fault end CutShort)
    else rest_of_head bytes (magic (big_4 bytes 0))

-- nanoseconds in a unit of the fraction
abbrev pub nanoseconds : unit.Unit → ℕ
nanoseconds Micro = 1000
nanoseconds Nano = 1

-- The packet whose head stands at `at`: seconds, fraction, the length of what was kept of it, and its length on the wire.
unfoldable pub packet_at : Capture → (bytes : List ℕ) (at end : ℕ) → Result packet.Packet Fault
packet_at c bytes at end =
    if nat_lt (end - at) 16 then Err (fault end CutShort)
    else if nat_lt 262144 (four c.order bytes (at + 8)) then Err (fault (at + 8) Packet)
    else if nat_lt (end - (at + 16)) (four c.order bytes (at + 8)) then Err (fault end CutShort)
    else Ok (record {
      seconds = four c.order bytes at;
      nanoseconds = four c.order bytes (at + 4) * nanoseconds c.unit;
      length = four c.order bytes (at + 12);
      content = record { from = at + 16; to = at + 16 + four c.order bytes (at + 8) };
    })

-- These are the packets from `at` to `end`, and nothing is left.
abbrev pub ArePackets : Capture → (bytes : List ℕ) (at end : ℕ) → List packet.Packet → Type 0
ArePackets c bytes at end [] = at ≡ end
ArePackets c bytes at end (p ∷ packets) = (packet_at c bytes at end ≡ Ok p) × ArePackets c bytes p.content.to end packets
