-- A capture in the form pcapng: sections of blocks. A block is its type, its length, its fields, and its length again; its
-- length is a multiple of 4. A section begins with a block that says its version and the order of its numbers.
use Rattle.std.specs.Prelude.{ℕ, ◌+◌, ◌-◌, ◌*◌, ◌/◌, ◌%◌, ◌^◌, Bool, ◌&&◌, ◌||◌, not, List, length, take, slice_get, Option, Some, None, Result, Ok, Err, nat_lt, ◌==◌, if◌then◌else◌}
use Rattle.dfr_bus.specs.declared.capture.Order.{Order}
use Rattle.dfr_bus.specs.declared.capture.Order.TheVariants.{Big, Little}
use Rattle.dfr_bus.specs.Captures as captures
use Rattle.dfr_bus.specs.Bytes as bytes
use Rattle.dfr_pcap.specs.declared.flaw.Flaw.{Flaw}
use Rattle.dfr_pcap.specs.declared.flaw.Flaw.TheVariants as flaws
use Rattle.dfr_pcap.specs.declared.moment.Interface.{Interface}
use Rattle.dfr_pcap.specs.declared.moment.Moment.{Moment}
use Rattle.dfr_pcap.specs.declared.block.Described.{Described}
use Rattle.dfr_pcap.specs.declared.block.Place.{Place}
use Rattle.dfr_pcap.specs.declared.block.Place.TheVariants as places
use Rattle.dfr_pcap.specs.declared.block.News.{News}
use Rattle.dfr_pcap.specs.declared.block.News.TheVariants as news
use Rattle.dfr_pcap.specs.declared.block.Outcome as outcome
use Rattle.dfr_pcap.specs.declared.block.Outcome.TheVariants as outcomes
use Rattle.dfr_pcap.specs.Moments.{moment_of}

abbrev pub two : Order → List ℕ → ℕ → ℕ
two o b at = captures.two o b at

abbrev pub four : Order → List ℕ → ℕ → ℕ
four o b at = captures.four o b at

abbrev pub big_4 : List ℕ → ℕ → ℕ
big_4 b at = bytes.big_4 b at

abbrev pub eight : Order → List ℕ → ℕ → ℕ
eight Big b at = captures.four Big b at * 2 ^ 32 + captures.four Big b (at + 4)
eight Little b at = captures.four Little b (at + 4) * 2 ^ 32 + captures.four Little b at

abbrev pub pass : (length : ℕ) → Place → News → outcome.Outcome
pass n place news = outcomes.Pass (record { length = n; place = place; news = news })

-- ---- the head of a block: its type and its length, and four bytes more

-- 1A2B3C4D in the section's order
unfoldable pub order_of : (first : ℕ) → Option Order
order_of first = if first == 439041101 then Some Big else if first == 1295788826 then Some Little else None

unfoldable pub is_length : (least length : ℕ) → Bool
is_length least n = not (nat_lt n least) && n % 4 == 0

unfoldable pub section : (b : List ℕ) → Option Order → outcome.Outcome
section b None = outcomes.Fault 8 flaws.Order
section b (Some o) =
    if is_length 28 (four o b 4) then pass 12 (places.Version (four o b 4 - 28)) (news.Section o)
    else outcomes.Fault 4 flaws.Length

-- an interface before its options
abbrev pub unread : (length : ℕ) → Described
unread n = record { interface = record { resolution = 6; offset = 0 }; left = n - 20; length = n }

-- Ethernet is 1. Times are in microseconds since 1970, if no option says otherwise.
unfoldable pub interface : Order → (count length : ℕ) → (b : List ℕ) → outcome.Outcome
interface o count n b =
    if nat_lt n 20 then outcomes.Fault 4 flaws.Length
    else if two o b 8 == 1 then
    (if nat_lt count 256 then pass 16 (places.Options (unread n)) news.Nothing else outcomes.Fault 0 flaws.Interfaces)
    else outcomes.Fault 8 flaws.Link

unfoldable pub packet_head : (length : ℕ) → outcome.Outcome
packet_head n =
    if nat_lt n 32 then outcomes.Fault 4 flaws.Length
    else if nat_lt 524288 n then outcomes.Fault 4 flaws.Large
    else pass 8 (places.Packet (n - 32)) news.Nothing

abbrev pub other : (length : ℕ) → outcome.Outcome
other n = pass (n - 4) (places.Tail n) news.Nothing

-- 1 describes an interface, 6 is a packet; 3 is one without a time, 2 the obsolete form. All others are passed.
unfoldable pub block : Order → (count kind length : ℕ) → (b : List ℕ) → outcome.Outcome
block o count kind n b =
    if not (is_length 12 n) then outcomes.Fault 4 flaws.Length
    else if kind == 1 then interface o count n b
    else if kind == 2 then outcomes.Fault 0 flaws.Obsolete
    else if kind == 3 then outcomes.Fault 0 flaws.Untimed
    else if kind == 6 then packet_head n
    else other n

-- 0A0D0D0A, the same in either order, begins a section
unfoldable pub head : Order → (count : ℕ) → (b : List ℕ) → outcome.Outcome
head o count b =
    if big_4 b 0 == 168627466 then section b (order_of (big_4 b 8))
    else block o count (four o b 0) (four o b 4) b

-- ---- what stands behind it

unfoldable pub version : Order → (rest : ℕ) → (b : List ℕ) → outcome.Outcome
version o rest b =
    if two o b 0 == 1 && (two o b 2 == 0 || two o b 2 == 2) then pass (rest + 12) (places.Tail (rest + 28)) news.Nothing
    else outcomes.Fault 0 flaws.Version

unfoldable pub tail : Order → (length : ℕ) → News → (b : List ℕ) → outcome.Outcome
tail o n said b = if four o b 0 == n then pass 4 places.Head said else outcomes.Fault 0 flaws.Lengths

-- the size of an option, up to the next
unfoldable pub padded : ℕ → ℕ
padded size = (size + 3) / 4 * 4

abbrev pub passed_on : Interface → Described → (count : ℕ) → outcome.Outcome
passed_on i old count = pass count (places.Options (record { interface = i; left = old.left - count; length = old.length })) news.Nothing

abbrev pub resolution : Described → (b : List ℕ) → outcome.Outcome
resolution old b = passed_on (record { resolution = bytes.byte b 4; offset = old.interface.offset }) old 8

abbrev pub offset : Order → Described → (b : List ℕ) → outcome.Outcome
offset o old b = passed_on (record { resolution = old.interface.resolution; offset = eight o b 4 }) old 12

-- 0 ends the options, 9 is the resolution, 14 the offset
unfoldable pub option : Order → Described → (code size : ℕ) → (b : List ℕ) → outcome.Outcome
option o old code size b =
    if nat_lt old.left (4 + padded size) then outcomes.Fault 2 flaws.Option
    else if code == 0 then passed_on old.interface old old.left
    else if code == 9 && size == 1 then resolution old b
    else if code == 14 && size == 8 then offset o old b
    else if code == 9 || code == 14 then outcomes.Fault 2 flaws.Option
    else passed_on old.interface old (4 + padded size)

-- where no option is left, the interface is whole
unfoldable pub options : Order → Described → (b : List ℕ) → outcome.Outcome
options o old b =
    if old.left == 0 then tail o old.length (news.Interface old.interface) b
    else option o old (two o b 0) (two o b 2) b

-- what was kept of a packet, its length, and the length of its block, after its time
unfoldable pub kept : Order → (rest : ℕ) → Moment → (b : List ℕ) → outcome.Outcome
kept o rest m b =
    if nat_lt 262144 (four o b 12) || nat_lt rest (four o b 12) then outcomes.Fault 12 flaws.Packet
    else if four o b (rest + 20) == rest + 32 then pass (rest + 24) places.Head (news.Packet m (four o b 12) (four o b 16))
    else outcomes.Fault (rest + 20) flaws.Lengths

abbrev pub kept_of : Order → (rest : ℕ) → Result Moment Flaw → (b : List ℕ) → outcome.Outcome
kept_of o rest (Ok m) b = kept o rest m b
kept_of o rest (Err flaw) b = outcomes.Fault 4 flaw

unfoldable pub timed : Order → (rest : ℕ) → Interface → (b : List ℕ) → outcome.Outcome
timed o rest i b = kept_of o rest (moment_of i (four o b 4 * 2 ^ 32 + four o b 8)) b

abbrev pub packet_of : Order → (rest : ℕ) → Option Interface → (b : List ℕ) → outcome.Outcome
packet_of o rest None b = outcomes.Fault 0 flaws.Interface
packet_of o rest (Some i) b = timed o rest i b

-- the packet of a block that is so much longer than the shortest
abbrev pub packet : Order → List Interface → (rest : ℕ) → (b : List ℕ) → outcome.Outcome
packet o interfaces rest b = packet_of o rest (slice_get interfaces (four o b 0)) b

-- ---- what comes next

-- how many bytes say what stands at a place
abbrev pub needed : (left : ℕ) → ℕ
needed left = if nat_lt left 8 then left + 4 else 12

abbrev pub needs : Place → ℕ
needs places.Head = 12
needs (places.Version rest) = 4
needs (places.Options d) = needed d.left
needs (places.Packet rest) = rest + 24
needs (places.Tail n) = 4

-- what these bytes say
abbrev pub found_at : Order → List Interface → Place → (b : List ℕ) → outcome.Outcome
found_at o interfaces places.Head b = head o (length interfaces) b
found_at o interfaces (places.Version rest) b = version o rest b
found_at o interfaces (places.Options d) b = options o d b
found_at o interfaces (places.Packet rest) b = packet o interfaces rest b
found_at o interfaces (places.Tail n) b = tail o n news.Nothing b

-- what the bytes from a place on say
unfoldable pub next : Order → List Interface → Place → (left : List ℕ) → outcome.Outcome
next o interfaces place left =
    if nat_lt (length left) (needs place) then outcomes.Wait
    else found_at o interfaces place (take (needs place) left)
