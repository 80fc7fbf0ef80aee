-- A capture in the form pcapng that comes in pieces, and the capture of libpcap that has the same packets.
use Rattle.std.specs.Prelude.{◌≡◌, ◌==◌, Bool, false, not, ℕ, ◌+◌, ◌-◌, ◌^◌, ◌≤◌, List, [], ◌∷◌, ◌++◌, length, take, drop, slice_range, Result, Ok, Err}
use Rattle.std.specs.Int.{w32, to_le_bytes}
use Rattle.dfr_bus.specs.declared.capture.Order.{Order}
use Rattle.dfr_bus.specs.declared.capture.Order.TheVariants.{Little}
use Rattle.dfr_pcap.specs.declared.moment.Interface.{Interface}
use Rattle.dfr_pcap.specs.declared.moment.Moment.{Moment}
use Rattle.dfr_pcap.specs.declared.block.Place.{Place}
use Rattle.dfr_pcap.specs.declared.block.Place.TheVariants as places
use Rattle.dfr_pcap.specs.declared.block.News.{News}
use Rattle.dfr_pcap.specs.declared.block.News.TheVariants as news
use Rattle.dfr_pcap.specs.declared.block.Found.{Found}
use Rattle.dfr_pcap.specs.declared.block.Outcome as outcome
use Rattle.dfr_pcap.specs.declared.block.Outcome.TheVariants as outcomes
use Rattle.dfr_pcap.specs.declared.blocks.TranslateFault.{TranslateFault}
use Rattle.dfr_pcap.specs.declared.blocks.TranslateFault.TheVariants as faults
use Rattle.dfr_pcap.specs.Blocks.{needs, next}

-- ---- the state at a place

pub record State : Type 0 where
  pub order : Order
  pub interfaces : List Interface
  pub place : Place

-- the first block says the order
abbrev pub start : State
start = record { order = Little; interfaces = []; place = places.Head }

abbrev pub after : State → Place → News → State
after s place (news.Section o) = record { order = o; interfaces = []; place = place }
after s place (news.Interface i) = record { order = s.order; interfaces = s.interfaces ++ i ∷ []; place = place }
after s place n = record { order = s.order; interfaces = s.interfaces; place = place }

abbrev pub next_in : State → (left : List ℕ) → outcome.Outcome
next_in s left = next s.order s.interfaces s.place left

-- ---- the same packets as libpcap writes them

-- version 2.4, nanoseconds, packets of up to 262,144 bytes, Ethernet
abbrev pub classic_head : List ℕ
classic_head = 77 ∷ 60 ∷ 178 ∷ 161 ∷ 2 ∷ 0 ∷ 4 ∷ 0 ∷ 0 ∷ 0 ∷ 0 ∷ 0 ∷ 0 ∷ 0 ∷ 0 ∷ 0 ∷ 0 ∷ 0 ∷ 4 ∷ 0 ∷ 1 ∷ 0 ∷ 0 ∷ 0 ∷ []

-- a packet: when it came, how many bytes were kept, how many it had, and those that were kept
abbrev pub packet_bytes : Moment → (count all : ℕ) → (content : List ℕ) → List ℕ
packet_bytes m count all content =
    to_le_bytes w32 m.seconds ++ to_le_bytes w32 m.nanoseconds ++ to_le_bytes w32 count ++ to_le_bytes w32 all ++ content

-- what is said of packets; this is what the block has behind its head
abbrev pub classic : (block : List ℕ) → News → List ℕ
classic block (news.Packet m count all) = packet_bytes m count all (slice_range block 20 (20 + count))
classic block n = []

-- what stands at a place, of which all came
abbrev pub seen : State → (left : List ℕ) → List ℕ
seen s left = take (needs s.place) left

-- ---- a whole capture

-- what stands at `from` leads to `at`
pub record IsStep (came : List ℕ) (f : Found) (from : ℕ) (t : State) (was : List ℕ) (at : ℕ) (s : State) (given : List ℕ) : Type 0 where
  pub found : next_in t (drop from came) ≡ outcomes.Pass f
  pub to : at ≡ from + f.length
  pub state : s ≡ after t f.place f.news
  pub gives : given ≡ was ++ classic (seen t (drop from came)) f.news

-- These stand one after the other from the front of a capture up to `at`, the last one first; so the capture of libpcap begins.
abbrev pub Leads : (came : List ℕ) → List Found → (at : ℕ) → State → (given : List ℕ) → Type 0
Leads came [] at s given = (at ≡ 0) × (s ≡ start) × (given ≡ classic_head)
Leads came (f ∷ before) at s given =
    (from : ℕ) × (t : State) × (was : List ℕ) × Leads came before from t was × IsStep came f from t was at s given

-- ---- its pieces

-- What came and was not passed. More may have been passed than came.
pub record BlocksParts : Type 0 where
  pub state : State
  pub came : ℕ
  pub passed : ℕ
  pub bytes : List ℕ

-- these are the pieces after all these bytes came, and this was given of them
pub record IsOf (came given : List ℕ) (p : BlocksParts) : Type 0 where
  pub count : p.came ≡ length came
  pub left : p.bytes ≡ drop p.passed came
  pub past : List Found
  pub leads : Leads came past p.passed p.state given

abbrev pub added : List ℕ → BlocksParts → BlocksParts
added piece p = record { state = p.state; came = p.came + length piece; passed = p.passed; bytes = p.bytes ++ drop (p.passed - p.came) piece }

abbrev pub moved : (count : ℕ) → BlocksParts → BlocksParts
moved n p = record { state = p.state; came = p.came; passed = p.passed + n; bytes = drop n p.bytes }

abbrev pub learned : Found → BlocksParts → BlocksParts
learned f p = record { state = after p.state f.place f.news; came = p.came; passed = p.passed; bytes = p.bytes }

abbrev pub passed : Found → BlocksParts → BlocksParts
passed f p = moved f.length (learned f p)

-- between two blocks nothing is left, and nothing of them is to come
abbrev pub is_whole : Place → (came passed : ℕ) → Bool
is_whole places.Head came passed = came == passed
is_whole p came passed = false

abbrev pub is_within : BlocksParts → Bool
is_within p = not (is_whole p.state.place p.came p.passed)

abbrev pub next_of : BlocksParts → outcome.Outcome
next_of p = next_in p.state p.bytes

-- more is given, and this is what the pieces have then
abbrev pub Goes : (old new : BlocksParts) → (before after : List ℕ) → Type 0
Goes old new before after =
    (more : List ℕ) × (after ≡ before ++ more)
    × ((came given : List ℕ) → IsOf came given old → IsOf came (given ++ more) new)

-- where the reading stops. If memory ran out nothing is promised.
abbrev pub StopsAt : Result (Unit {0}) TranslateFault → BlocksParts → Type 0
StopsAt (Ok _) p = next_of p ≡ outcomes.Wait
StopsAt (Err (faults.Damaged at flaw)) p = (k : ℕ) × (next_of p ≡ outcomes.Fault k flaw) × (at ≡ p.passed + k)
StopsAt (Err s) p = Unit {0}

abbrev pub GoesUpTo : Result (Unit {0}) TranslateFault → (old new : BlocksParts) → (before after : List ℕ) → Type 0
GoesUpTo (Err faults.Memory) old new before after = Unit {0}
GoesUpTo r old new before after = Goes old new before after

-- a piece comes after what is left; a capture that is too long stays as it is
abbrev pub Adds : (piece : List ℕ) → Result (Unit {0}) TranslateFault → (old new : BlocksParts) → Type 0
Adds piece (Ok _) old new = new ≡ added piece old
Adds piece (Err faults.Memory) old new = new ≡ old
Adds piece (Err faults.Long) old new = (new ≡ old) × (2 ^ 63 ≤ old.came + length piece)
Adds piece (Err s) old new = ⊥
