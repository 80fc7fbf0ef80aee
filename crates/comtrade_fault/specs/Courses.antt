-- The disturbances of three currents, one after the other.
use Rattle.std.specs.Prelude.{ℕ, zero, suc, ◌+◌, ◌-◌, ◌*◌, ◌==◌, Bool, nat_lt, if◌then◌else◌, List, [], ◌∷◌, length, take, drop, option_and_then, Option, Some, None}
use Rattle.std.specs.List.{list_all}
use Rattle.comtrade_fault.specs.Sizing.{sizes_around, phases, size_from, second_from, most_of}
use Rattle.comtrade_fault.specs.Bounding.{bounds_of}
use Rattle.comtrade_fault.specs.Departures.{departure_from, inception}
use Rattle.comtrade_fault.specs.Settling.{ends_after}
use Rattle.comtrade_fault.specs.Typing.{last_end}
use Rattle.comtrade_fault.specs.Deciding.{kind, doubts}
use Rattle.comtrade_fault.specs.declared.scan.Scan.{Scan}
use Rattle.comtrade_fault.specs.declared.scan.Weights.{Weights}
use Rattle.comtrade_fault.specs.declared.sizes.Sizes.{Sizes}
use Rattle.comtrade_fault.specs.declared.turn.Remainder.{Remainder}
use Rattle.comtrade_fault.specs.declared.bounds.Bounds.{Bounds}
use Rattle.comtrade_fault.specs.declared.ends.Ends.{Ends}
use Rattle.comtrade_fault.specs.declared.kind.Kind.{Kind}
use Rattle.comtrade_fault.specs.declared.kind.Kind.TheVariants.{Fault, Other}
use Rattle.comtrade_fault.specs.declared.kind.Evidence.{Evidence}
use Rattle.comtrade_fault.specs.declared.disturbance.Disturbance.{Disturbance}

-- three phases: their samples, the weights of these, and what a cycle has beside its whole rows
pub record Course : Type 0 where
  pub scans : List Scan
  pub weights : Weights
  pub remainder : Remainder

abbrev pub course : List Scan → Weights → Remainder → Course
course scans weights remainder = record { scans = scans; weights = weights; remainder = remainder }

-- they were not less than half as large before as after
abbrev pub if_live : Sizes → Option Sizes
if_live s = if nat_lt (2 * most_of s.before) (most_of s.after) then None else Some s

-- the sizes of voltages around a row, where there are voltages, and they were live
unfoldable pub live_around : Course → ℕ → ℕ → Option Sizes
live_around v cycle row = if nat_lt (length v.scans) (row + cycle) then None else if_live (sizes_around v.scans v.weights cycle v.remainder row)

-- no sample of some scans is missing
abbrev pub are_known : List Scan → Bool
are_known scans = list_all (λ (x : Scan). x.is_known) scans

-- nor in the cycles around a row
abbrev pub is_whole_around : List Scan → ℕ → ℕ → Bool
is_whole_around scans cycle row = are_known (take (2 * cycle) (drop (row - cycle) scans))

-- what the disturbance that begins at a row is decided by
unfoldable pub evidence_at : Course → Course → ℕ → ℕ → Evidence
evidence_at i v cycle row = record {
  currents = sizes_around i.scans i.weights cycle i.remainder row;
  usual = most_of (phases (size_from i.scans i.weights cycle 0));
  second = phases (second_from i.scans i.weights cycle row);
  voltages = live_around v cycle row;
  is_whole = is_whole_around i.scans cycle row;
}

-- the last end of a fault's phases
abbrev pub end_in : Kind → Ends → Option ℕ
end_in (Fault fault) ends = last_end fault ends
end_in (Other cause) ends = None

-- that from a row on begins at another one; it may be older where that is the very row
unfoldable pub disturbance_at : Course → Course → Bounds → ℕ → ℕ → ℕ → Disturbance
disturbance_at i v b cycle from row =
    let e = evidence_at i v cycle row in
    let ends = ends_after i.scans i.weights b cycle row in
    record { inception = row; may_be_older = from == row; kind = kind e; doubts = doubts e; evidence = e; ends = ends; end = end_in (kind e) ends }

-- that of a row, where a cycle follows
abbrev pub if_whole : Course → Course → Bounds → ℕ → ℕ → ℕ → Option Disturbance
if_whole i v b cycle from row = if nat_lt (length i.scans) (row + cycle) then None else Some (disturbance_at i v b cycle from row)

-- the first disturbance from a row on: the inception of the first departure
unfoldable pub next_from : Course → Course → Bounds → ℕ → ℕ → Option Disturbance
next_from i v b cycle from =
    option_and_then (λ row. if_whole i v b cycle from (inception i.scans i.weights b.step cycle from row)) (departure_from i.scans i.weights b cycle from)

-- the row two cycles after another one, where there are so many rows
abbrev pub two_cycles_after : ℕ → ℕ → ℕ → Option ℕ
two_cycles_after rows cycle row = if nat_lt rows (row + 2 * cycle) then None else Some (row + 2 * cycle)

abbrev pub resumed_after : Kind → Option ℕ → ℕ → ℕ → ℕ → Option ℕ
resumed_after (Fault fault) end row rows cycle = option_and_then (two_cycles_after rows cycle) end
resumed_after (Other cause) end row rows cycle = two_cycles_after rows cycle row

-- from where the next is looked for: two cycles after the end of a fault, or the inception of another one; nowhere after a fault without an end
abbrev pub resumed : Disturbance → ℕ → ℕ → Option ℕ
resumed d rows cycle = resumed_after d.kind d.end d.inception rows cycle

-- a disturbance, and those after it
abbrev pub link : Option Disturbance → (Disturbance → List Disturbance) → List Disturbance
link (Some d) rest = d ∷ rest d
link None rest = []

-- those from a row on, where there is one
abbrev pub onward : Option ℕ → (ℕ → List Disturbance) → List Disturbance
onward (Some from) these = these from
onward None these = []

-- so many disturbances from a row on, or as many as there are
abbrev pub chain : Course → Course → Bounds → ℕ → ℕ → ℕ → List Disturbance
chain i v b cycle zero from = []
chain i v b cycle (suc n) from = link (next_from i v b cycle from) (λ d. onward (resumed d (length i.scans) cycle) (chain i v b cycle n))

-- all, in order; there are none in fewer than three cycles
abbrev pub disturbances : Course → Course → ℕ → List Disturbance
disturbances i v cycle =
    if nat_lt (length i.scans) (3 * cycle) then []
    else chain i v (bounds_of i.scans i.weights cycle) cycle (length i.scans) (2 * cycle)
