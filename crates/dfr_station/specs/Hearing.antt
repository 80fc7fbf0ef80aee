-- What a station makes of what comes, one by one: for each scan one step is taken in, and each order goes to the desk. Where the clock dates
-- the scans, lost ones may stand for a while in which nothing came.
use Rattle.std.specs.Prelude.{◌≡◌, ◌⊎◌, ℕ, ◌≤◌, length, List, [], ◌∷◌, ◌++◌, map, reverse, Bool, true, Option}
use Rattle.dfr_channels.specs.Parts.{ScanParts, SetupParts}
use Rattle.dfr_detect.specs.Detection.{Wanted}
use Rattle.dfr_recorder.specs.Steps.{StepParts}
use Rattle.dfr_recorder.specs.Steps as step
use Rattle.dfr_live.specs.Devices.{Came, call_in}
use Rattle.dfr_station.specs.Acquiring.{missing, Acquired}
use Rattle.dfr_station.specs.Arrivals.{ComesNext, CameFirst}
use Rattle.dfr_station.specs.Detecting.{with_bits}
use Rattle.dfr_station.specs.Lines.{ArrivalParts}
use Rattle.dfr_station.specs.Lines as came
use Rattle.dfr_station.specs.Input.{one_more}
use Rattle.dfr_station.specs.declared.desk.Placed.{Placed}
use Rattle.dfr_station.specs.declared.intake.arrivals.Arrivals.{Arrivals}
use Rattle.dfr_station.specs.declared.intake.arrivals.Ending.{Ending}
use Rattle.dfr_station.specs.declared.intake.arrivals.Ending.TheVariants as ending

-- so far: the steps that were taken in, the orders that go to the desk, how many scans came, and how many of them are lost
pub record Heard : Type 0 where
  pub steps : List StepParts
  pub orders : List ArrivalParts
  pub came : ℕ
  pub lost : ℕ

abbrev pub nothing_heard : Heard
nothing_heard = record { steps = []; orders = []; came = 0; lost = 0 }

-- a scan came that is lost: a lost step is taken in for it, or a scan without readings
abbrev pub HearsLost : List Wanted → SetupParts → Heard → Heard → Type 0
HearsLost ws layout s t =
    (x : StepParts) × ((x ≡ step.Lost) ⊎ ((bits : List Bool) × (x ≡ step.Scan (with_bits ws s.steps (missing layout bits)))))
    × (t ≡ record s { steps = s.steps ++ x ∷ []; came = one_more s.came; lost = one_more s.lost })

-- a scan came that fits: it is taken in with the bits of the detectors, or it is lost
abbrev pub HearsScan : List Wanted → SetupParts → Heard → ScanParts → Heard → Type 0
HearsScan ws layout s scan t =
    (t ≡ record s { steps = s.steps ++ step.Scan (with_bits ws s.steps scan) ∷ []; came = one_more s.came }) ⊎ HearsLost ws layout s t

-- an order goes to the desk, with the number of scans before it, unless there is no place for it in the queue: the first 1,024 orders have one
abbrev pub HearsIn : List Wanted → SetupParts → Heard → ArrivalParts → Heard → Type 0
HearsIn ws layout s (came.Scan scan) t = HearsScan ws layout s scan t
HearsIn ws layout s (came.Lost why) t = HearsLost ws layout s t
HearsIn ws layout s (came.Order line at call) t =
    (t ≡ record s { orders = s.orders ++ came.Order line s.came call ∷ [] }) ⊎ ((t ≡ s) × (1_024 ≤ length s.orders))
HearsIn ws layout s (came.Time line instant) t = t ≡ s
HearsIn ws layout s (came.Skips line why) t = t ≡ s
HearsIn ws layout s came.Noise t = t ≡ s

-- what is heard: what came with the input, or that it stood still for the time of one scan
pub data Sign : Type 0 where
  In : ArrivalParts → Sign
  Gap : Sign

abbrev pub Hears : Bool → List Wanted → SetupParts → Heard → Sign → Heard → Type 0
Hears by_clock ws layout s (In a) t = HearsIn ws layout s a t
Hears by_clock ws layout s Gap t = (by_clock ≡ true) × HearsLost ws layout s t

-- what of it came with the input
abbrev pub arrivals_in : List Sign → List ArrivalParts
arrivals_in [] = []
arrivals_in (In a ∷ signs) = a ∷ arrivals_in signs
arrivals_in (Gap ∷ signs) = arrivals_in signs

-- an order of the queue, as it came
abbrev pub order_of : {A : Type 0} → Placed A → ArrivalParts
order_of p = came.Order p.line p.at (call_in p.order)

-- what is heard where the acquisition is in this state, and these steps were taken in
abbrev pub heard_at : {C A : Type 0} → List StepParts → Acquired C A → Heard
heard_at steps g = record { steps = steps; orders = map order_of g.orders.items; came = g.scans.came; lost = g.scans.lost }

-- these came from there on up to the input's end, or up to where it can't be read
abbrev pub CameInAll : {I A : Type 0} → (I → Option (List ℕ)) → Arrivals I A → List ArrivalParts → Ending → Arrivals I A → Type 0
CameInAll left s came ending.Whole t = ComesNext left s came
CameInAll left s came (ending.Cut count) t = ComesNext left s came
CameInAll left s came ending.Broken t = CameFirst left s came t

-- All that was heard, the newest first: the acquisition made these steps of it, and its counts and orders. So each scan that came over the
-- whole input is one step, at its place: the scan itself with the bits of the detectors, or a counted loss. Between them there may be losses
-- where the input stood still, but only where the clock dates the scans.
pub record HeardAll {I A : Type 0} (left : I → Option (List ℕ)) (by_clock : Bool) (ws : List Wanted) (layout : SetupParts) (s : Acquired (Arrivals I A) A) (steps : List StepParts)
    (t : Acquired (Arrivals I A) A) : Type 0 where
  pub signs : List Sign
  pub heard : Came (Hears by_clock ws layout) nothing_heard signs (heard_at steps t)
  pub lane : t.orders.lane ≡ s.orders.lane
  pub ending : Ending
  pub whole : CameInAll left s.incoming (arrivals_in (reverse signs)) ending t.incoming
