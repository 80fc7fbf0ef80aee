-- What the three threads of a station do, each by itself.
use Rattle.std.specs.Prelude.{◌≡◌, ℕ, ◌+◌, ◌-◌, ◌≤◌, min, max, List, [], ◌∷◌, ◌++◌, Bool, true, false, Option, Some, None, Result, Ok, Err, All, Contains, IsOk, IfErr, IfSome, ⊤}
use Rattle.dfr_channels.specs.Parts.{ScanParts}
use Rattle.dfr_recorder.specs.declared.step.Hit.{Hit}
use Rattle.dfr_recorder.specs.declared.step.TriggerFault.{TriggerFault}
use Rattle.dfr_live.specs.Parts as call
use Rattle.dfr_live.specs.declared.entry.Reply.TheVariants as reply_is
use Rattle.dfr_live.specs.declared.report.LiveFault.{LiveFault}
use Rattle.dfr_live.specs.declared.report.LiveFault.TheVariants as fault
use Rattle.dfr_live.specs.declared.station.Order.{Order}
use Rattle.dfr_live.specs.declared.station.Order.TheVariants as order
use Rattle.dfr_live.specs.declared.entry.Reply.{Reply}
use Rattle.dfr_live.specs.declared.pumping.Pumping.{Pumping}
use Rattle.dfr_live.specs.declared.pumping.Pumping.TheVariants as pumping
use Rattle.dfr_live.specs.Seen.{TokenParts, SourceParts}
use Rattle.dfr_live.specs.Calls.{Notes}

-- ---- which fault a run gives

abbrev pub Outcome : Type 0
Outcome = Result (Unit {0}) LiveFault

-- the place of a fault in the order in which they are given
abbrev pub rank : LiveFault → ℕ
rank (fault.Feed code) = 1
rank (fault.Sink code) = 2
rank fault.Turns = 3
rank fault.Counter = 4
rank fault.Memory = 5
rank (fault.Open why) = 6
rank (fault.End why) = 7

-- this outcome has no fault of a lower rank
abbrev pub IsNotBefore : LiveFault → Outcome → Type 0
IsNotBefore f o = IfErr o (λ g. rank f ≤ rank g)

-- of these outcomes a run gives the fault of the lowest rank; Ok where all are
abbrev pub GivesFirst : List Outcome → Outcome → Type 0
GivesFirst outcomes (Ok done) = All (λ (o : Outcome). IsOk o) outcomes
GivesFirst outcomes (Err f) = Contains outcomes (Err f) × All (IsNotBefore f) outcomes

-- a thread that couldn't be started counts as a failed allocation
abbrev pub start_outcome : Bool → Outcome
start_outcome true = Ok tt
start_outcome false = Err fault.Memory

-- of a thread that was started there is a result, which keeps its promise
abbrev pub Joins : {H T : Type 0} → (H → T → Type 0) → Option H → Option T → Type 0
Joins Keeps None r = r ≡ None
Joins Keeps (Some h) r = IfSome r (λ x. Keeps h x)

-- so of a thread that could not be started, but whose work its starter has done
abbrev pub JoinsOrHas : {H T : Type 0} → (H → T → Type 0) → Result H T → T → Type 0
JoinsOrHas Keeps (Ok h) r = Keeps h r
JoinsOrHas Keeps (Err done) r = r ≡ done

-- ---- the trigger thread

-- how many scan steps a pump is asked for, where so many were made: as many as are missing up to
-- the place, and 1,024 at most
abbrev pub steps_towards : Option ℕ → ℕ → ℕ
steps_towards (Some place) made = min (place - made) 1_024
steps_towards None made = 1_024

-- the token counts on to the place; it stays as it is where it has counted further
abbrev pub CountsTo : Option ℕ → TokenParts → TokenParts → Type 0
CountsTo (Some place) t u = u ≡ record t { pumped = max t.pumped place }
CountsTo None t u = false ≡ true

-- the token counts on, but not over the place
abbrev pub CountsOn : Option ℕ → TokenParts → TokenParts → Type 0
CountsOn place t u =
    (u ≡ record t { pumped = u.pumped }) × (t.pumped ≤ u.pumped)
    × IfSome place (λ p. u.pumped ≤ max t.pumped p)

-- the token counts on to a place, if scans still come; else it stays as it is, and it is said that none comes any more
abbrev pub PumpsOn : ℕ → Bool → TokenParts → Bool → TokenParts → Type 0
PumpsOn place true t x u = (x ≡ true) × (u ≡ t)
PumpsOn place false t true u = CountsOn (Some place) t u
PumpsOn place false t false u = CountsTo (Some place) t u

-- the token counts on until no scan comes any more
abbrev pub PumpsOut : Bool → TokenParts → TokenParts → Type 0
PumpsOut true t u = u ≡ t
PumpsOut false t u = CountsOn None t u

-- how pumping towards a place ended, for a token that counted on: at the place; or after all scan steps that the lane was
-- given, as their number under that name shows
abbrev pub Pumps : ℕ → Option ℕ → TokenParts → Pumping → TokenParts → Type 0
Pumps id place t pumping.Reached u = CountsTo place t u
Pumps id place t (pumping.Exhausted all) u = (all.of ≡ id) × (all.value ≡ u.pumped)
Pumps id place t pumping.Stopped u = ⊤

-- an order has one entry, of its call, with this reply; none where an allocation failed
abbrev pub EntersOrder : {A : Type 0} → Order A → TokenParts → Option Reply → TokenParts → Type 0
EntersOrder order.Trigger t (Some reply) u = Notes t call.Trigger reply u
EntersOrder (order.SetRules rules) t (Some reply) u = Notes t (call.SetRules rules) reply u
EntersOrder o t None u = u ≡ t

-- ---- the acquisition thread

-- the source after one more lost scan
abbrev pub after_loss : SourceParts → SourceParts
after_loss s = record s { lost = s.lost + 1 }

-- the source after the lane took this scan, and the lost ones before it
abbrev pub after_offer : SourceParts → ScanParts → SourceParts
after_offer s scan = record s {
  offered = s.offered ++ record { lost = s.lost; scan = scan } ∷ [];
  offers = s.offers + 1;
  lost = 0;
}
