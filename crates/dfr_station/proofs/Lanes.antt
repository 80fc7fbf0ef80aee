-- The acquisition keeps its queue of orders.
use Rattle.std.proofs.Common.{◌≡◌, ◌⊎◌, inl, inr, ℕ, List, [], ◌∷◌, ◌++◌, ◌≤◌, length, true, Option, Result, Ok, Err, sym, ◌∙◌, ap}
use Rattle.dfr_recorder.specs.Steps.{StepParts}
use Rattle.dfr_live.specs.Devices.{Came, TakenFor, GaveOne, GaveAll, goes_on}
use Rattle.dfr_live.specs.declared.station.Fed.{Fed}
use Rattle.dfr_live.specs.declared.station.Fed.TheVariants as fed
use Rattle.dfr_live.specs.Lane.{RingName}
use Rattle.dfr_station.specs.Acquiring.{settled, SentOrders, Acquired, Quietly, Steps, AcquisitionGives, AcquisitionLoses}
use Rattle.dfr_station.specs.Arrivals.{HandsNext}
use Rattle.dfr_station.specs.declared.desk.Placed.{Placed}
use Rattle.dfr_station.specs.declared.intake.arrival.Arrival.TheVariants as arrival
use Rattle.dfr_station.specs.declared.intake.arrivals.Arrivals.{Arrivals}
use Rattle.dfr_station.specs.declared.intake.arrivals.Next.{Next}
use Rattle.dfr_station.specs.declared.intake.arrivals.Next.TheVariants as coming

module _ {I A : Type 0} (left : I → Option (List ℕ)) where
  abbrev lane_of : Acquired (Arrivals I A) A → RingName A
  lane_of g = g.orders.lane

  same_lane : (m t : Acquired (Arrivals I A) A) → t.orders ≡ m.orders → lane_of t ≡ lane_of m
  same_lane m t h = ap (λ (o : SentOrders A). o.lane) h

  of_order : (m t : Acquired (Arrivals I A) A) (more : List (Placed A))
      → (t.orders ≡ record m.orders { items = more }) ⊎ ((t.orders ≡ m.orders) × (1_024 ≤ length m.orders.items)) → lane_of t ≡ lane_of m
  of_order m t more (inl e) = ap (λ (o : SentOrders A). o.lane) e
  of_order m t more (inr e) = ap (λ (o : SentOrders A). o.lane) e.0

  quiet_one : (m t : Acquired (Arrivals I A) A) (x : Next A) → Quietly (HandsNext left) m x t → lane_of t ≡ lane_of m
  quiet_one m t (coming.Arrival (arrival.Scan scan)) h = absurd h.2
  quiet_one m t (coming.Arrival (arrival.Lost why)) h = absurd h.2
  quiet_one m t (coming.Arrival (arrival.Order line place order)) h = of_order m t (m.orders.items ++ record { line = line; at = m.scans.came; order = order } ∷ []) h.2
  quiet_one m t (coming.Arrival (arrival.Time line instant)) h = same_lane m t h.2
  quiet_one m t (coming.Arrival (arrival.Skipped line why)) h = same_lane m t h.2
  quiet_one m t (coming.Arrival arrival.Noise) h = same_lane m t h.2
  quiet_one m t coming.Gap h = same_lane m t h.2.1
  quiet_one m t coming.Read h = same_lane m t h.2
  quiet_one m t coming.Drained h = same_lane m t h.2
  quiet_one m t (coming.End ending) h = absurd h.2

  quiet_all : (s m : Acquired (Arrivals I A) A) (quiet : List (Next A)) → Came (Quietly (HandsNext left)) s quiet m → lane_of m ≡ lane_of s
  quiet_all s m [] h = ap (λ (g : Acquired (Arrivals I A) A). g.orders.lane) (sym h)
  quiet_all s m (x ∷ quiet) h = quiet_one h.0 m x h.2 ∙ quiet_all s h.0 quiet h.1

  step_one : (m t : Acquired (Arrivals I A) A) (x : Next A) (f : Fed A) → Steps m x f t → lane_of t ≡ lane_of m
  step_one m t (coming.Arrival (arrival.Scan scan)) f h = same_lane m t h.1
  step_one m t (coming.Arrival (arrival.Lost why)) f h = same_lane m t h.1
  step_one m t (coming.Arrival (arrival.Order line place order)) f h = absurd h
  step_one m t (coming.Arrival (arrival.Time line instant)) f h = absurd h
  step_one m t (coming.Arrival (arrival.Skipped line why)) f h = absurd h
  step_one m t (coming.Arrival arrival.Noise) f h = absurd h
  step_one m t coming.Gap f h = same_lane m t h.2
  step_one m t coming.Read f h = absurd h
  step_one m t coming.Drained f h = absurd h
  step_one m t (coming.End ending) f h = absurd h

  gave_one : (f g : Acquired (Arrivals I A) A) (r : Result (Fed A) ℕ) → goes_on r ≡ true → AcquisitionGives (HandsNext left) f r g → lane_of g ≡ lane_of f
  gave_one f g (Ok (fed.Scan y)) on h = step_one h.1 g h.3.0 (fed.Scan y) h.3.2 ∙ quiet_all (record f { scans = settled f.scans }) h.1 h.0 h.2
  gave_one f g (Ok fed.Lost) on h = step_one h.1 g h.3.0 fed.Lost h.3.2 ∙ quiet_all (record f { scans = settled f.scans }) h.1 h.0 h.2
  gave_one f g (Ok fed.NotYet) on h = absurd h
  gave_one f g (Ok fed.Done) on h = cc
  gave_one f g (Err code) on h = absurd h

  took_one : (f g : Acquired (Arrivals I A) A) (taken : TakenFor A) → GaveOne (AcquisitionGives (HandsNext left)) AcquisitionLoses f taken g → lane_of g ≡ lane_of f
  took_one f g taken (on, inl h) = gave_one f g taken.0 on h.0
  took_one f g taken (on, inr h) = ap (λ (a : Acquired (Arrivals I A) A). a.orders.lane) h.4.1 ∙ gave_one f h.1 taken.0 on h.3

  took_all : (f g : Acquired (Arrivals I A) A) (given : List (TakenFor A)) → Came (GaveOne (AcquisitionGives (HandsNext left)) AcquisitionLoses) f given g → lane_of g ≡ lane_of f
  took_all f g [] h = ap (λ (a : Acquired (Arrivals I A) A). a.orders.lane) (sym h)
  took_all f g (x ∷ xs) h = took_one h.0 g x h.2 ∙ took_all f h.0 xs h.1

  pub fed_lane : (f g : Acquired (Arrivals I A) A) (steps : List StepParts)
      → GaveAll (AcquisitionGives (HandsNext left)) AcquisitionLoses f steps g → g.orders.lane ≡ f.orders.lane
  fed_lane f g steps h =
      same_lane h.3.1 g h.3.3.3 ∙ (quiet_all (record h.1 { scans = settled h.1.scans }) h.3.1 h.3.0 h.3.2 ∙ took_all f h.1 h.0 h.2)
