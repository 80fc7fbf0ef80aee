-- How what comes becomes the acquisition's steps.
use Rattle.std.proofs.Common.{◌≡◌, ℕ, refl, List, ◌∷◌, true, false, Some, None, Ok}
use Rattle.dfr_live.specs.Devices.{Came}
use Rattle.dfr_live.specs.declared.station.Fed.{Fed}
use Rattle.dfr_live.specs.declared.station.Fed.TheVariants as fed
use Rattle.dfr_station.specs.Acquiring.{Acquired, ComesOf, QuietlyBy, Quietly, Steps, Gave, GivesLost, settled, AcquisitionGives}
use Rattle.dfr_station.specs.declared.intake.arrival.Arrival.TheVariants as arrival
use Rattle.dfr_station.specs.declared.intake.arrivals.Ending.{Ending}
use Rattle.dfr_station.specs.declared.intake.arrivals.Next.{Next}
use Rattle.dfr_station.specs.declared.intake.arrivals.Next.TheVariants as coming

module _ {C A : Type 0} where
  -- after this came, the rest stays
  abbrev pub moved : Acquired C A → C → Acquired C A
  moved s i = record s { incoming = i }

  quietly_at : (s : Acquired C A) (i : C) (x : Next A) (t : Acquired C A) → QuietlyBy (moved s i) x t → QuietlyBy s x t
  quietly_at s i (coming.Arrival (arrival.Scan scan)) t h = h
  quietly_at s i (coming.Arrival (arrival.Lost why)) t h = h
  quietly_at s i (coming.Arrival (arrival.Order line place order)) t h = h
  quietly_at s i (coming.Arrival (arrival.Time line instant)) t h = h
  quietly_at s i (coming.Arrival (arrival.Skipped line why)) t h = h
  quietly_at s i (coming.Arrival arrival.Noise) t h = h
  quietly_at s i coming.Gap t h = h
  quietly_at s i coming.Read t h = h
  quietly_at s i coming.Drained t h = h
  quietly_at s i (coming.End ending) t h = h

  steps_at : (s : Acquired C A) (i : C) (x : Next A) (f : Fed A) (t : Acquired C A) → Steps (moved s i) x f t → Steps s x f t
  steps_at s i (coming.Arrival (arrival.Scan scan)) f t h = h
  steps_at s i (coming.Arrival (arrival.Lost why)) f t h = h
  steps_at s i (coming.Arrival (arrival.Order line place order)) f t h = h
  steps_at s i (coming.Arrival (arrival.Time line instant)) f t h = h
  steps_at s i (coming.Arrival (arrival.Skipped line why)) f t h = h
  steps_at s i (coming.Arrival arrival.Noise) f t h = h
  steps_at s i coming.Gap f t h = h
  steps_at s i coming.Read f t h = h
  steps_at s i coming.Drained f t h = h
  steps_at s i (coming.End ending) f t h = h

  -- what comes is no step that says nothing yet, and none that ends
  never_yet : (s : Acquired C A) (x : Next A) (t : Acquired C A) → Steps s x fed.NotYet t → ⊥
  never_yet s (coming.Arrival (arrival.Scan scan)) t h = h.0
  never_yet s (coming.Arrival (arrival.Lost why)) t h = h.0
  never_yet s (coming.Arrival (arrival.Order line place order)) t h = h
  never_yet s (coming.Arrival (arrival.Time line instant)) t h = h
  never_yet s (coming.Arrival (arrival.Skipped line why)) t h = h
  never_yet s (coming.Arrival arrival.Noise) t h = h
  never_yet s coming.Gap t h = h.1
  never_yet s coming.Read t h = h
  never_yet s coming.Drained t h = h
  never_yet s (coming.End ending) t h = h

  never_done : (s : Acquired C A) (x : Next A) (t : Acquired C A) → Steps s x fed.Done t → ⊥
  never_done s (coming.Arrival (arrival.Scan scan)) t h = h.0
  never_done s (coming.Arrival (arrival.Lost why)) t h = h.0
  never_done s (coming.Arrival (arrival.Order line place order)) t h = h
  never_done s (coming.Arrival (arrival.Time line instant)) t h = h
  never_done s (coming.Arrival (arrival.Skipped line why)) t h = h
  never_done s (coming.Arrival arrival.Noise) t h = h
  never_done s coming.Gap t h = h.1
  never_done s coming.Read t h = h
  never_done s coming.Drained t h = h
  never_done s (coming.End ending) t h = h

  module _ (Comes : ComesOf C A) where
    -- what came until now is no step
    abbrev pub QuietSoFar : Acquired C A → Acquired C A → Type 0
    QuietSoFar s m = (quiet : List (Next A)) × Came (Quietly Comes) s quiet m

    pub quiet_more : (s v m t : Acquired C A) (i : C) (x : Next A)
        → v ≡ m → QuietSoFar s m → Comes v.incoming x i → Gave (moved v i) x None t → QuietSoFar s t
    quiet_more s v m t i x e far comes gave =
        (x ∷ far.0, (v, rw e far.1, (rw gave.2 comes, gave.1, quietly_at v i x t gave.0)))

    pub quiet_gap : (s v m : Acquired C A) (i : C)
        → v ≡ m → QuietSoFar s m → Comes v.incoming coming.Gap i → v.scans.by_clock ≡ false → QuietSoFar s (moved v i)
    quiet_gap s v m i e far comes free = quiet_more s v m (moved v i) i coming.Gap e far comes ((free, refl), refl, refl)

    gives_step : (s m t : Acquired C A) (x : Next A) (f : Fed A)
        → QuietSoFar (record s { scans = settled s.scans }) m → Comes m.incoming x t.incoming → Steps m x f t
        → AcquisitionGives Comes s (Ok f) t
    gives_step s m t x (fed.Scan scan) far comes steps = (far.0, m, far.1, (x, comes, steps))
    gives_step s m t x fed.Lost far comes steps = (far.0, m, far.1, (x, comes, steps))
    gives_step s m t x fed.NotYet far comes steps = never_yet m x t steps
    gives_step s m t x fed.Done far comes steps = absurd (never_done m x t steps)

    pub gives_some : (s v m t : Acquired C A) (i : C) (x : Next A) (f : Fed A)
        → v ≡ m → QuietSoFar (record s { scans = settled s.scans }) m → Comes v.incoming x i → Gave (moved v i) x (Some f) t
        → AcquisitionGives Comes s (Ok f) t
    gives_some s v m t i x f e far comes gave =
        gives_step s v t x f (rw e far) (rw gave.1 comes) (steps_at v i x f t gave.0)

    pub gives_gap : (s v m t : Acquired C A) (f : Fed A)
        → v ≡ m → QuietSoFar (record s { scans = settled s.scans }) m → Comes v.incoming coming.Gap t.incoming → v.scans.by_clock ≡ true
        → GivesLost v.scans f t.scans → t.orders ≡ v.orders → AcquisitionGives Comes s (Ok f) t
    gives_gap s v m t f e far comes dated lost orders = gives_step s v t coming.Gap f (rw e far) comes (dated, lost, orders)

    pub reads_more : (s v m t : Acquired C A) → v ≡ m → QuietSoFar s m → Comes v.incoming coming.Read t.incoming → t.scans ≡ v.scans
        → t.orders ≡ v.orders → QuietSoFar s t
    reads_more s v m t e far comes scans orders = (coming.Read ∷ far.0, (v, rw e far.1, (comes, scans, orders)))

    pub tells_more : (s v m t : Acquired C A) (line instant : ℕ) → v ≡ m → QuietSoFar s m
        → Comes v.incoming (coming.Arrival (arrival.Time line instant)) t.incoming → t.scans ≡ v.scans → t.orders ≡ v.orders → QuietSoFar s t
    tells_more s v m t line instant e far comes scans orders =
        (coming.Arrival (arrival.Time line instant) ∷ far.0, (v, rw e far.1, (comes, scans, orders)))

    pub gives_end : (s v m t : Acquired C A) (ending : Ending)
        → v ≡ m → QuietSoFar (record s { scans = settled s.scans }) m → Comes v.incoming (coming.End ending) t.incoming
        → t.scans ≡ v.scans → t.orders ≡ v.orders → AcquisitionGives Comes s (Ok fed.Done) t
    gives_end s v m t ending e far comes scans orders = (far.0, v, rw e far.1, (ending, comes, scans, orders))
