-- From what the acquisition gave to what came with the input.
use Rattle.std.proofs.Common.{◌≡◌, ◌⊎◌, inl, inr, ℕ, List, [], ◌∷◌, ◌++◌, ◌≤◌, length, map, reverse, Bool, true, Option, Result, Ok, Err, refl, sym, ◌∙◌, ap, subst, append_assoc}
use Rattle.std.proofs.lemmas.List.{append-nil, length-map, map-append, reverse-append}
use Rattle.std.specs.List.{All}
use Rattle.dfr_channels.specs.Parts.{ScanParts, SetupParts}
use Rattle.dfr_channels.specs.declared.scan.Reading.{Reading}
use Rattle.dfr_detect.specs.Detection.{Wanted, Detected, all_detected, all_fire}
use Rattle.dfr_detect.specs.Lost.{AreAfterLoss, Works}
use Rattle.dfr_detect.proofs.Forgets.{forgets}
use Rattle.dfr_recorder.specs.Steps.{StepParts}
use Rattle.dfr_recorder.specs.Steps as step
use Rattle.dfr_live.specs.Devices.{Came, TakenFor, GaveOne, GaveAll, all_taken, steps_given, goes_on, call_in}
use Rattle.dfr_live.specs.declared.station.Fed.{Fed}
use Rattle.dfr_live.specs.declared.station.Fed.TheVariants as fed
use Rattle.dfr_live.specs.Lane.{RingName}
use Rattle.dfr_live.specs.declared.station.Order.{Order}
use Rattle.dfr_station.specs.Acquiring.{ScansParts, settled, settled_by, dropped, missing, GivesLost, GivesScan, SentOrders, Acquired, Quietly, Steps, AcquisitionGives, AcquisitionLoses}
use Rattle.dfr_station.specs.Arrivals.{ComesNext, CameFirst, HandsNext}
use Rattle.dfr_station.specs.Detecting.{IsDetected, readings_in, history, with_bits}
use Rattle.dfr_station.specs.Hearing.{Heard, nothing_heard, heard_at, Hears, HearsIn, HearsLost, Sign, In, Gap, arrivals_in, order_of, CameInAll, HeardAll}
use Rattle.dfr_station.specs.Lines.{ArrivalParts}
use Rattle.dfr_station.specs.Lines as came
use Rattle.dfr_station.specs.Input.{one_more}
use Rattle.dfr_station.specs.declared.intake.arrival.Arrival.TheVariants as arrival
use Rattle.dfr_station.specs.declared.intake.arrivals.Arrivals.{Arrivals}
use Rattle.dfr_station.specs.declared.intake.arrivals.Ending.{Ending}
use Rattle.dfr_station.specs.declared.intake.arrivals.Ending.TheVariants as ending
use Rattle.dfr_station.specs.declared.intake.arrivals.Next.{Next}
use Rattle.dfr_station.specs.declared.intake.arrivals.Next.TheVariants as coming
use Rattle.dfr_station.specs.declared.scans.LastGiven.{LastGiven}
use Rattle.dfr_station.specs.declared.scans.LastGiven.TheVariants as given

-- ---- the counts

-- the clock dates the scans of both, or of neither, and they have one layout
abbrev SameBase : ScansParts → ScansParts → Type 0
SameBase s t = (t.by_clock ≡ s.by_clock) × (t.layout ≡ s.layout)

same_base : (s t : ScansParts) → t ≡ s → SameBase s t
same_base s t h = rw h (refl, refl)

abbrev SameCounts : ScansParts → ScansParts → Type 0
SameCounts s t = (t.came ≡ s.came) × (t.lost ≡ s.lost) × SameBase s t

settles_keeping : (g : LastGiven) (s : ScansParts) → (settled_by g s).detected ≡ s.detected
settles_keeping given.Nothing s = refl
settles_keeping given.Scan s = refl
settles_keeping given.Filler s = refl

settles_by : (g : LastGiven) (s : ScansParts) → SameCounts s (settled_by g s)
settles_by given.Nothing s = (refl, refl, (refl, refl))
settles_by given.Scan s = (refl, refl, (refl, refl))
settles_by given.Filler s = (refl, refl, (refl, refl))

drops_scan : (s : ScansParts) → s.last ≡ given.Scan → SameCounts (record s { lost = one_more s.lost }) (dropped s)
drops_scan s h = rw h (refl, refl, (refl, refl))

drops_filler : (s : ScansParts) → s.last ≡ given.Filler → SameCounts s (dropped s)
drops_filler s h = rw h (refl, refl, (refl, refl))

arrivals-append : (xs ys : List Sign) → arrivals_in (xs ++ ys) ≡ arrivals_in xs ++ arrivals_in ys
arrivals-append [] ys = refl
arrivals-append (In a ∷ xs) ys = ap (λ (l : List ArrivalParts). a ∷ l) (arrivals-append xs ys)
arrivals-append (Gap ∷ xs) ys = arrivals-append xs ys

-- ---- the detectors

history_more : (steps : List StepParts) (x : StepParts) → history (steps ++ x ∷ []) ≡ readings_in x ∷ history steps
history_more steps x = ap (λ (xs : List (List Reading)). reverse xs) (map-append readings_in steps (x ∷ [])) ∙ reverse-append (map readings_in steps) (readings_in x ∷ [])

-- what is kept of these steps
abbrev Keeps : List Wanted → List StepParts → List Detected → Type 0
Keeps ws steps kept = all_detected ws (history steps) ≡ kept

same_scan : (x : ScanParts) (analog : List Reading) (status : List Bool) → x.analog ≡ analog → x.status ≡ status → x ≡ record { analog = analog; status = status }
same_scan x analog status a b = rw (← a, ← b) refl

-- a scan with the bits of the detectors is that of their definitions, and what they keep is kept of it
gives_bits : (ws : List Wanted) (steps : List StepParts) (old : List Detected) (scan x : ScanParts) (new : List Detected)
    → Keeps ws steps old → IsDetected old scan x new → (x ≡ with_bits ws steps scan) × Keeps ws (steps ++ step.Scan x ∷ []) new
gives_bits ws steps old scan x new keeps is =
    let told = is.1 ws (history steps) keeps in (
      same_scan x scan.analog (scan.status ++ all_fire ws (scan.analog ∷ history steps)) is.0 (sym told.0),
      ap (λ (scans : List (List Reading)). all_detected ws scans) (history_more steps (step.Scan x) ∙ ap (λ (r : List Reading). r ∷ history steps) is.0) ∙ told.1,
    )

keeps_lost : (ws : List Wanted) (steps : List StepParts) (old new : List Detected)
    → Keeps ws steps old → AreAfterLoss old new → Keeps ws (steps ++ step.Lost ∷ []) new
keeps_lost ws steps old new keeps after = ap (λ (scans : List (List Reading)). all_detected ws scans) (history_more steps step.Lost) ∙ after ws (history steps) keeps

-- a scan that was lost after all
keeps_dropped : (ws : List Wanted) (steps : List StepParts) (x : StepParts) (old new : List Detected)
    → All Works ws → Keeps ws (steps ++ x ∷ []) old → AreAfterLoss old new → Keeps ws (steps ++ step.Lost ∷ []) new
keeps_dropped ws steps x old new works keeps after =
    ap (λ (scans : List (List Reading)). all_detected ws scans) (history_more steps step.Lost)
    ∙ forgets ws (history steps) (history (steps ++ x ∷ [])) works
    ∙ after ws (history (steps ++ x ∷ [])) keeps

module _ {I A : Type 0} (left : I → Option (List ℕ)) (by_clock : Bool) (ws : List Wanted) (works : All Works ws) (layout : SetupParts) (named : RingName A) (first : Arrivals I A) (none : Heard) where
  -- what was heard up to now, the newest first, before what comes from now on
  pub record SoFar (g : Acquired (Arrivals I A) A) (steps : List StepParts) : Type 0 where
    pub signs : List Sign
    pub heard : Came (Hears by_clock ws layout) none signs (heard_at steps g)
    pub leads : CameFirst left first (arrivals_in (reverse signs)) g.incoming
    pub clock : g.scans.by_clock ≡ by_clock
    pub same : g.scans.layout ≡ layout
    pub lane : g.orders.lane ≡ named
    pub keeps : Keeps ws steps g.scans.detected

  signs_more : (signs : List Sign) (a : ArrivalParts) → arrivals_in (reverse (In a ∷ signs)) ≡ arrivals_in (reverse signs) ++ a ∷ []
  signs_more signs a = ap arrivals_in (reverse-append (In a ∷ []) signs) ∙ arrivals-append (reverse signs) (In a ∷ [])

  gap_more : (signs : List Sign) → arrivals_in (reverse (Gap ∷ signs)) ≡ arrivals_in (reverse signs)
  gap_more signs =
      ap arrivals_in (reverse-append (Gap ∷ []) signs) ∙ arrivals-append (reverse signs) (Gap ∷ []) ∙ append-nil (arrivals_in (reverse signs))

  came_more : (signs : List Sign) (a : ArrivalParts) (g h : Arrivals I A)
      → CameFirst left first (arrivals_in (reverse signs)) g → CameFirst left g (a ∷ []) h → CameFirst left first (arrivals_in (reverse (In a ∷ signs))) h
  came_more signs a g h far hands =
      subst (λ (l : List ArrivalParts). CameFirst left first l h) (sym (signs_more signs a)) (record {
        before = λ xs c.
            subst (λ (l : List ArrivalParts). ComesNext left first l) (sym (append_assoc (arrivals_in (reverse signs)) (a ∷ []) xs)) (far.before (a ∷ xs) (hands.before xs c));
      })

  one_came : (g h : Acquired (Arrivals I A) A) (steps later : List StepParts) (a : ArrivalParts)
      → SoFar g steps → HearsIn ws layout (heard_at steps g) a (heard_at later h) → CameFirst left g.incoming (a ∷ []) h.incoming
      → SameBase g.scans h.scans → h.orders.lane ≡ g.orders.lane → Keeps ws later h.scans.detected → SoFar h later
  one_came g h steps later a far hears hands same queue keeps = record {
    signs = In a ∷ far.signs;
    heard = (heard_at steps g, far.heard, hears);
    leads = came_more far.signs a g.incoming h.incoming far.leads hands;
    clock = same.0 ∙ far.clock;
    same = same.1 ∙ far.same;
    lane = queue ∙ far.lane;
    keeps = keeps;
  }

  -- it stood still for the time of one scan
  gap_came : (g h : Acquired (Arrivals I A) A) (steps later : List StepParts)
      → SoFar g steps → g.scans.by_clock ≡ true → HearsLost ws layout (heard_at steps g) (heard_at later h) → CameFirst left g.incoming [] h.incoming
      → SameBase g.scans h.scans → h.orders.lane ≡ g.orders.lane → Keeps ws later h.scans.detected → SoFar h later
  gap_came g h steps later far dated hears hands same queue keeps = record {
    signs = Gap ∷ far.signs;
    heard = (heard_at steps g, far.heard, (sym far.clock ∙ dated, hears));
    leads = subst (λ (l : List ArrivalParts). CameFirst left first l h.incoming) (sym (gap_more far.signs)) (record { before = λ xs c. far.leads.before xs (hands.before xs c) });
    clock = same.0 ∙ far.clock;
    same = same.1 ∙ far.same;
    lane = queue ∙ far.lane;
    keeps = keeps;
  }

  none_came : (g h : Acquired (Arrivals I A) A) (steps : List StepParts)
      → SoFar g steps → heard_at steps h ≡ heard_at steps g → CameFirst left g.incoming [] h.incoming
      → SameBase g.scans h.scans → h.orders.lane ≡ g.orders.lane → h.scans.detected ≡ g.scans.detected → SoFar h steps
  none_came g h steps far is hands same queue kept = record {
    signs = far.signs;
    heard = subst (λ (x : Heard). Came (Hears by_clock ws layout) none far.signs x) (sym is) far.heard;
    leads = record { before = λ xs c. far.leads.before xs (hands.before xs c) };
    clock = same.0 ∙ far.clock;
    same = same.1 ∙ far.same;
    lane = queue ∙ far.lane;
    keeps = far.keeps ∙ sym kept;
  }

  hears_order : (m t : Acquired (Arrivals I A) A) (steps : List StepParts) (line place : ℕ) (order : Order A)
      → t.scans ≡ m.scans → (t.orders ≡ record m.orders { items = m.orders.items ++ record { line = line; at = m.scans.came; order = order } ∷ [] }) ⊎ ((t.orders ≡ m.orders) × (1_024 ≤ length m.orders.items))
      → HearsIn ws layout (heard_at steps m) (came.Order line place (call_in order)) (heard_at steps t)
  hears_order m t steps line place order scans (inl e) =
      inl (rw (scans, e) (rw (map-append order_of m.orders.items (record { line = line; at = m.scans.came; order = order } ∷ [])) refl))
  hears_order m t steps line place order scans (inr e) =
      inr (rw (scans, e.0) refl, rw (length-map m.orders.items (order_of {A = A})) e.1)

  same_lane : (m t : Acquired (Arrivals I A) A) → t.orders ≡ m.orders → t.orders.lane ≡ m.orders.lane
  same_lane m t h = ap (λ (o : SentOrders A). o.lane) h

  order_lane : (m t : Acquired (Arrivals I A) A) (line place : ℕ) (order : Order A)
      → (t.orders ≡ record m.orders { items = m.orders.items ++ record { line = line; at = m.scans.came; order = order } ∷ [] }) ⊎ ((t.orders ≡ m.orders) × (1_024 ≤ length m.orders.items))
      → t.orders.lane ≡ m.orders.lane
  order_lane m t line place order (inl e) = ap (λ (o : SentOrders A). o.lane) e
  order_lane m t line place order (inr e) = ap (λ (o : SentOrders A). o.lane) e.0

  heard_quietly : (m t : Acquired (Arrivals I A) A) (x : Next A) (steps : List StepParts)
      → SoFar m steps → Quietly (HandsNext left) m x t → SoFar t steps
  heard_quietly m t (coming.Arrival (arrival.Scan scan)) steps far h = absurd h.2
  heard_quietly m t (coming.Arrival (arrival.Lost why)) steps far h = absurd h.2
  heard_quietly m t (coming.Arrival (arrival.Order line place order)) steps far h =
      one_came m t steps steps (came.Order line place (call_in order)) far (hears_order m t steps line place order h.1 h.2) h.0 (same_base m.scans t.scans h.1) (order_lane m t line place order h.2) (far.keeps ∙ sym (ap (λ (s : ScansParts). s.detected) h.1))
  heard_quietly m t (coming.Arrival (arrival.Time line instant)) steps far h =
      one_came m t steps steps (came.Time line instant) far (rw (h.1, h.2) refl) h.0 (same_base m.scans t.scans h.1) (same_lane m t h.2) (far.keeps ∙ sym (ap (λ (s : ScansParts). s.detected) h.1))
  heard_quietly m t (coming.Arrival (arrival.Skipped line why)) steps far h =
      one_came m t steps steps (came.Skips line why) far (rw (h.1, h.2) refl) h.0 (same_base m.scans t.scans h.1) (same_lane m t h.2) (far.keeps ∙ sym (ap (λ (s : ScansParts). s.detected) h.1))
  heard_quietly m t (coming.Arrival arrival.Noise) steps far h =
      one_came m t steps steps came.Noise far (rw (h.1, h.2) refl) h.0 (same_base m.scans t.scans h.1) (same_lane m t h.2) (far.keeps ∙ sym (ap (λ (s : ScansParts). s.detected) h.1))
  heard_quietly m t coming.Gap steps far h =
      none_came m t steps far (rw (h.1, h.2.1) refl) h.0 (same_base m.scans t.scans h.1) (same_lane m t h.2.1) (ap (λ (s : ScansParts). s.detected) h.1)
  heard_quietly m t coming.Read steps far h =
      none_came m t steps far (rw (h.1, h.2) refl) h.0 (same_base m.scans t.scans h.1) (same_lane m t h.2) (ap (λ (s : ScansParts). s.detected) h.1)
  heard_quietly m t coming.Drained steps far h =
      none_came m t steps far (rw (h.1, h.2) refl) h.0 (same_base m.scans t.scans h.1) (same_lane m t h.2) (ap (λ (s : ScansParts). s.detected) h.1)
  heard_quietly m t (coming.End ending) steps far h = absurd h.2

  heard_quiet : (s m : Acquired (Arrivals I A) A) (quiet : List (Next A)) (steps : List StepParts)
      → SoFar s steps → Came (Quietly (HandsNext left)) s quiet m → SoFar m steps
  heard_quiet s m [] steps far h = subst (λ (x : Acquired (Arrivals I A) A). SoFar x steps) h far
  heard_quiet s m (x ∷ quiet) steps far h = heard_quietly h.0 m x steps (heard_quiet s h.0 quiet steps far h.1) h.2

  heard_settled : (s : Acquired (Arrivals I A) A) (steps : List StepParts) → SoFar s steps → SoFar (record s { scans = settled s.scans }) steps
  heard_settled s steps far =
      let h = settles_by s.scans.last s.scans in
      none_came s (record s { scans = settled s.scans }) steps far (rw (h.0, h.1) refl) (record { before = λ xs c. c }) h.2 refl (settles_keeping s.scans.last s.scans)

  hears_lost : (m t : Acquired (Arrivals I A) A) (steps : List StepParts) (x : StepParts)
      → (x ≡ step.Lost) ⊎ ((bits : List Bool) × (x ≡ step.Scan (with_bits ws steps (missing layout bits)))) → t.orders ≡ m.orders
      → (t.scans.came ≡ one_more m.scans.came) → t.scans.lost ≡ one_more m.scans.lost
      → HearsLost ws layout (heard_at steps m) (heard_at (steps ++ x ∷ []) t)
  hears_lost m t steps x is orders came lost = (x, is, rw (orders, came, lost) refl)

  -- a lost scan was given in its place, and what the detectors keep
  gives_lost : (m t : Acquired (Arrivals I A) A) (bits : List Bool) (steps : List StepParts) (f : Fed A)
      → m.scans.layout ≡ layout → Keeps ws steps m.scans.detected → GivesLost {A = A} (record m.scans { noted = bits }) f t.scans → t.orders ≡ m.orders
      → HearsLost ws layout (heard_at steps m) (heard_at (steps ++ steps_given (Ok f)) t) × Keeps ws (steps ++ steps_given (Ok f)) t.scans.detected
  gives_lost m t bits steps fed.Lost same keeps h orders = (
    hears_lost m t steps step.Lost (inl refl) orders (ap (λ (s : ScansParts). s.came) h.0) (ap (λ (s : ScansParts). s.lost) h.0),
    keeps_lost ws steps m.scans.detected t.scans.detected keeps h.1,
  )
  gives_lost m t bits steps (fed.Scan y) same keeps h orders =
      let told = gives_bits ws steps m.scans.detected (missing m.scans.layout m.scans.bits) y t.scans.detected keeps h.1 in (
        hears_lost m t steps (step.Scan y) (inr (m.scans.bits, ap step.Scan (told.0 ∙ ap (λ (l : SetupParts). with_bits ws steps (missing l m.scans.bits)) same))) orders
            (ap (λ (s : ScansParts). s.came) h.2) (ap (λ (s : ScansParts). s.lost) h.2),
        told.1,
      )
  gives_lost m t bits steps fed.NotYet same keeps h orders = absurd h
  gives_lost m t bits steps fed.Done same keeps h orders = absurd h

  hears_scan : (m t : Acquired (Arrivals I A) A) (scan : ScanParts) (f : Fed A) (steps : List StepParts)
      → m.scans.layout ≡ layout → Keeps ws steps m.scans.detected → GivesScan m.scans scan f t.scans → t.orders ≡ m.orders
      → HearsIn ws layout (heard_at steps m) (came.Scan scan) (heard_at (steps ++ steps_given (Ok f)) t) × Keeps ws (steps ++ steps_given (Ok f)) t.scans.detected
  hears_scan m t scan (fed.Scan y) steps same keeps (inl e) orders =
      let came : t.scans.came ≡ one_more m.scans.came = ap (λ (s : ScansParts). s.came) e.1 in
      let lost : t.scans.lost ≡ m.scans.lost = ap (λ (s : ScansParts). s.lost) e.1 in
      let told = gives_bits ws steps m.scans.detected scan y t.scans.detected keeps e.0 in
      (inl (rw (orders, came, lost, told.0) refl), told.1)
  hears_scan m t scan (fed.Scan y) steps same keeps (inr e) orders =
      let told = gives_lost m t e.0 steps (fed.Scan y) same keeps e.1 orders in (inr told.0, told.1)
  hears_scan m t scan fed.Lost steps same keeps e orders =
      let told = gives_lost m t e.0 steps fed.Lost same keeps e.1 orders in (inr told.0, told.1)
  hears_scan m t scan fed.NotYet steps same keeps e orders = absurd e
  hears_scan m t scan fed.Done steps same keeps e orders = absurd e

  lost_base : (s t : ScansParts) (f : Fed A) → GivesLost {A = A} s f t → SameBase s t
  lost_base s t fed.Lost h = (ap (λ (s : ScansParts). s.by_clock) h.0, ap (λ (s : ScansParts). s.layout) h.0)
  lost_base s t (fed.Scan y) h = (ap (λ (s : ScansParts). s.by_clock) h.2, ap (λ (s : ScansParts). s.layout) h.2)
  lost_base s t fed.NotYet h = absurd h
  lost_base s t fed.Done h = absurd h

  scan_base : (s t : ScansParts) (scan : ScanParts) (f : Fed A) → GivesScan s scan f t → SameBase s t
  scan_base s t scan (fed.Scan y) (inl e) = (ap (λ (s : ScansParts). s.by_clock) e.1, ap (λ (s : ScansParts). s.layout) e.1)
  scan_base s t scan (fed.Scan y) (inr e) = lost_base (record s { noted = e.0 }) t (fed.Scan y) e.1
  scan_base s t scan fed.Lost e = lost_base (record s { noted = e.0 }) t fed.Lost e.1
  scan_base s t scan fed.NotYet e = absurd e
  scan_base s t scan fed.Done e = absurd e

  -- one more step
  heard_step : (m t : Acquired (Arrivals I A) A) (x : Next A) (f : Fed A) (steps : List StepParts)
      → SoFar m steps → HandsNext left m.incoming x t.incoming → Steps m x f t → SoFar t (steps ++ steps_given (Ok f))
  heard_step m t (coming.Arrival (arrival.Scan scan)) f steps far hands h =
      let told = hears_scan m t scan f steps far.same far.keeps h.0 h.1 in
      one_came m t steps (steps ++ steps_given (Ok f)) (came.Scan scan) far told.0 hands (scan_base m.scans t.scans scan f h.0) (same_lane m t h.1) told.1
  heard_step m t (coming.Arrival (arrival.Lost why)) f steps far hands h =
      let told = gives_lost m t m.scans.noted steps f far.same far.keeps h.0 h.1 in
      one_came m t steps (steps ++ steps_given (Ok f)) (came.Lost why) far told.0 hands (lost_base m.scans t.scans f h.0) (same_lane m t h.1) told.1
  heard_step m t (coming.Arrival (arrival.Order line place order)) f steps far hands h = absurd h
  heard_step m t (coming.Arrival (arrival.Time line instant)) f steps far hands h = absurd h
  heard_step m t (coming.Arrival (arrival.Skipped line why)) f steps far hands h = absurd h
  heard_step m t (coming.Arrival arrival.Noise) f steps far hands h = absurd h
  heard_step m t coming.Gap f steps far hands h =
      let told = gives_lost m t m.scans.noted steps f far.same far.keeps h.1 h.2 in
      gap_came m t steps (steps ++ steps_given (Ok f)) far h.0 told.0 hands (lost_base m.scans t.scans f h.1) (same_lane m t h.2) told.1
  heard_step m t coming.Read f steps far hands h = absurd h
  heard_step m t coming.Drained f steps far hands h = absurd h
  heard_step m t (coming.End ending) f steps far hands h = absurd h

  -- a lost scan has been counted
  abbrev one_lost : ScansParts → ScansParts
  one_lost s = record s { came = one_more s.came; lost = one_more s.lost }

  same_dropped : (t u : ScansParts) → u ≡ record (dropped t) { detected = u.detected } → SameCounts (dropped t) u
  same_dropped t u h = (ap (λ (s : ScansParts). s.came) h, ap (λ (s : ScansParts). s.lost) h, (ap (λ (s : ScansParts). s.by_clock) h, ap (λ (s : ScansParts). s.layout) h))

  counts_on : (r s t : ScansParts) → SameCounts r s → SameCounts s t → SameCounts r t
  counts_on r s t a b = (b.0 ∙ a.0, b.1 ∙ a.1, (b.2.0 ∙ a.2.0, b.2.1 ∙ a.2.1))

  dropped_lost : (s t : ScansParts) (y : ScanParts) → GivesLost {A = A} s (fed.Scan y) t → SameCounts (one_lost s) (dropped t)
  dropped_lost s t y h =
      let d = drops_filler t (ap (λ (s : ScansParts). s.last) h.2) in
      (d.0 ∙ ap (λ (s : ScansParts). s.came) h.2, d.1 ∙ ap (λ (s : ScansParts). s.lost) h.2, (d.2.0 ∙ ap (λ (s : ScansParts). s.by_clock) h.2, d.2.1 ∙ ap (λ (s : ScansParts). s.layout) h.2))

  dropped_scan : (s t : ScansParts) (scan y : ScanParts) → GivesScan {A = A} s scan (fed.Scan y) t → SameCounts (one_lost s) (dropped t)
  dropped_scan s t scan y (inl e) =
      let d = drops_scan t (ap (λ (s : ScansParts). s.last) e.1) in
      (d.0 ∙ ap (λ (s : ScansParts). s.came) e.1, d.1 ∙ ap (λ (s : ScansParts). one_more s.lost) e.1, (d.2.0 ∙ ap (λ (s : ScansParts). s.by_clock) e.1, d.2.1 ∙ ap (λ (s : ScansParts). s.layout) e.1))
  dropped_scan s t scan y (inr e) = dropped_lost (record s { noted = e.0 }) t y e.1

  -- one more step, that the queue had no place for
  heard_drop : (m t u : Acquired (Arrivals I A) A) (x : Next A) (y : ScanParts) (steps : List StepParts)
      → SoFar m steps → HandsNext left m.incoming x t.incoming → Steps m x (fed.Scan y) t → AcquisitionLoses t u → SoFar u (steps ++ step.Lost ∷ [])
  heard_drop m t u (coming.Arrival (arrival.Scan scan)) y steps far hands h loses =
      let told = hears_scan m t scan (fed.Scan y) steps far.same far.keeps h.0 h.1 in
      let d = counts_on (one_lost m.scans) (dropped t.scans) u.scans (dropped_scan m.scans t.scans scan y h.0) (same_dropped t.scans u.scans loses.2.0) in
      let orders : u.orders ≡ m.orders = ap (λ (a : Acquired (Arrivals I A) A). a.orders) loses.1 ∙ h.1 in
      one_came m u steps (steps ++ step.Lost ∷ []) (came.Scan scan) far (inr (hears_lost m u steps step.Lost (inl refl) orders d.0 d.1))
      (subst (λ (i : Arrivals I A). CameFirst left m.incoming (came.Scan scan ∷ []) i) (sym (ap (λ (a : Acquired (Arrivals I A) A). a.incoming) loses.1)) hands)
      d.2 (same_lane m u orders) (keeps_dropped ws steps (step.Scan y) t.scans.detected u.scans.detected works told.1 loses.2.1)
  heard_drop m t u (coming.Arrival (arrival.Lost why)) y steps far hands h loses =
      let told = gives_lost m t m.scans.noted steps (fed.Scan y) far.same far.keeps h.0 h.1 in
      let d = counts_on (one_lost m.scans) (dropped t.scans) u.scans (dropped_lost m.scans t.scans y h.0) (same_dropped t.scans u.scans loses.2.0) in
      let orders : u.orders ≡ m.orders = ap (λ (a : Acquired (Arrivals I A) A). a.orders) loses.1 ∙ h.1 in
      one_came m u steps (steps ++ step.Lost ∷ []) (came.Lost why) far (hears_lost m u steps step.Lost (inl refl) orders d.0 d.1)
      (subst (λ (i : Arrivals I A). CameFirst left m.incoming (came.Lost why ∷ []) i) (sym (ap (λ (a : Acquired (Arrivals I A) A). a.incoming) loses.1)) hands)
      d.2 (same_lane m u orders) (keeps_dropped ws steps (step.Scan y) t.scans.detected u.scans.detected works told.1 loses.2.1)
  heard_drop m t u (coming.Arrival (arrival.Order line place order)) y steps far hands h loses = absurd h
  heard_drop m t u (coming.Arrival (arrival.Time line instant)) y steps far hands h loses = absurd h
  heard_drop m t u (coming.Arrival (arrival.Skipped line why)) y steps far hands h loses = absurd h
  heard_drop m t u (coming.Arrival arrival.Noise) y steps far hands h loses = absurd h
  heard_drop m t u coming.Gap y steps far hands h loses =
      let told = gives_lost m t m.scans.noted steps (fed.Scan y) far.same far.keeps h.1 h.2 in
      let d = counts_on (one_lost m.scans) (dropped t.scans) u.scans (dropped_lost m.scans t.scans y h.1) (same_dropped t.scans u.scans loses.2.0) in
      let orders : u.orders ≡ m.orders = ap (λ (a : Acquired (Arrivals I A) A). a.orders) loses.1 ∙ h.2 in
      gap_came m u steps (steps ++ step.Lost ∷ []) far h.0 (hears_lost m u steps step.Lost (inl refl) orders d.0 d.1)
      (subst (λ (i : Arrivals I A). CameFirst left m.incoming [] i) (sym (ap (λ (a : Acquired (Arrivals I A) A). a.incoming) loses.1)) hands)
      d.2 (same_lane m u orders) (keeps_dropped ws steps (step.Scan y) t.scans.detected u.scans.detected works told.1 loses.2.1)
  heard_drop m t u coming.Read y steps far hands h loses = absurd h
  heard_drop m t u coming.Drained y steps far hands h loses = absurd h
  heard_drop m t u (coming.End ending) y steps far hands h loses = absurd h

  heard_gave : (f g : Acquired (Arrivals I A) A) (r : Result (Fed A) ℕ) (steps : List StepParts)
      → SoFar f steps → goes_on r ≡ true → AcquisitionGives (HandsNext left) f r g → SoFar g (steps ++ steps_given r)
  heard_gave f g (Ok (fed.Scan y)) steps far on h =
      heard_step h.1 g h.3.0 (fed.Scan y) steps (heard_quiet _ h.1 h.0 steps (heard_settled f steps far) h.2) h.3.1 h.3.2
  heard_gave f g (Ok fed.Lost) steps far on h =
      heard_step h.1 g h.3.0 fed.Lost steps (heard_quiet _ h.1 h.0 steps (heard_settled f steps far) h.2) h.3.1 h.3.2
  heard_gave f g (Ok fed.NotYet) steps far on h = absurd h
  heard_gave f g (Ok fed.Done) steps far on h = cc
  heard_gave f g (Err code) steps far on h = absurd h

  heard_loses : (f m g : Acquired (Arrivals I A) A) (scan : ScanParts) (steps : List StepParts)
      → SoFar f steps → AcquisitionGives (HandsNext left) f (Ok (fed.Scan scan)) m → AcquisitionLoses m g → SoFar g (steps ++ step.Lost ∷ [])
  heard_loses f m g scan steps far h loses =
      heard_drop h.1 m g h.3.0 scan steps (heard_quiet _ h.1 h.0 steps (heard_settled f steps far) h.2) h.3.1 h.3.2 loses

  heard_one : (f g : Acquired (Arrivals I A) A) (taken : TakenFor A) (steps : List StepParts)
      → SoFar f steps → GaveOne (AcquisitionGives (HandsNext left)) AcquisitionLoses f taken g → SoFar g (steps ++ taken.1)
  heard_one f g taken steps far (on, inl h) =
      subst (λ (l : List StepParts). SoFar g (steps ++ l)) (sym h.1) (heard_gave f g taken.0 steps far on h.0)
  heard_one f g taken steps far (on, inr h) =
      subst (λ (l : List StepParts). SoFar g (steps ++ l)) (sym h.5)
      (heard_loses f h.1 g h.0 steps far (subst (λ (r : Result (Fed A) ℕ). AcquisitionGives (HandsNext left) f r h.1) h.2 h.3) h.4)

  heard_ones : (f g : Acquired (Arrivals I A) A) (given : List (TakenFor A)) (steps : List StepParts)
      → SoFar f steps → Came (GaveOne (AcquisitionGives (HandsNext left)) AcquisitionLoses) f given g → SoFar g (steps ++ all_taken given)
  heard_ones f g [] steps far h =
      subst (λ (x : Acquired (Arrivals I A) A). SoFar x (steps ++ [])) h (subst (λ (l : List StepParts). SoFar f l) (sym (append-nil steps)) far)
  heard_ones f g (x ∷ xs) steps far h =
      subst (λ (l : List StepParts). SoFar g l) (append_assoc steps (all_taken xs) x.1)
      (heard_one h.0 g x (steps ++ all_taken xs) (heard_ones f h.0 xs steps far h.1) h.2)

  ends_so : (came : List ArrivalParts) (m t : Arrivals I A) (ending : Ending)
      → CameFirst left first came m → HandsNext left m (coming.End ending) t → CameInAll left first came ending t
  ends_so came m t ending.Whole far h = subst (λ (l : List ArrivalParts). ComesNext left first l) (append-nil came) (far.before [] h.0)
  ends_so came m t (ending.Cut count) far h = subst (λ (l : List ArrivalParts). ComesNext left first l) (append-nil came) (far.before [] h.0)
  ends_so came m t ending.Broken far h = record { before = λ xs c. far.before xs (h.before xs c) }

module _ {I A : Type 0} (left : I → Option (List ℕ)) (by_clock : Bool) (ws : List Wanted) (works : All Works ws) (layout : SetupParts) where
  -- all that the acquisition gave was heard
  pub heard_all : (f g : Acquired (Arrivals I A) A) (steps : List StepParts)
      → heard_at [] f ≡ nothing_heard → f.scans.by_clock ≡ by_clock → f.scans.layout ≡ layout → all_detected ws [] ≡ f.scans.detected
      → GaveAll (AcquisitionGives (HandsNext left)) AcquisitionLoses f steps g → HeardAll left by_clock ws layout f steps g
  heard_all f g steps begun clock same kept h =
      let start : SoFar left by_clock ws works layout f.orders.lane f.incoming nothing_heard f [] =
      record { signs = []; heard = sym begun; leads = record { before = λ xs c. c }; clock = clock; same = same; lane = refl; keeps = kept } in
      let all = heard_ones left by_clock ws works layout f.orders.lane f.incoming nothing_heard f h.1 h.0 [] start h.2 in
      let done = h.3 in
      let far = heard_quiet left by_clock ws works layout f.orders.lane f.incoming nothing_heard _ done.1 done.0 (all_taken h.0) (heard_settled left by_clock ws works layout f.orders.lane f.incoming nothing_heard h.1 (all_taken h.0) all) done.2 in
      record {
        signs = far.signs;
        heard = subst (λ (x : Heard). Came (Hears by_clock ws layout) nothing_heard far.signs x)
            (rw (done.3.2, done.3.3, h.4) refl)
            far.heard;
        lane = ap (λ (o : SentOrders A). o.lane) done.3.3 ∙ far.lane;
        ending = done.3.0;
        whole = ends_so left by_clock ws works layout f.orders.lane f.incoming nothing_heard (arrivals_in (reverse far.signs)) done.1.incoming g.incoming done.3.0 far.leads done.3.1;
      }
