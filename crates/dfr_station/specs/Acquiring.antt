-- What the acquisition makes of an input: each scan that comes is one step, its scan or a lost one, and each order goes into a queue, if it has a place.
use Rattle.std.specs.Prelude.{◌≡◌, ◌⊎◌, ℕ, ◌+◌, ◌-◌, ◌^◌, ◌≤◌, min, List, [], ◌∷◌, ◌++◌, length, replicate, Bool, true, false, Option, Some, None, Result, Ok, Err}
use Rattle.dfr_channels.specs.Parts.{ScanParts, SetupParts}
use Rattle.dfr_channels.specs.declared.scan.Reading.TheVariants as reading
use Rattle.dfr_detect.specs.Detection.{Detected}
use Rattle.dfr_detect.specs.Lost.{AreAfterLoss}
use Rattle.dfr_live.specs.Devices.{Came}
use Rattle.dfr_live.specs.Lane.{RingName}
use Rattle.dfr_live.specs.declared.station.Fed.{Fed}
use Rattle.dfr_live.specs.declared.station.Fed.TheVariants as fed
use Rattle.dfr_station.specs.Detecting.{IsDetected}
use Rattle.dfr_station.specs.Input.{one_more}
use Rattle.dfr_station.specs.declared.desk.Placed.{Placed}
use Rattle.dfr_station.specs.declared.intake.arrival.Arrival.TheVariants as arrival
use Rattle.dfr_station.specs.declared.intake.arrivals.Arrivals.{Arrivals}
use Rattle.dfr_station.specs.declared.intake.arrivals.Ending.{Ending}
use Rattle.dfr_station.specs.declared.intake.arrivals.Next.{Next}
use Rattle.dfr_station.specs.declared.intake.arrivals.Next.TheVariants as coming
use Rattle.dfr_station.specs.declared.scans.LastGiven.{LastGiven}
use Rattle.dfr_station.specs.declared.scans.LastGiven.TheVariants as given

-- the scans of an input: whether the clock dates them, how many came and how many of them were lost, how many of these in a row since the
-- queue took one, the bits of that one, what was given last, of which it isn't known yet whether the queue takes it, and the bits of that;
-- what the detectors keep, and whether a scan waits for a place in the queue. Bits are those of the contacts
pub record ScansParts : Type 0 where
  pub by_clock : Bool
  pub layout : SetupParts
  pub came : ℕ
  pub lost : ℕ
  pub row : ℕ
  pub bits : List Bool
  pub last : LastGiven
  pub noted : List Bool
  pub detected : List Detected
  pub waits : Bool

abbrev pub next_in_row : ℕ → ℕ
next_in_row n = min (n + 1) (2 ^ 32 - 1)

abbrev pub settled_by : LastGiven → ScansParts → ScansParts
settled_by given.Nothing s = s
settled_by given.Scan s = record s { row = 0; bits = s.noted; last = given.Nothing; noted = s.bits }
settled_by given.Filler s = record s { row = 0; last = given.Nothing }

-- the queue took what was given last
abbrev pub settled : ScansParts → ScansParts
settled s = settled_by s.last s

abbrev pub dropped_by : LastGiven → ScansParts → ScansParts
dropped_by given.Nothing s = record s { row = next_in_row s.row }
dropped_by given.Scan s = record s { lost = one_more s.lost; row = next_in_row s.row; last = given.Nothing }
dropped_by given.Filler s = record s { row = next_in_row s.row; last = given.Nothing }

-- the queue had no place for what was given last: it is lost
abbrev pub dropped : ScansParts → ScansParts
dropped s = dropped_by s.last s

-- also for the detectors
abbrev pub Drops : ScansParts → ScansParts → Type 0
Drops s t = (t ≡ record (dropped s) { detected = t.detected }) × AreAfterLoss s.detected t.detected

-- a scan without readings, with these bits
abbrev pub missing : SetupParts → List Bool → ScanParts
missing layout bits = record { analog = replicate (length layout.analog) reading.Missing; status = bits }

abbrev pub counted_lost : ScansParts → ScansParts
counted_lost s = record s { came = one_more s.came; lost = one_more s.lost }

-- after 65,536 lost scans in a row, a scan without readings, with the bits of the newest scan that the queue took, and those of the detectors
abbrev pub IsFilled : ScansParts → ScanParts → ScansParts → Type 0
IsFilled s scan t =
    (65_536 ≤ s.row) × IsDetected s.detected (missing s.layout s.bits) scan t.detected × (t ≡ record s { detected = t.detected })

-- a scan came that is lost; after 65,536 lost ones in a row, a scan without readings may be given in its place, with the bits of the
-- newest scan that the queue took, and those of the detectors
abbrev pub GivesLost : {A : Type 0} → ScansParts → Fed A → ScansParts → Type 0
GivesLost s fed.Lost t =
    (t ≡ record (counted_lost s) { row = next_in_row s.row; detected = t.detected }) × AreAfterLoss s.detected t.detected
GivesLost s (fed.Scan scan) t =
    (65_536 ≤ s.row) × IsDetected s.detected (missing s.layout s.bits) scan t.detected
    × (t ≡ record (counted_lost s) { last = given.Filler; detected = t.detected })
GivesLost s fed.NotYet t = ⊥
GivesLost s fed.Done t = ⊥

-- a scan came that fits: it is given with the bits of the detectors, or it is lost for want of memory
abbrev pub GivesScan : {A : Type 0} → ScansParts → ScanParts → Fed A → ScansParts → Type 0
GivesScan {A} s scan (fed.Scan x) t =
    (IsDetected s.detected scan x t.detected
    × (t ≡ record s { came = one_more s.came; last = given.Scan; noted = scan.status; detected = t.detected }))
    ⊎ ((m : List Bool) × GivesLost {A = A} (record s { noted = m }) (fed.Scan x) t)
GivesScan {A} s scan fed.Lost t = (m : List Bool) × GivesLost {A = A} (record s { noted = m }) fed.Lost t
GivesScan s scan fed.NotYet t = ⊥
GivesScan s scan fed.Done t = ⊥

-- the queue of orders, and those that were put into it
pub record SentOrders (A : Type 0) : Type 0 where
  pub lane : RingName A
  pub items : List (Placed A)

-- an input, the scans of it, and the orders that were put into the queue
pub record Acquired (C A : Type 0) : Type 0 where
  pub incoming : C
  pub scans : ScansParts
  pub orders : SentOrders A

abbrev pub ComesOf : Type 0 → Type 0 → Type 1
ComesOf C A = C → Next A → C → Type 0

-- what is no step: an order, which goes into a queue of 1,024 places (the first 1,024 orders have one), with the number of scans before it;
-- a line that tells the time, or is skipped; bytes that are no frame; bytes were read; or all that was read was given. A gap is none where the clock doesn't date the scans
abbrev pub QuietlyBy : {C A : Type 0} → Acquired C A → Next A → Acquired C A → Type 0
QuietlyBy s (coming.Arrival (arrival.Scan scan)) t = ⊥
QuietlyBy s (coming.Arrival (arrival.Lost why)) t = ⊥
QuietlyBy s (coming.Arrival (arrival.Order line place order)) t =
    (t.orders ≡ record s.orders { items = s.orders.items ++ record { line = line; at = s.scans.came; order = order } ∷ [] })
    ⊎ ((t.orders ≡ s.orders) × (1_024 ≤ length s.orders.items))
QuietlyBy s (coming.Arrival (arrival.Time line instant)) t = t.orders ≡ s.orders
QuietlyBy s (coming.Arrival (arrival.Skipped line why)) t = t.orders ≡ s.orders
QuietlyBy s (coming.Arrival arrival.Noise) t = t.orders ≡ s.orders
QuietlyBy s coming.Gap t = (s.scans.by_clock ≡ false) × (t.orders ≡ s.orders)
QuietlyBy s coming.Read t = t.orders ≡ s.orders
QuietlyBy s coming.Drained t = t.orders ≡ s.orders
QuietlyBy s (coming.End ending) t = ⊥

abbrev pub Quietly : {C A : Type 0} → ComesOf C A → Acquired C A → Next A → Acquired C A → Type 0
Quietly Comes s x t = Comes s.incoming x t.incoming × (t.scans ≡ s.scans) × QuietlyBy s x t

-- what is one step: a scan, or a lost one; or a lost one for a while in which the input stood still, as the clock says
abbrev pub Steps : {C A : Type 0} → Acquired C A → Next A → Fed A → Acquired C A → Type 0
Steps s (coming.Arrival (arrival.Scan scan)) x t = GivesScan s.scans scan x t.scans × (t.orders ≡ s.orders)
Steps s (coming.Arrival (arrival.Lost why)) x t = GivesLost s.scans x t.scans × (t.orders ≡ s.orders)
Steps s (coming.Arrival (arrival.Order line place order)) x t = ⊥
Steps s (coming.Arrival (arrival.Time line instant)) x t = ⊥
Steps s (coming.Arrival (arrival.Skipped line why)) x t = ⊥
Steps s (coming.Arrival arrival.Noise) x t = ⊥
Steps s coming.Gap x t = (s.scans.by_clock ≡ true) × GivesLost s.scans x t.scans × (t.orders ≡ s.orders)
Steps s coming.Read x t = ⊥
Steps s coming.Drained x t = ⊥
Steps s (coming.End ending) x t = ⊥

-- bytes were read, or the time was told: nothing is given yet, and the scans stay as they are
abbrev pub FindsGap : {I A : Type 0} → Acquired (Arrivals I A) A → Acquired (Arrivals I A) A → Type 0
FindsGap s t =
    (t ≡ record s { incoming = t.incoming }) × (t.incoming.input ≡ s.incoming.input) × (t.incoming.cutter ≡ s.incoming.cutter)
    × (t.incoming.ending ≡ s.incoming.ending)

-- what came, once it was taken from the input, and the step for it
abbrev pub Gave : {C A : Type 0} → Acquired C A → Next A → Option (Fed A) → Acquired C A → Type 0
Gave s x (Some fed) t = Steps s x fed t × (t.incoming ≡ s.incoming)
Gave s x None t = QuietlyBy s x t × (t.scans ≡ s.scans) × (t.incoming ≡ s.incoming)

-- after what is no step, this came next
abbrev pub ComesNext : {C A : Type 0} → ComesOf C A → Acquired C A → (Acquired C A → Type 0) → Type 0
ComesNext {C} {A} Comes s Then =
    (quiet : List (Next A)) × (m : Acquired C A) × Came (Quietly Comes) s quiet m × Then m

-- what the acquisition gives: a step for the next scan that comes, or the end of the input
abbrev pub AcquisitionGives : {C A : Type 0} → ComesOf C A → Acquired C A → Result (Fed A) ℕ → Acquired C A → Type 0
AcquisitionGives Comes s (Ok fed.NotYet) t = ⊥
AcquisitionGives {C} {A} Comes s (Ok fed.Done) t =
    ComesNext Comes (record s { scans = settled s.scans }) (λ (m : Acquired C A).
    (ending : Ending) × Comes m.incoming (coming.End ending) t.incoming × (t.scans ≡ m.scans) × (t.orders ≡ m.orders))
AcquisitionGives {C} {A} Comes s (Ok (fed.Scan scan)) t =
    ComesNext Comes (record s { scans = settled s.scans }) (λ (m : Acquired C A).
    (x : Next A) × Comes m.incoming x t.incoming × Steps m x (fed.Scan scan) t)
AcquisitionGives {C} {A} Comes s (Ok fed.Lost) t =
    ComesNext Comes (record s { scans = settled s.scans }) (λ (m : Acquired C A).
    (x : Next A) × Comes m.incoming x t.incoming × Steps m x fed.Lost t)
AcquisitionGives Comes s (Err code) t = ⊥

-- the queue had no place for the scan that was given last, and it doesn't wait for one
abbrev pub AcquisitionLoses : {C A : Type 0} → Acquired C A → Acquired C A → Type 0
AcquisitionLoses s t = (s.scans.waits ≡ false) × (t ≡ record s { scans = t.scans }) × Drops s.scans t.scans
