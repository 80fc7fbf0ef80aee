-- What an intake gave, which orders a desk handed out and where they were made, and what an outlet got.
use Rattle.std.specs.Prelude.{◌≡◌, ◌⊎◌, ℕ, ◌≤◌, ◌+◌, List, [], ◌∷◌, ◌++◌, length, map, min, max, replicate, Bool, true, false, Option, Some, None, Result, Ok, Err, All, IsTrue}
use Rattle.dfr_channels.specs.Parts.{SetupParts}
use Rattle.dfr_recorder.specs.Parts.{RecordParts}
use Rattle.dfr_recorder.specs.Own.{is_own}
use Rattle.dfr_recorder.specs.Steps.{StepParts}
use Rattle.dfr_recorder.specs.Steps as step
use Rattle.dfr_recorder.specs.Answers as answer
use Rattle.dfr_recorder.specs.History.{Opening}
use Rattle.dfr_recorder.specs.Kept.{reply}
use Rattle.dfr_recorder.specs.declared.record.Extent.{Extent}
use Rattle.comtrade_format.specs.declared.file.Kind.{Kind}
use Rattle.comtrade_format.specs.Cfg.{cfg}
use Rattle.comtrade_format.specs.Data.{dat}
use Rattle.comtrade_write.specs.OfRecord.{file}
use Rattle.dfr_channels.specs.Parts.{ScanParts}
use Rattle.dfr_live.specs.Parts.{CallParts, EntryParts}
use Rattle.dfr_live.specs.Parts as call
use Rattle.dfr_live.specs.Weave.{steps_of}
use Rattle.dfr_live.specs.Seen.{SourceParts, TokenParts}
use Rattle.dfr_live.specs.Calls.{with_entry}
use Rattle.dfr_live.specs.Station.{PumpsOn}
use Rattle.dfr_live.specs.declared.entry.Reply.{Reply}
use Rattle.dfr_live.specs.declared.entry.Reply.TheVariants as replied
use Rattle.dfr_live.specs.declared.station.Fed.{Fed}
use Rattle.dfr_live.specs.declared.station.Fed.TheVariants as fed
use Rattle.dfr_live.specs.declared.station.Order.{Order}
use Rattle.dfr_live.specs.declared.station.Order.TheVariants as order
use Rattle.dfr_live.specs.declared.report.LiveFault.{LiveFault}
use Rattle.dfr_live.specs.declared.report.LiveFault.TheVariants as fault
use Rattle.comtrade_values.specs.declared.memory.Memory.{Memory as Want}
use Rattle.dfr_live.specs.declared.export.Taken.{Taken}
use Rattle.dfr_live.specs.declared.export.Taken.TheVariants as taken
use Rattle.dfr_live.specs.declared.devices.Asked.{Asked}
use Rattle.dfr_live.specs.declared.devices.Asked.TheVariants as asked
use Rattle.dfr_live.specs.declared.devices.Standing.{Standing}
use Rattle.dfr_live.specs.declared.devices.Short.{Short}
use Rattle.dfr_live.specs.declared.devices.Short.TheVariants as short

-- from the state s these answers, the newest first, led to the state t, where `Does` is what is
-- known of one call: the state before it, its answer, the state after it
abbrev pub Came : {S R : Type 0} → (S → R → S → Type 0) → S → List R → S → Type 0
Came Does s [] t = s ≡ t
Came {S} Does s (r ∷ rs) t = (m : S) × Came Does s rs m × Does m r t

-- ---- the intake

-- what an intake gives at a call, and what it does where it hears that a scan is lost
abbrev pub GivesOf : Type 0 → Type 0 → Type 1
GivesOf A F = F → Result (Fed A) ℕ → F → Type 0

abbrev pub LosesOf : Type 0 → Type 1
LosesOf F = F → F → Type 0

-- of an intake that never loses a scan
abbrev pub never : {F : Type 0} → F → F → Type 0
never s t = ⊥

-- the steps that an answer of an intake stands for
abbrev pub steps_given : {A : Type 0} → Result (Fed A) ℕ → List StepParts
steps_given (Ok (fed.Scan scan)) = step.Scan scan ∷ []
steps_given (Ok fed.Lost) = step.Lost ∷ []
steps_given (Ok fed.NotYet) = []
steps_given (Ok fed.Done) = []
steps_given (Err code) = []

-- an answer after which the intake is asked again: a scan, a lost one, or nothing yet
abbrev pub goes_on : {A : Type 0} → Result (Fed A) ℕ → Bool
goes_on (Ok (fed.Scan scan)) = true
goes_on (Ok fed.Lost) = true
goes_on (Ok fed.NotYet) = true
goes_on (Ok fed.Done) = false
goes_on (Err code) = false

-- an answer, and the steps that were taken in for it
abbrev pub TakenFor : Type 0 → Type 0
TakenFor A = Result (Fed A) ℕ × List StepParts

-- a scan was given for which the lane had no place: a lost one was taken in
abbrev pub LostOne : {A F : Type 0} → GivesOf A F → LosesOf F → F → TakenFor A → F → Type 0
LostOne {A} {F} Gives Loses f taken g =
    (scan : ScanParts) × (m : F) × (taken.0 ≡ Ok (fed.Scan scan)) × Gives f taken.0 m × Loses m g × (taken.1 ≡ step.Lost ∷ [])

-- an intake gave one answer, whose steps were taken in; or a scan of it was lost
abbrev pub GaveOne : {A F : Type 0} → GivesOf A F → LosesOf F → F → TakenFor A → F → Type 0
GaveOne Gives Loses f taken g =
    (goes_on taken.0 ≡ true)
    × ((Gives f taken.0 g × (taken.1 ≡ steps_given taken.0)) ⊎ LostOne Gives Loses f taken g)

-- all steps taken in for answers of which the newest stands first, oldest first
abbrev pub all_taken : {A : Type 0} → List (TakenFor A) → List StepParts
all_taken [] = []
all_taken (x ∷ xs) = all_taken xs ++ x.1

-- the steps that a source took in: its scans, each after the losses that it carries, then the losses since
abbrev pub taken_in : SourceParts → List StepParts
taken_in s = steps_of s.offered ++ replicate s.lost step.Lost

-- the intake gave answers for which these steps were taken in, in order, and then no scan came any more
abbrev pub GaveAll : {A F : Type 0} → GivesOf A F → LosesOf F → F → List StepParts → F → Type 0
GaveAll {A} {F} Gives Loses f steps g =
    (given : List (TakenFor A)) × (m : F) × Came (GaveOne Gives Loses) f given m
    × Gives m (Ok fed.Done) g × (all_taken given ≡ steps)

-- after its answers the intake failed with this code
abbrev pub FeedFailed : {A F : Type 0} → GivesOf A F → LosesOf F → F → ℕ → F → Type 0
FeedFailed {A} {F} Gives Loses f code g =
    (given : List (TakenFor A)) × (m : F) × Came (GaveOne Gives Loses) f given m × Gives m (Err code) g

-- one turn of the acquisition: the intake gave one answer, the source took in its steps, and they were counted
abbrev pub TookIn : {A F : Type 0} → GivesOf A F → LosesOf F → F → SourceParts → ℕ → F → SourceParts → ℕ → Type 0
TookIn {A} Gives Loses f s n g t k =
    (x : TakenFor A) × GaveOne Gives Loses f x g × (taken_in t ≡ taken_in s ++ x.1) × (k ≡ n + length x.1)

-- ---- the desk

-- what a desk answers as a recording stands, and what it does when it hears of the order that it gave last: after how many
-- scan steps it was made, and the reply, or that there was no memory; whether the recording goes on
abbrev pub AsksOf : Type 0 → Type 0 → Type 1
AsksOf A O = O → Standing → Asked A → O → Type 0

abbrev pub HearsOf : Type 0 → Type 1
HearsOf O = O → ℕ → Option Reply → Bool → O → Type 0

-- of a desk that knows each order before it is due
abbrev pub asks_plainly : {A O : Type 0} → (O → Option (ℕ × Order A) → O → Type 0) → O → Asked A → O → Type 0
asks_plainly Hands s (asked.Order place o) t = Hands s (Some (place, o)) t
asks_plainly Hands s (asked.NotYet steps) t = ⊥
asks_plainly Hands s asked.Done t = Hands s None t

-- of a desk that goes on where there was memory, and remembers nothing
abbrev pub hears_plainly : {O : Type 0} → O → Option Reply → Bool → O → Type 0
hears_plainly s (Some reply) on t = (on ≡ true) × (t ≡ s)
hears_plainly s None on t = (on ≡ false) × (t ≡ s)

abbrev pub call_in : {A : Type 0} → Order A → CallParts
call_in order.Trigger = call.Trigger
call_in (order.SetRules rules) = call.SetRules rules

-- a call that was made: the number of scan steps before it, the call, and its reply
abbrev pub Noted : Type 0
Noted = ℕ × CallParts × Reply

abbrev pub noted : EntryParts → Noted
noted e = (e.at, e.call, e.reply)

-- what is noted of an order: nothing where there was no memory for it
abbrev pub noted_of : {A : Type 0} → ℕ → Order A → Option Reply → List Noted
noted_of at o (Some reply) = (at, call_in o, reply) ∷ []
noted_of at o None = []

-- a turn of a desk: it was asked, and knew no order yet; or it handed out an order with its place, which had this reply
pub data Turn (A : Type 0) : Type 0 where
  Waits : Standing → ℕ → Turn A
  Makes : Standing → ℕ → Order A → Option Reply → Turn A

-- a desk, how many scan steps were made, and what was noted
pub record Desked (O : Type 0) : Type 0 where
  pub desk : O
  pub pumped : ℕ
  pub notes : List Noted

abbrev pub new_desk : {O : Type 0} → O → Desked O
new_desk f = record { desk = f; pumped = 0; notes = [] }

-- A turn in a run of so many scan steps. A desk is asked after the scan steps that it is told. Where it knows no order yet, at most
-- as many are made as it allows. An order is made at its place, or at once where that is over, or after the last scan step.
abbrev pub TookTurn : {A O : Type 0} → AsksOf A O → HearsOf O → ℕ → Desked O → Turn A → Desked O → Type 0
TookTurn Asks Hears steps s (Waits standing free) t =
    (standing.pumped ≡ s.pumped) × Asks s.desk standing (asked.NotYet free) t.desk
    × (s.pumped ≤ t.pumped) × (t.pumped ≤ max s.pumped free) × (t.notes ≡ s.notes)
TookTurn {A} {O} Asks Hears steps s (Makes standing place o reply) t =
    (m : O) × (standing.pumped ≡ s.pumped) × Asks s.desk standing (asked.Order place o) m
    × Hears m t.pumped reply true t.desk
    × (t.pumped ≡ min (max s.pumped place) steps) × (t.notes ≡ s.notes ++ noted_of t.pumped o reply)

-- no more orders come
abbrev pub AsksDone : {A O : Type 0} → AsksOf A O → O → O → Type 0
AsksDone Asks f g = (standing : Standing) × Asks f standing asked.Done g

-- these entries are the calls of the orders that the desk handed out until none came any more, each once, in order and
-- at its place, in a run of so many scan steps
pub record MadeAll {A O : Type 0} (Asks : AsksOf A O) (Hears : HearsOf O) (f : O) (made : List EntryParts) (steps : ℕ) (g : O) : Type 0 where
  pub turns : List (Turn A)
  pub last : Desked O
  pub came : Came (TookTurn Asks Hears steps) (new_desk f) turns last
  pub done : AsksDone Asks last.desk g
  pub notes : map noted made ≡ last.notes

-- ---- one turn of a desk with its token

-- an order has one entry, of its call, made after the scan steps that the token pumped; or none, for want of memory
abbrev pub IsMade : {A : Type 0} → Order A → TokenParts → Option Reply → TokenParts → Type 0
IsMade o t (Some reply) u =
    (e : EntryParts) × (u ≡ with_entry t e) × (e.at ≡ t.pumped) × (e.call ≡ call_in o) × (e.reply ≡ reply)
IsMade o t None u = u ≡ t

-- the token counts on while no order is known, but not over what the desk allows
abbrev pub Waited : {A O : Type 0} → AsksOf A O → O → TokenParts → O → TokenParts → Type 0
Waited Asks f t g u =
    (standing : Standing) × (free : ℕ) × (standing.pumped ≡ t.pumped) × Asks f standing (asked.NotYet free) g
    × (u ≡ record t { pumped = u.pumped }) × (t.pumped ≤ u.pumped) × (u.pumped ≤ max t.pumped free)

-- one order was handed out, and was made once its place was reached, or no scan came any more
abbrev pub MadeOne : {A O : Type 0} → AsksOf A O → HearsOf O → O → Bool → TokenParts → O → Bool → TokenParts → Type 0
MadeOne {A} {O} Asks Hears f x t g y v =
    (standing : Standing) × (place : ℕ) × (o : Order A) × (reply : Option Reply) × (m : O) × (u : TokenParts)
    × (standing.pumped ≡ t.pumped) × Asks f standing (asked.Order place o) m
    × PumpsOn place x t y u × IsMade o u reply v × Hears m u.pumped reply true g

-- ---- the outlet

-- what an outlet is handed of a record
pub record FilesParts : Type 0 where
  pub extent : Extent
  pub cfg : List ℕ
  pub dat : List ℕ

abbrev pub files_of : SetupParts → Kind → RecordParts → FilesParts
files_of layout kind r = let f = file layout r kind in record { extent = r.extent; cfg = cfg f.head; dat = dat f.head.kind f }

-- what an outlet does with files, and what it does about a record for whose files there was no memory
abbrev pub PutsOf : Type 0 → Type 1
PutsOf K = K → FilesParts → Result (Unit {0}) ℕ → K → Type 0

abbrev pub LacksOf : Type 0 → Type 1
LacksOf K = K → Extent → Short → K → Type 0

-- of an outlet that stops where there is no memory
abbrev pub stops : {K : Type 0} → K → Short → K → Type 0
stops s what t = (what ≡ short.Stop) × (t ≡ s)

abbrev pub extent_taken : Reply → List Extent
extent_taken (replied.Take (Some extent)) = extent ∷ []
extent_taken (replied.Take None) = []
extent_taken (replied.Trigger result) = []
extent_taken (replied.SetRules done) = []

-- the extents of the records that these calls took, in order
abbrev pub extents_taken : List EntryParts → List Extent
extents_taken [] = []
extents_taken (e ∷ es) = extent_taken e.reply ++ extents_taken es

-- a record, and whether the outlet got its files
abbrev pub Handed : Type 0
Handed = RecordParts × Bool

-- the extents of records of which the newest stands first, oldest first
abbrev pub extents_of : List Handed → List Extent
extents_of [] = []
extents_of (x ∷ xs) = extents_of xs ++ x.0.extent ∷ []

-- these records themselves, oldest first
abbrev pub records_of : List Handed → List RecordParts
records_of [] = []
records_of (x ∷ xs) = records_of xs ++ x.0 ∷ []

-- a record that matches the layout, and that the one-thread recorder answers to a take after some
-- history over the opening
abbrev pub IsTaken : Opening → RecordParts → Type 0
IsTaken o r = IsTrue (is_own o.layout r) × ((h : List StepParts) × (reply o h step.Take ≡ answer.Take (Some r)))

-- so often there was no memory for the files of a record, and they were made again
abbrev pub Tried : {K : Type 0} → LacksOf K → Extent → K → List (Unit {0}) → K → Type 0
Tried {K} Lacks extent f tries g = Came (λ (s : K) (x : Unit {0}) (t : K). Lacks s extent short.Again t) f tries g

-- the outlet got these files, or refused them with the code of this fault
abbrev pub PutsOnce : {K : Type 0} → PutsOf K → K → FilesParts → Result (Unit {0}) LiveFault → K → Type 0
PutsOnce Puts f files (Ok done) g = Puts f files (Ok tt) g
PutsOnce Puts f files (Err (fault.Sink code)) g = Puts f files (Err code) g
PutsOnce Puts f files (Err (fault.Feed code)) g = ⊥
PutsOnce Puts f files (Err fault.Turns) g = ⊥
PutsOnce Puts f files (Err fault.Counter) g = ⊥
PutsOnce Puts f files (Err fault.Memory) g = ⊥
PutsOnce Puts f files (Err (fault.Open why)) g = ⊥
PutsOnce Puts f files (Err (fault.End why)) g = ⊥

-- the outlet got the files of a record; or it gave the record up, for want of memory
abbrev pub HandedOn : {K : Type 0} → PutsOf K → LacksOf K → SetupParts → Kind → K → Handed → K → Type 0
HandedOn {K} Puts Lacks layout kind f (r, true) g =
    (tries : List (Unit {0})) × (m : K) × Tried Lacks r.extent f tries m × Puts m (files_of layout kind r) (Ok tt) g
HandedOn {K} Puts Lacks layout kind f (r, false) g =
    (tries : List (Unit {0})) × (m : K) × Tried Lacks r.extent f tries m × Lacks m r.extent short.GiveUp g

-- it refused the files of this record with this code
abbrev pub Refused : {K : Type 0} → PutsOf K → LacksOf K → SetupParts → Kind → K → RecordParts → ℕ → K → Type 0
Refused {K} Puts Lacks layout kind f r code g =
    (tries : List (Unit {0})) × (m : K) × Tried Lacks r.extent f tries m × Puts m (files_of layout kind r) (Err code) g

-- there was no memory for the files of this record, and that was the end
abbrev pub Lacked : {K : Type 0} → LacksOf K → K → RecordParts → K → Type 0
Lacked {K} Lacks f r g =
    (tries : List (Unit {0})) × (m : K) × Tried Lacks r.extent f tries m × Lacks m r.extent short.Stop g

-- how the files of a record ended a run with this fault
abbrev pub Stopped : {K : Type 0} → PutsOf K → LacksOf K → SetupParts → Kind → K → RecordParts → LiveFault → K → Type 0
Stopped Puts Lacks layout kind f r (fault.Sink code) g = Refused Puts Lacks layout kind f r code g
Stopped Puts Lacks layout kind f r fault.Memory g = Lacked Lacks f r g
Stopped Puts Lacks layout kind f r (fault.Feed code) g = ⊥
Stopped Puts Lacks layout kind f r fault.Turns g = ⊥
Stopped Puts Lacks layout kind f r fault.Counter g = ⊥
Stopped Puts Lacks layout kind f r (fault.Open why) g = ⊥
Stopped Puts Lacks layout kind f r (fault.End why) g = ⊥

-- what handing on a record comes to: its files were got or it was given up, or it ended the run
abbrev pub HandsRecord : {K : Type 0} → PutsOf K → LacksOf K → SetupParts → Kind → K → RecordParts → Result (Unit {0}) LiveFault → K → Type 0
HandsRecord Puts Lacks layout kind f r (Ok done) g = (got : Bool) × HandedOn Puts Lacks layout kind f (r, got) g
HandsRecord Puts Lacks layout kind f r (Err why) g = Stopped Puts Lacks layout kind f r why g

abbrev pub is_again : Taken → Bool
is_again taken.One = false
is_again taken.Nothing = false
is_again taken.Again = true
is_again taken.Stopped = true

-- what handing on what was taken comes to
abbrev pub HandsTaken : {K : Type 0} → PutsOf K → LacksOf K → SetupParts → Kind → K → Result (Option RecordParts) Want
    → Result Taken LiveFault → K → Type 0
HandsTaken Puts Lacks layout kind f (Ok (Some r)) (Ok came) g =
    (came ≡ taken.One) × ((got : Bool) × HandedOn Puts Lacks layout kind f (r, got) g)
HandsTaken Puts Lacks layout kind f (Ok (Some r)) (Err why) g = Stopped Puts Lacks layout kind f r why g
HandsTaken Puts Lacks layout kind f (Ok None) came g = (came ≡ Ok taken.Nothing) × (g ≡ f)
HandsTaken Puts Lacks layout kind f (Err refused) (Ok came) g = (is_again came ≡ true) × (g ≡ f)
HandsTaken Puts Lacks layout kind f (Err refused) (Err why) g = (why ≡ fault.Memory) × (g ≡ f)

-- the outlet got the files of these records, each once and in order, but for those given up
abbrev pub Got : {K : Type 0} → PutsOf K → LacksOf K → Opening → Kind → K → List Handed → K → Type 0
Got Puts Lacks o kind f records g =
    All (λ (x : Handed). IsTaken o x.0) records × Came (HandedOn Puts Lacks o.layout kind) f records g

-- it got the files of the records that were taken by the calls of these entries, each once and in order; and those that came out
-- are these records
abbrev pub GotAll : {K : Type 0} → PutsOf K → LacksOf K → Opening → Kind → K → List EntryParts → Option (List RecordParts) → K → Type 0
GotAll Puts Lacks o kind f made out g =
    (records : List Handed) × Got Puts Lacks o kind f records g × (extents_of records ≡ extents_taken made)
    × (out ≡ Some (records_of records))

-- the outlet gets no more files: it stays as it was, or those of one record were refused, or there was no memory for them
abbrev pub GotNoMore : {K : Type 0} → PutsOf K → LacksOf K → Opening → Kind → K → K → Type 0
GotNoMore Puts Lacks o kind f g =
    (g ≡ f) ⊎ ((r : RecordParts) × (why : LiveFault) × IsTaken o r × Stopped Puts Lacks o.layout kind f r why g)

-- the outlet got the files of some records, one after the other, and then at most those of one that it refused
abbrev pub GotFront : {K : Type 0} → PutsOf K → LacksOf K → Opening → Kind → K → K → Type 0
GotFront {K} Puts Lacks o kind f g =
    (records : List Handed) × (m : K) × Got Puts Lacks o kind f records m × GotNoMore Puts Lacks o kind m g

-- after the files of some records it refused those of one with this code
abbrev pub SinkFailed : {K : Type 0} → PutsOf K → LacksOf K → Opening → Kind → K → ℕ → K → Type 0
SinkFailed {K} Puts Lacks o kind f code g =
    (records : List Handed) × (m : K) × (r : RecordParts) × Got Puts Lacks o kind f records m
    × IsTaken o r × Refused Puts Lacks o.layout kind m r code g

-- a call that takes a record, if one waits
abbrev pub IsTake : EntryParts → Type 0
IsTake e = e.call ≡ call.Take

-- ---- one turn of the export with its token

-- the token took one record, and the outlet got its files or gave it up
abbrev pub GotOne : {K : Type 0} → PutsOf K → LacksOf K → Opening → Kind → K → TokenParts → K → TokenParts → Type 0
GotOne Puts Lacks o kind f t g u =
    (x : Handed) × (e : EntryParts) × IsTaken o x.0 × HandedOn Puts Lacks o.layout kind f x g × (u ≡ with_entry t e)
    × IsTake e × (extent_taken e.reply ≡ x.0.extent ∷ [])

-- the token took none, and the outlet got nothing
abbrev pub GotNone : {K : Type 0} → K → TokenParts → K → TokenParts → Type 0
GotNone f t g u =
    (e : EntryParts) × (g ≡ f) × (u ≡ with_entry t e) × IsTake e × (e.reply ≡ replied.Take None)

-- with what the token took from then to now the outlet goes on so: what was handed on in full before is so now, and a token that only took has only taken
abbrev pub GotOn : {K : Type 0} → PutsOf K → LacksOf K → Opening → Kind → K → TokenParts → Option (List RecordParts)
    → K → TokenParts → Option (List RecordParts) → Type 0
GotOn {K} Puts Lacks o kind g t x h u y =
    (u.seat ≡ t.seat) × (u.pumped ≡ t.pumped)
    × ((f : K) → GotAll Puts Lacks o kind f t.made x g → GotAll Puts Lacks o kind f u.made y h)
    × (All IsTake t.made → All IsTake u.made)

-- the last of these calls took no record, for none waited
abbrev pub EndsEmpty : List EntryParts → Type 0
EndsEmpty made =
    (before : List EntryParts) × (last : EntryParts) × (made ≡ before ++ last ∷ []) × (last.reply ≡ replied.Take None)
