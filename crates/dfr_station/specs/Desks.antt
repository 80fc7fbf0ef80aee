-- Which orders a station's desk hands out: those of the input in their order, each once, and an operator's between them.
use Rattle.std.specs.Prelude.{◌≡◌, ◌⊎◌, ⊤, ℕ, ◌+◌, ◌-◌, ◌<◌, ◌≤◌, min, List, [], ◌∷◌, ◌++◌, length, Bool, true, false, Option, Some, None, IfSome, option_to_list}
use Rattle.dfr_live.specs.Devices.{AsksOf, HearsOf}
use Rattle.dfr_live.specs.Lane.{RingName}
use Rattle.dfr_live.specs.declared.devices.Asked.{Asked}
use Rattle.dfr_live.specs.declared.devices.Asked.TheVariants as asked
use Rattle.dfr_live.specs.declared.devices.Standing.{Standing}
use Rattle.dfr_live.specs.declared.entry.Reply.{Reply}
use Rattle.dfr_live.specs.declared.entry.Reply.TheVariants as replied
use Rattle.dfr_station.specs.declared.desk.Placed.{Placed}
use Rattle.dfr_station.specs.declared.event.Asked.TheVariants as giver
use Rattle.dfr_station.specs.declared.event.Event.{Event}
use Rattle.dfr_station.specs.declared.event.Event.TheVariants as event
use Rattle.dfr_station.specs.declared.event.Replied.{Replied}
use Rattle.dfr_station.specs.declared.event.Replied.TheVariants as answer
use Rattle.dfr_station.specs.declared.event.Skipped.{Skipped}
use Rattle.dfr_station.specs.declared.event.Skipped.TheVariants as skipped
use Rattle.dfr_station.specs.declared.operator.Operator.{Operator}

-- a desk: the queue of the input's orders, what it took off that queue, of which one may wait for its place, the line of the order
-- that it handed out last, if the input gave it, whether there is an operator, and how many records have room on the shelf, if steps
-- wait for that
pub record DeskParts (A : Type 0) : Type 0 where
  pub lane : RingName A
  pub taken : List (Placed A)
  pub waits : Option (Placed A)
  pub line : Option ℕ
  pub has_operator : Bool
  pub shelf : Option ℕ

-- these orders of the input were handed out: they are what waited and what was taken, but for what waits then
pub record HandsOut {A : Type 0} (s : DeskParts A) (out : List (Placed A)) (t : DeskParts A) : Type 0 where
  pub lane : t.lane ≡ s.lane
  pub same : t.has_operator ≡ s.has_operator
  pub shelf : t.shelf ≡ s.shelf
  pub more : List (Placed A)
  pub taken : t.taken ≡ s.taken ++ more
  pub rest : option_to_list s.waits ++ more ≡ out ++ option_to_list t.waits

-- nothing that waits is due after so many steps
abbrev pub IsEarly : {A : Type 0} → ℕ → DeskParts A → Type 0
IsEarly pumped t = IfSome t.waits (λ p. pumped < p.at)

-- What a desk answers after so many steps: the next order of the input, at its place; or an operator's, if there is one, at once; or that no order is due,
-- with no more steps than up to the next; or that none is left. Whether more orders come, it sees by flags of the other threads, of
-- which nothing is stated: nor is that it answers with the last two in time.
abbrev pub Answers : {A : Type 0} → ℕ → DeskParts A → Asked A → DeskParts A → Type 0
Answers pumped s (asked.Order place o) t =
    ((line : ℕ) × (t.line ≡ Some line) × HandsOut s (record { line = line; at = place; order = o } ∷ []) t)
    ⊎ ((s.has_operator ≡ true) × (t.line ≡ None) × (place ≡ pumped) × HandsOut s [] t)
Answers pumped s (asked.NotYet steps) t = HandsOut s [] t × IsEarly pumped t × IfSome t.waits (λ p. steps ≤ p.at)
Answers pumped s asked.Done t = HandsOut s [] t × (t.waits ≡ None)

-- the shelf is waited for, and it is full
abbrev pub IsHeld : Option ℕ → Standing → Type 0
IsHeld None standing = ⊥
IsHeld (Some shelf) standing = shelf ≤ standing.waiting

-- it isn't, or it has room, and there are no more steps than that: each closes at most one record
abbrev pub HasRoom : {A : Type 0} → Option ℕ → Standing → Asked A → Type 0
HasRoom None standing answer = ⊤
HasRoom (Some shelf) standing (asked.Order place o) = standing.waiting < shelf
HasRoom (Some shelf) standing (asked.NotYet steps) = (standing.waiting < shelf) × (steps ≤ standing.pumped + (shelf - standing.waiting))
HasRoom (Some shelf) standing asked.Done = standing.waiting < shelf

-- so many steps have room
abbrev pub IsRoom : Option ℕ → Standing → ℕ → Type 0
IsRoom None standing most = ⊤
IsRoom (Some shelf) standing most = (standing.waiting < shelf) × (most ≤ standing.pumped + (shelf - standing.waiting))

-- an answer, but with no more than so many steps
abbrev pub within : {A : Type 0} → ℕ → Asked A → Asked A
within most (asked.Order place o) = asked.Order place o
within most (asked.NotYet steps) = asked.NotYet (min steps most)
within most asked.Done = asked.Done

-- how many records have room on the shelf, if steps wait for that
abbrev pub awaited : Bool → ℕ → Option ℕ
awaited true shelf = Some shelf
awaited false shelf = None

-- what a desk answers: nothing is done while the shelf is full and waited for
abbrev pub DeskAsks : {A : Type 0} → AsksOf A (DeskParts A)
DeskAsks s standing answer t =
    (IsHeld s.shelf standing × (answer ≡ asked.NotYet standing.pumped) × (t ≡ s))
    ⊎ (HasRoom s.shelf standing answer × Answers standing.pumped s answer t)

-- it goes on, whatever the reply
abbrev pub DeskHears : {A : Type 0} → HearsOf (DeskParts A)
DeskHears s at reply goes_on t = (goes_on ≡ true) × (t ≡ s)

-- ---- what is told

-- there was no memory for an order: of this line of the input, or of an operator
abbrev pub lacking : Option ℕ → Event
lacking (Some line) = event.Line line skipped.Memory
lacking None = event.Order skipped.Memory

abbrev pub replied_to : Option ℕ → ℕ → Replied → Event
replied_to (Some line) at reply = event.Reply giver.Input at reply
replied_to None at reply = event.Reply giver.Operator at reply

-- what is told of the reply to an order
abbrev pub told_of : Option ℕ → ℕ → Option Reply → Event
told_of line at (Some (replied.Trigger hit)) = replied_to line at (answer.Trigger hit)
told_of line at (Some (replied.SetRules done)) = replied_to line at (answer.Rules done)
told_of line at (Some (replied.Take extent)) = lacking line
told_of line at None = lacking line

-- why a line of an operator is refused at one more byte
abbrev pub RefusesByte : ℕ → Skipped → Type 0
RefusesByte count skipped.Long = 4_096 ≤ count
RefusesByte count skipped.Memory = count < 4_096
RefusesByte count skipped.Word = ⊥
RefusesByte count skipped.Fields = ⊥
RefusesByte count skipped.Number = ⊥
RefusesByte count skipped.NoChannel = ⊥
RefusesByte count skipped.TooMany = ⊥
RefusesByte count skipped.Busy = ⊥
RefusesByte count skipped.Undated = ⊥

-- one more byte of a line: it stands at its end; or the line is refused, from then on
abbrev pub TakesByte : {A : Type 0} → Option Skipped → Operator A → ℕ → Option Skipped → Operator A → Type 0
TakesByte (Some why) s b refused t = refused ≡ Some why
TakesByte None s b (Some why) t = RefusesByte (length s.line.items) why
TakesByte None s b None t = t.line.items ≡ s.line.items ++ b ∷ []
