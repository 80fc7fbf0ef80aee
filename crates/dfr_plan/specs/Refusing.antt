-- What a function gives that reads a line or adds it.
use Rattle.std.specs.Prelude.{◌≡◌, ℕ, Option, Some, None, Result, Ok, Err}
use Rattle.dfr_channels.specs.LineFields.{need}
use Rattle.dfr_plan.specs.declared.fault.PlanFault.{PlanFault}
use Rattle.dfr_plan.specs.declared.fault.LineRefusal.{LineRefusal}
use Rattle.dfr_plan.specs.declared.fault.LineRefusal.TheVariants.{Fault}

-- a refusal that names a fault names the one that was said; another is out of memory
abbrev pub Refuses : {Y : Type 0} → Result Y PlanFault → LineRefusal → Type 0
Refuses said e = (w : PlanFault) → e ≡ Fault w → said ≡ Err w

-- what was said, left in a place: the value, the fault, or out of memory
abbrev pub Makes : {X Y : Type 0} → Result Y PlanFault → Y → Result X LineRefusal → Type 0
Makes said new (Ok x) = said ≡ Ok new
Makes said new (Err e) = Refuses said e

-- what was said of lines, whose faults have the numbers of their lines
abbrev pub IsAt : {Y : Type 0} → Result Y (ℕ × PlanFault) → Result Y (ℕ × LineRefusal) → Type 0
IsAt said (Ok x) = said ≡ Ok x
IsAt said (Err e) = (w : PlanFault) → e.1 ≡ Fault w → said ≡ Err (e.0, w)

-- what is said, and what follows from it
abbrev pub and_then : {A B F : Type 0} → Result A F → (A → Result B F) → Result B F
and_then (Err fault) more = Err fault
and_then (Ok x) more = more x

-- a value that is needed
abbrev pub needed : {A : Type 0} → Option A → PlanFault → Result A PlanFault
needed value fault = need value fault (λ x. Ok x)

-- a value, unless there is a fault
abbrev pub unless : {A F : Type 0} → Option F → A → Result A F
unless None x = Ok x
unless (Some fault) x = Err fault
