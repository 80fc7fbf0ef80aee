-- What a function that reads a part of a `detect` line gives.
use Rattle.std.specs.Prelude.{◌≡◌, ℕ, Option, Some, None, Result, Ok, Err}
use Rattle.dfr_channels.specs.LineFields.{need}
use Rattle.dfr_setup.specs.declared.fault.DetectorFault.{DetectorFault}
use Rattle.dfr_setup.specs.declared.fault.DetectorRefusal.{DetectorRefusal}
use Rattle.dfr_setup.specs.declared.fault.DetectorRefusal.TheVariants.{Fault}

-- a refusal that names a fault names the one that was said; another is out of memory
abbrev pub Refuses : {Y : Type 0} → Result Y DetectorFault → DetectorRefusal → Type 0
Refuses said e = (w : DetectorFault) → e ≡ Fault w → said ≡ Err w

-- what was said, seen by view: the value, the fault, or out of memory
abbrev pub Is : {X Y : Type 0} → (X → Y) → Result Y DetectorFault → Result X DetectorRefusal → Type 0
Is view said (Ok x) = said ≡ Ok (view x)
Is view said (Err e) = Refuses said e

-- the same of a function that leaves the value in a place
abbrev pub Makes : {X Y : Type 0} → Result Y DetectorFault → Y → Result X DetectorRefusal → Type 0
Makes said new (Ok x) = said ≡ Ok new
Makes said new (Err e) = Refuses said e

-- a value that is needed
abbrev pub needed : {A : Type 0} → Option A → DetectorFault → Result A DetectorFault
needed value fault = need value fault (λ x. Ok x)

-- a value, unless there is a fault
abbrev pub unless : {A F : Type 0} → Option F → A → Result A F
unless None x = Ok x
unless (Some fault) x = Err fault

-- the same of lines, whose faults have the numbers of their lines
abbrev pub IsAt : {X Y : Type 0} → (X → Y) → Result Y (ℕ × DetectorFault) → Result X (ℕ × DetectorRefusal) → Type 0
IsAt view said (Ok x) = said ≡ Ok (view x)
IsAt view said (Err e) = (w : DetectorFault) → e.1 ≡ Fault w → said ≡ Err (e.0, w)
