-- What a function that reads a part of a line gives.
use Rattle.std.specs.Prelude.{◌≡◌, Option, Some, None, Result, Ok, Err}
use Rattle.dfr_script.specs.declared.fault.LineFault.{LineFault}
use Rattle.dfr_script.specs.declared.fault.LineFault.TheVariants as fault
use Rattle.dfr_script.specs.declared.fault.LineRefusal.{LineRefusal}
use Rattle.dfr_script.specs.declared.fault.LineRefusal.TheVariants.{Fault, Memory}

-- a refusal that names a fault names the one that was said; another is out of memory
abbrev pub Refuses : {Y : Type 0} → Result Y LineFault → LineRefusal → Type 0
Refuses said e = (w : LineFault) → e ≡ Fault w → said ≡ Err w

-- what was said, seen by view: the value, the fault, or out of memory
abbrev pub Is : {X Y : Type 0} → (X → Y) → Result Y LineFault → Result X LineRefusal → Type 0
Is view said (Ok x) = said ≡ Ok (view x)
Is view said (Err e) = Refuses said e

-- what can be read, or the fault of what can't
abbrev pub Field : {X : Type 0} → Option X → Result X LineRefusal → Type 0
Field read (Ok x) = read ≡ Some x
Field read (Err e) = (read ≡ None) × (e ≡ Fault fault.Number)

abbrev pub OnlyMemory : LineRefusal → Type 0
OnlyMemory e = e ≡ Memory
