-- What the reader's functions answer of one line after the other, in words that no public contract needs.
use Rattle.std.specs.Prelude.{◌≡◌, ◌≢◌, Option, Some, None, Result, Ok, Err}
use Rattle.comtrade_read.specs.declared.fault.ReadFault.{ReadFault}
use Rattle.comtrade_read.specs.declared.fault.ReadFault.TheVariants as faults

-- what a function returned, seen by view: what is said, or out of memory
abbrev pub Is : {X Y : Type 0} → (X → Y) → Result Y ReadFault → Result X ReadFault → Type 0
Is view said (Ok x) = said ≡ Ok (view x)
Is view said (Err e) = e ≢ faults.Memory → said ≡ Err e

-- what reading a field gave
abbrev pub GivesField : {A : Type 0} → Option A → ReadFault → Result A ReadFault → Type 0
GivesField read fault (Ok x) = read ≡ Some x
GivesField read fault (Err e) = (read ≡ None) × (e ≡ fault)
