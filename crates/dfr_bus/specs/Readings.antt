-- A reading: what the bytes mean, or the first fault in the order of the definitions.
use Rattle.std.specs.Prelude.{ℕ, Result, Ok, Err}
use Rattle.dfr_bus.specs.declared.fault.Fault.{Fault}
use Rattle.dfr_bus.specs.declared.fault.Wrong.{Wrong}

abbrev pub Reading : Type 0 → Type 0
Reading A = Result A Fault

-- The first reading, and then, if it has no fault, the second with its value.
infixl 10 ◌>>=◌
abbrev pub ◌>>=◌ : {A B : Type 0} → Result A Fault → (A → Result B Fault) → Result B Fault
(Ok x) >>= f = f x
(Err e) >>= f = Err e

abbrev pub fault : ℕ → Wrong → Fault
fault at wrong = record { at = at; wrong = wrong }
