-- What a run does to the bytes that a writer holds.
use Rattle.std.specs.Prelude.{◌≡◌, ◌≢◌, ℕ, List, [], ◌++◌, Option, Result, Ok, Err}
use Rattle.std.specs.Io.KnownBytes.{Appends}
use Rattle.dfr_program.specs.declared.fault.RunFault.{RunFault}
use Rattle.dfr_program.specs.declared.fault.RunFault.TheVariants as fault

-- the bytes stay at the front, and some text may follow them
pub record Grows (old new : Option (List ℕ)) : Type 0 where
  pub text : List ℕ
  pub appends : Appends old new text

-- the front of a text was written after what a writer held, and this rest of it wasn't
pub record Wrote (old new : Option (List ℕ)) (rest text : List ℕ) : Type 0 where
  pub front : List ℕ
  pub appends : Appends old new front
  pub whole : front ++ rest ≡ text

-- the front of a text was written, but not the whole text
pub record Cut (old new : Option (List ℕ)) (text : List ℕ) : Type 0 where
  pub rest : List ℕ
  pub missing : rest ≢ []
  pub wrote : Wrote old new rest text

-- a text is printed after `before`, which was buffered: what isn't written is buffered then. Where an allocation failed nothing
-- changed; where a write failed, the front of it all was written, and nothing is buffered
abbrev pub Printed : {U : Type 0} → Result U RunFault → Option (List ℕ) → List ℕ → Option (List ℕ) → List ℕ → List ℕ → Type 0
Printed (Ok u) old before new buffered text = Wrote old new buffered (before ++ text)
Printed (Err fault.Memory) old before new buffered text = (new ≡ old) × (buffered ≡ before)
Printed (Err fault.Output) old before new buffered text = Cut old new (before ++ text) × (buffered ≡ [])
Printed (Err fault.Input) old before new buffered text = ⊥
