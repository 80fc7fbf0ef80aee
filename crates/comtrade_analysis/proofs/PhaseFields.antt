-- The phase of a channel, by its phase field or its id.
use Rattle.std.proofs.Common.{◌≡◌, ℕ, Bool, true, false, cond, List, length, ◌==◌, Option, sym, ap, ◌∙◌}
use Rattle.comtrade_values.specs.Spelling.{trimmed}
use Rattle.dfr_channels.specs.Parts.{AnalogParts}
use Rattle.comtrade_analysis.specs.Phases.{phase_in, phase_of}
use Rattle.comtrade_analysis.specs.declared.phases.Phase.{Phase}

module _ (p : AnalogParts) (field short text : List ℕ) (found : Option Phase) where
  -- whether the phase field is blank
  blank : (v : Bool) → field ≡ p.phase → short ≡ trimmed field → (length short == 0) ≡ v → (length (trimmed p.phase) == 0) ≡ v
  blank v same cut is = ap (λ (xs : List ℕ). length (trimmed xs) == 0) (sym same) ∙ ap (λ (xs : List ℕ). length xs == 0) (sym cut) ∙ is

  choice : (v : Bool) → (length (trimmed p.phase) == 0) ≡ v → phase_of p ≡ cond v (phase_in p.id) (phase_in p.phase)
  choice v is = ap (λ (b : Bool). cond b (phase_in p.id) (phase_in p.phase)) is

  pub by_id : field ≡ p.phase → short ≡ trimmed field → (length short == 0) ≡ true → text ≡ p.id → found ≡ phase_in text → found ≡ phase_of p
  by_id same cut is from at = at ∙ ap phase_in from ∙ sym (choice true (blank true same cut is))

  pub by_phase : field ≡ p.phase → short ≡ trimmed field → (length short == 0) ≡ false → text ≡ p.phase → found ≡ phase_in text → found ≡ phase_of p
  by_phase same cut is from at = at ∙ ap phase_in from ∙ sym (choice false (blank false same cut is))
