-- What is noted of the records that are taken, one step on.
use Rattle.std.proofs.Common.{◌≡◌, ℕ, ◌+◌, true≢false, Option, Some, None, Result, Ok, Err, List, [], ◌∷◌, ◌++◌, length, take, arith, refl, sym, ◌∙◌, ap, subst}
use Rattle.std.specs.Prelude.{IfSome, option_to_list}
use Rattle.std.proofs.lemmas.List.{append-nil}
use Rattle.dfr_recorder.specs.Parts.{RecordParts}
use Rattle.dfr_recorder.specs.Steps.{StepParts}
use Rattle.dfr_recorder.specs.Answers.{AnswerParts}
use Rattle.dfr_recorder.specs.Answers as answer
use Rattle.dfr_recorder.specs.History.{Opening}
use Rattle.dfr_recorder.specs.Kept.{reply}
use Rattle.dfr_recorder.specs.declared.step.Scanned.{Scanned}
use Rattle.dfr_recorder.specs.declared.step.ScanRefusal.{ScanRefusal}
use Rattle.dfr_live.specs.Parts.{EntryParts}
use Rattle.dfr_live.specs.Lane.{RingName}
use Rattle.dfr_live.specs.Weave.{step_of, Legal}
use Rattle.dfr_live.specs.Seen.{history_of}
use Rattle.dfr_live.specs.Calls.{SaysAnswer}
use Rattle.dfr_live.specs.Gone.{record_in, records_taken, OutboxParts, Adds, Remembers, IsUpTo, Follows}
use Rattle.dfr_live.proofs.Weaving.{history-empty, history-push, history-entry, taken, unmoved}

-- a scan's answer hands out no record
pub says-none : (b : AnswerParts) (a : Result Scanned ScanRefusal) → SaysAnswer b a → record_in b ≡ []
says-none (answer.Scan x) a h = refl
says-none (answer.Lost x) a h = refl
says-none (answer.Trigger x) a h = refl
says-none (answer.Take x) a h = absurd (true≢false (sym h))
says-none (answer.SetRules x) a h = refl

module _ {A : Type 0} (name : RingName A) where
  pub more : (rs ws : List RecordParts) (x y : Option (OutboxParts A)) → Remembers name rs x → Adds x ws y → Remembers name (rs ++ ws) y
  more rs ws None y h adds = subst (λ (z : Option (OutboxParts A)). Remembers name (rs ++ ws) z) (sym adds) tt
  more rs ws (Some x) y h adds =
      subst (λ (z : Option (OutboxParts A)). Remembers name (rs ++ ws) z) (sym adds.1)
      (adds.2 ∙ h.0, adds.3 ∙ ap (λ (l : List RecordParts). l ++ ws) h.1)

  -- nothing was noted
  pub no-more : (rs : List RecordParts) (x y : Option (OutboxParts A)) → Remembers name rs x → Adds x [] y → Remembers name rs y
  no-more rs x y h adds = subst (λ (l : List RecordParts). Remembers name l y) (append-nil rs) (more rs [] x y h adds)

  -- no step was made yet
  pub so-empty : (o : Opening) (x : Option (OutboxParts A)) → Remembers name [] x → Remembers name (records_taken o (history_of [] [])) x
  so-empty o x h = subst (λ (l : List StepParts). Remembers name (records_taken o l) x) (sym history-empty) h

  module _ (o : Opening) (st : List StepParts) (log : List EntryParts) (x : Option (OutboxParts A)) where
    abbrev pub So : List StepParts → List EntryParts → Option (OutboxParts A) → Type 0
    So t l z = Remembers name (records_taken o (history_of t l)) z

    -- no step was made of what came out of the lane
    pub so-still : (new rest : List StepParts) (n : ℕ) → n ≡ length st → new ≡ st ++ rest → So st log x → So (take n new) log x
    so-still new rest n h e so =
        let same : take n new ≡ st = ap (take n) e ∙ unmoved st rest n h in
        subst (λ (t : List StepParts). So t log x) (sym same) so

    -- a scan step was made
    pub so-moved : (new rest : List StepParts) (n : ℕ) (s : StepParts) → n ≡ length st → new ≡ st ++ s ∷ rest → Legal o st log
        → record_in (reply o (history_of st log) s) ≡ [] → So st log x → So (take (n + 1) new) log x
    so-moved new rest n s h e legal none so =
        let now : take (n + 1) new ≡ st ++ s ∷ [] = taken st rest new n s h e in
        let hist = history-push o st s log legal in
        let same : records_taken o (history_of st log) ≡ records_taken o (history_of (st ++ s ∷ []) log) =
        sym (ap (records_taken o) hist ∙ ap (λ (l : List RecordParts). records_taken o (history_of st log) ++ l) none ∙ append-nil (records_taken o (history_of st log))) in
        subst (λ (t : List StepParts). So t log x) (sym now) (subst (λ (l : List RecordParts). Remembers name l x) same so)

    -- a call was made, and what it hands out was noted
    pub so-called : (log' : List EntryParts) (e : EntryParts) (ws : List RecordParts) (y : Option (OutboxParts A)) → e.at ≡ length st → log' ≡ log ++ e ∷ []
        → record_in (reply o (history_of st log) (step_of e.call)) ≡ ws → Adds x ws y → So st log x → So st log' y
    so-called log' e ws y at grown out adds so =
        let same : records_taken o (history_of st log) ++ ws ≡ records_taken o (history_of st (log ++ e ∷ [])) =
        sym (ap (records_taken o) (history-entry st e log at) ∙ ap (λ (l : List RecordParts). records_taken o (history_of st log) ++ l) out) in
        subst (λ (l : List EntryParts). So st l y) (sym grown)
        (subst (λ (l : List RecordParts). Remembers name l y) same (more (records_taken o (history_of st log)) ws x y so adds))

    -- a call was made that hands out nothing
    pub so-said : (log' : List EntryParts) (e : EntryParts) → e.at ≡ length st → log' ≡ log ++ e ∷ []
        → record_in (reply o (history_of st log) (step_of e.call)) ≡ [] → So st log x → So st log' x
    so-said log' e at grown out so =
        let same : records_taken o (history_of st log) ≡ records_taken o (history_of st (log ++ e ∷ [])) =
        sym (ap (records_taken o) (history-entry st e log at) ∙ ap (λ (l : List RecordParts). records_taken o (history_of st log) ++ l) out ∙ append-nil (records_taken o (history_of st log))) in
        subst (λ (l : List EntryParts). So st l x) (sym grown) (subst (λ (l : List RecordParts). Remembers name l x) same so)

-- ---- what came out

pub none-waits : (g known s : List RecordParts) → g ++ known ≡ s → length known ≡ 0 → s ≡ g
none-waits g [] s e none = sym e ∙ append-nil g
none-waits g (x ∷ known) s e none = absurd (omega (arith, none))

module _ {A : Type 0} where
  on : (g : List RecordParts) (ws : List RecordParts) (b : OutboxParts A) (x y : Option (OutboxParts A)) → x ≡ Some b → b.sent ≡ g → Adds x ws y
      → (z : OutboxParts A) × (y ≡ Some z) × (z.sent ≡ g ++ ws)
  on g ws b x y is out adds =
      let all = subst (λ (z : Option (OutboxParts A)). Adds z ws y) is adds in
      (all.0, all.1, all.3 ∙ ap (λ (l : List RecordParts). l ++ ws) out)

  boxed : (g : List RecordParts) (x : Option (OutboxParts A)) → IsUpTo x (Some g) → (b : OutboxParts A) × (x ≡ Some b) × (b.sent ≡ g)
  boxed g None up = absurd up
  boxed g (Some b) up = (b, refl, up)

  caught : (g ws : List RecordParts) (w : Option (List RecordParts)) (b : OutboxParts A) (x y z : Option (OutboxParts A)) → x ≡ Some b → b.sent ≡ g → Adds x [] y → Adds y ws z
      → IfSome z (λ (b : OutboxParts A). w ≡ Some b.sent) → w ≡ Some (g ++ ws)
  caught g ws w b x y z is out one two all =
      let a = on g [] b x y is out one in
      let c = on g ws a.0 y z a.1 (a.2 ∙ append-nil g) two in
      subst (λ (u : Option (OutboxParts A)). IfSome u (λ (b : OutboxParts A). w ≡ Some b.sent)) c.1 all ∙ ap (λ (l : List RecordParts). Some l) c.2

  followed : (v w : Option (List RecordParts)) (x y z : Option (OutboxParts A)) (r : Option RecordParts) → IsUpTo x v → Adds x [] y → Adds y (option_to_list r) z
      → (v ≡ None → w ≡ None) → IfSome z (λ (b : OutboxParts A). IfSome v (λ (l : List RecordParts). w ≡ Some b.sent)) → Follows v (Ok r) w
  followed None w x y z r up one two none all = none refl
  followed (Some g) w x y z r up one two none all =
      let b = boxed g x up in
      caught g (option_to_list r) w b.0 x y z b.1 b.2 one two all

  pub follows : (u v w : Option (List RecordParts)) (x y z : Option (OutboxParts A)) (r : Option RecordParts) → v ≡ u → IsUpTo x v → Adds x [] y → Adds y (option_to_list r) z
      → (v ≡ None → w ≡ None) → IfSome z (λ (b : OutboxParts A). IfSome v (λ (l : List RecordParts). w ≡ Some b.sent)) → Follows u (Ok r) w
  follows u v w x y z r same up one two none all = subst (λ (k : Option (List RecordParts)). Follows k (Ok r) w) same (followed v w x y z r up one two none all)

  pub all-gone : (name : RingName A) (rs : List RecordParts) (x : Option (OutboxParts A)) (v : Option (List RecordParts)) → Remembers name rs x → IsUpTo x v → IfSome v (λ (out : List RecordParts). out ≡ rs)
  all-gone name rs x None h up = tt
  all-gone name rs None (Some out) h up = absurd up
  all-gone name rs (Some b) (Some out) h up = sym up ∙ h.1

-- which ring it is
pub name-of : {A : Type 0} (name : RingName A) (rs : List RecordParts) (x : Option (OutboxParts A)) → Remembers name rs x → IfSome x (λ (b : OutboxParts A). b.name ≡ name)
name-of name rs None h = tt
name-of name rs (Some b) h = h.0
