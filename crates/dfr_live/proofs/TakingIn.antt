-- What a source took in, one answer of the intake after the other.
use Rattle.std.proofs.Common.{◌≡◌, ◌⊎◌, inl, inr, ℕ, ◌+◌, ◌-◌, ◌≤◌, List, [], ◌∷◌, ◌++◌, replicate, length, Bool, true, refl, sym, ◌∙◌, ap, append_assoc, Result, Ok, Err, arith, length-append}
use Rattle.std.proofs.lemmas.List.{append-nil, replicate-append-replicate}
use Rattle.dfr_channels.specs.Parts.{ScanParts}
use Rattle.dfr_recorder.specs.Steps.{StepParts}
use Rattle.dfr_recorder.specs.Steps as step
use Rattle.dfr_live.specs.Parts.{LeftParts}
use Rattle.dfr_live.specs.Weave.{steps_in, steps_of}
use Rattle.dfr_live.specs.Seen.{SourceParts}
use Rattle.dfr_live.specs.Station.{after_loss, after_offer}
use Rattle.dfr_live.specs.declared.station.Fed.{Fed}
use Rattle.dfr_live.specs.declared.station.Fed.TheVariants as fed
use Rattle.dfr_live.specs.declared.report.LiveFault.{LiveFault}
use Rattle.dfr_live.specs.declared.report.LiveFault.TheVariants as fault
use Rattle.dfr_live.specs.Devices.{GivesOf, LosesOf, TakenFor, Came, steps_given, goes_on, all_taken, taken_in, GaveOne, TookIn}
use Rattle.dfr_live.specs.Causes.{AskFails, AcquisitionFails, CountsNoMore, GaveTooMany}
use Rattle.dfr_live.proofs.Weaving.{steps_of-append}

scan-more : (s : SourceParts) (scan : ScanParts) → taken_in (after_offer s scan) ≡ taken_in s ++ step.Scan scan ∷ []
scan-more s scan =
    let x : LeftParts = record { lost = s.lost; scan = scan } in
    append-nil (steps_of (s.offered ++ x ∷ []))
    ∙ steps_of-append s.offered (x ∷ [])
    ∙ ap (λ (l : List StepParts). steps_of s.offered ++ l) (append-nil (replicate s.lost step.Lost ++ step.Scan scan ∷ []))
    ∙ sym (append_assoc (steps_of s.offered) (replicate s.lost step.Lost) (step.Scan scan ∷ []))

loss-more : (s : SourceParts) → taken_in (after_loss s) ≡ taken_in s ++ step.Lost ∷ []
loss-more s =
    ap (λ (l : List StepParts). steps_of s.offered ++ l) (sym (replicate-append-replicate s.lost 1 step.Lost))
    ∙ sym (append_assoc (steps_of s.offered) (replicate s.lost step.Lost) (step.Lost ∷ []))

module _ {A F : Type 0} (Gives : GivesOf A F) (Loses : LosesOf F) where
  -- the scan was offered, or it is lost
  pub took_scan : (f m g : F) (s t : SourceParts) (n k : ℕ) (scan : ScanParts) (r : Result (Fed A) ℕ)
      → Gives f r m → r ≡ Ok (fed.Scan scan) → (((t ≡ after_offer s scan) × (g ≡ m)) ⊎ ((t ≡ after_loss s) × Loses m g)) → k ≡ n + 1
      → TookIn Gives Loses f s n g t k
  took_scan f m g s t n k scan r h is (inl e) more =
      ((r, step.Scan scan ∷ []), (ap (λ (y : Result (Fed A) ℕ). goes_on y) is, inl (rw e.1 h, rw is refl)), rw e.0 (scan-more s scan), more)
  took_scan f m g s t n k scan r h is (inr e) more =
      ((r, step.Lost ∷ []), (ap (λ (y : Result (Fed A) ℕ). goes_on y) is, inr (scan, m, is, h, e.1, refl)), rw e.0 (loss-more s), more)

  pub took_loss : (f g : F) (s t : SourceParts) (n k : ℕ) (r : Result (Fed A) ℕ)
      → Gives f r g → r ≡ Ok fed.Lost → t ≡ after_loss s → k ≡ n + 1 → TookIn Gives Loses f s n g t k
  took_loss f g s t n k r h is e more =
      ((r, step.Lost ∷ []), (ap (λ (y : Result (Fed A) ℕ). goes_on y) is, inl (h, rw is refl)), rw e (loss-more s), more)

  pub took_none : (f g : F) (s t : SourceParts) (n k : ℕ) (r : Result (Fed A) ℕ)
      → Gives f r g → r ≡ Ok fed.NotYet → t ≡ s → k ≡ n + 0 → TookIn Gives Loses f s n g t k
  took_none f g s t n k r h is e more =
      ((r, []), (ap (λ (y : Result (Fed A) ℕ). goes_on y) is, inl (h, rw is refl)), rw e (sym (append-nil (taken_in s))), more)

  -- what an intake gave from its beginning on, a source that began empty took in, and so many steps were counted
  abbrev pub GaveSoFar : F → F → SourceParts → ℕ → Type 0
  GaveSoFar f g s n =
      (given : List (TakenFor A)) × Came (GaveOne Gives Loses) f given g × (all_taken given ≡ taken_in s) × (n ≡ length (taken_in s))

  pub gave_more : (f g h : F) (s t : SourceParts) (n k : ℕ) → GaveSoFar f g s n → TookIn Gives Loses g s n h t k → GaveSoFar f h t k
  gave_more f g h s t n k far one =
      let x : TakenFor A = one.0 in
      let all = ap (λ (l : List StepParts). length l) one.2 in
      let sum = length-append (taken_in s) x.1 in (
        x ∷ far.0,
        (g, far.1, one.1),
        ap (λ (l : List StepParts). l ++ x.1) far.2 ∙ sym one.2,
        omega (arith, all, sum, one.3, far.3),
      )

  -- steps that can't be counted on are too many
  too_many : (f g : F) (s : SourceParts) (n : ℕ) → GaveSoFar f g s n → CountsNoMore s n → GaveTooMany Gives Loses f
  too_many f g s n far (inl all) = (far.0, g, far.1, inl (ap (λ (l : List StepParts). length l) far.2 ∙ sym far.3 ∙ all))
  too_many f g s n far (inr lost) = (far.0, g, far.1, inr (steps_of s.offered, s.lost, lost, far.2))

  pub gave_fails : (f g h : F) (s : SourceParts) (n : ℕ) (why : LiveFault)
      → GaveSoFar f g s n → AskFails Gives g s n why h → AcquisitionFails Gives Loses f why h
  gave_fails f g h s n (fault.Feed code) far last = (far.0, g, far.1, last)
  gave_fails f g h s n (fault.Sink code) far last = last
  gave_fails f g h s n fault.Turns far last = tt
  gave_fails f g h s n fault.Counter far last = too_many f g s n far last
  gave_fails f g h s n fault.Memory far last = last
  gave_fails f g h s n (fault.Open why) far last = last
  gave_fails f g h s n (fault.End why) far last = absurd last

-- items without a step are none
pub no_items : (left : List LeftParts) → length (steps_of left) ≡ 0 → left ≡ []
no_items [] h = refl
no_items (x ∷ xs) h =
    let all = length-append (steps_in x) (steps_of xs) in
    let one = length-append (replicate x.lost step.Lost) (step.Scan x.scan ∷ []) in
    absurd (omega (arith, all, one, h))
