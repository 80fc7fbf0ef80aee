-- What a feed over a list gives in a run: all of it, if no scan came any more.
use Rattle.std.proofs.Common.{◌≡◌, inl, inr, ℕ, ◌≤◌, List, [], ◌∷◌, ◌++◌, length, replicate, Result, Ok, Err, sym, ◌∙◌, ap, arith, append_assoc, length-append}
use Rattle.std.proofs.lemmas.List.{append-nil, length-replicate}
use Rattle.dfr_recorder.specs.Steps.{StepParts}
use Rattle.dfr_recorder.specs.Steps as step
use Rattle.dfr_live.specs.Causes.{AreTooMany, GaveTooMany}
use Rattle.dfr_live.specs.Devices.{GivesOf, TakenFor, Came, GaveOne, GaveAll, FeedFailed, all_taken, steps_given, never}
use Rattle.dfr_live.specs.Listed.{FeedsNext}
use Rattle.dfr_live.specs.declared.station.Fed.{Fed}
use Rattle.dfr_live.specs.declared.station.Fed.TheVariants as fed

one-less : {A : Type 0} (old : List StepParts) (r : Result (Fed A) ℕ) (new : List StepParts) → FeedsNext old r new → old ≡ steps_given r ++ new
one-less old (Ok (fed.Scan scan)) new h = h
one-less old (Ok fed.Lost) new h = h
one-less old (Ok fed.NotYet) new h = absurd h
one-less old (Ok fed.Done) new h = h.0 ∙ sym h.1
one-less old (Err code) new h = absurd h

-- steps of which one more can't be counted
at-least : (steps : List StepParts) → AreTooMany steps → 4_294_967_295 ≤ length steps
at-least steps (inl all) = omega (arith, all)
at-least steps (inr (before, lost, so_many, same)) =
    let whole = ap (λ (l : List StepParts). length l) same in
    let sum = length-append before (replicate lost step.Lost) in
    let end = length-replicate lost step.Lost in
    omega (arith, whole, sum, end, so_many)

-- a feed whose states have these steps left
module _ {A F : Type 0} (left : F → List StepParts) where
  abbrev pub Feeds : GivesOf A F
  Feeds s r t = FeedsNext (left s) r (left t)

  one-taken : (s t : F) (x : TakenFor A) → GaveOne Feeds never s x t → left s ≡ x.1 ++ left t
  one-taken s t x (on, inl (h, is)) = one-less (left s) x.0 (left t) h ∙ ap (λ (l : List StepParts). l ++ left t) (sym is)
  one-taken s t x (on, inr lost) = absurd lost.4

  less : (xs : List (TakenFor A)) (s t : F) → Came (GaveOne Feeds never) s xs t → left s ≡ all_taken xs ++ left t
  less [] s t h = ap left h
  less (x ∷ xs) s t h =
      less xs s h.0 h.1
      ∙ ap (λ (l : List StepParts). all_taken xs ++ l) (one-taken h.0 t x h.2)
      ∙ sym (append_assoc (all_taken xs) x.1 (left t))

  -- where it said that no scan comes any more, it has given all
  pub gave_all : (s t : F) (steps : List StepParts) → GaveAll Feeds never s steps t → steps ≡ left s
  gave_all s t steps (given, m, came, done, same) =
      sym same ∙ sym (append-nil (all_taken given)) ∙ ap (λ (l : List StepParts). all_taken given ++ l) (sym done.0) ∙ sym (less given s m came)

  -- it never fails
  pub never_failed : (s t : F) (code : ℕ) → FeedFailed Feeds never s code t → ⊥
  never_failed s t code (given, m, came, failed) = failed

  -- where a counter came to its end, the list has so many steps
  pub so_many : (s : F) → GaveTooMany Feeds never s → 4_294_967_295 ≤ length (left s)
  so_many s (given, m, came, many) =
      let all = ap (λ (l : List StepParts). length l) (less given s m came) in
      let sum = length-append (all_taken given) (left m) in
      let far = at-least (all_taken given) many in
      omega (arith, all, sum, far)
