-- What a run over a script was given: all of its scans and orders.
use Rattle.std.proofs.Common.{◌≡◌, ◌⊎◌, inl, inr, ℕ, List, [], ◌∷◌, ◌++◌, map, true≢false, Option, Some, None, is_some, Result, Ok, Err, refl, sym, ◌∙◌, ap, subst, arith, append_assoc}
use Rattle.std.proofs.lemmas.List.{append-nil, map-append}
use Rattle.std.specs.Prelude.{IfErr, min, max, ◌≤◌, length}
use Rattle.dfr_recorder.specs.Steps.{StepParts}
use Rattle.dfr_recorder.specs.History.{Opening}
use Rattle.comtrade_format.specs.declared.file.Kind.{Kind}
use Rattle.dfr_script.specs.Parts.{ScriptParts}
use Rattle.dfr_live.specs.Parts.{CallParts, EntryParts}
use Rattle.dfr_live.specs.declared.entry.Reply.{Reply}
use Rattle.dfr_live.specs.Calls.{open_fault}
use Rattle.dfr_live.specs.declared.outcome.OpenFault.{OpenFault}
use Rattle.dfr_live.specs.declared.outcome.OpenFault.TheVariants as open_refused
use Rattle.dfr_live.specs.declared.station.Order.{Order}
use Rattle.dfr_live.specs.declared.report.LiveFault.{LiveFault}
use Rattle.dfr_live.specs.declared.report.LiveFault.TheVariants as fault
use Rattle.dfr_live.specs.declared.report.LiveReport.{LiveReport}
use Rattle.dfr_live.specs.Devices.{GivesOf, AsksOf, HearsOf, PutsOf, Came, taken_in, never, asks_plainly, hears_plainly, stops, call_in, Noted, noted, Turn, Waits, Makes, Desked, new_desk, TookTurn, MadeAll, GotFront}
use Rattle.dfr_live.specs.Causes.{HasCause}
use Rattle.dfr_live.specs.Listed.{FeedsNext}
use Rattle.dfr_live.proofs.Listed.{gave_all, never_failed, so_many}
use Rattle.dfr_live.specs.declared.ended.EndFault.TheVariants as end_refused
use Rattle.dfr_live.specs.Report.{Recorded}
use Rattle.dfr_program.specs.declared.plan.Scans.{Scans}
use Rattle.dfr_program.specs.declared.plan.Placed.{Placed}
use Rattle.dfr_program.specs.Plans.{scans_in, orders_in, steps_left, orders_left, placed, calls_made, call_at, OrdersNext}
use Rattle.dfr_program.specs.Live.{given_by, Ran}
use Rattle.dfr_program.specs.Reports.{run_word}

-- the greatest place of orders
abbrev pub reached : ℕ → List (ℕ × CallParts) → ℕ
reached before [] = before
reached before (o ∷ os) = reached (max before o.0) os

reached-more : (before p : ℕ) (c : CallParts) (os : List (ℕ × CallParts)) → reached before (os ++ (p, c) ∷ []) ≡ max (reached before os) p
reached-more before p c [] = refl
reached-more before p c (o ∷ os) = reached-more (max before o.0) p c os

calls-more : (steps before p : ℕ) (c : CallParts) (os : List (ℕ × CallParts))
    → calls_made steps before (os ++ (p, c) ∷ []) ≡ calls_made steps before os ++ (min (max (reached before os) p) steps, c) ∷ []
calls-more steps before p c [] = refl
calls-more steps before p c (o ∷ os) =
    ap (λ (l : List (ℕ × CallParts)). (min (max before o.0) steps, o.1) ∷ l) (calls-more steps (max before o.0) p c os)

abbrev pub call_in_note : Noted → ℕ × CallParts
call_in_note n = (n.0, n.1)

calls-noted : (es : List EntryParts) → map call_at es ≡ map call_in_note (map noted es)
calls-noted [] = refl
calls-noted (e ∷ es) = ap (λ (l : List (ℕ × CallParts)). call_at e ∷ l) (calls-noted es)

none-named : {word : List ℕ} → None ≡ Some word → ⊥
none-named q = true≢false (sym (ap is_some q))

-- a recorder of a script can be opened, unless an allocation fails
open-failed : (why : OpenFault) (word : List ℕ) → run_word (fault.Open why) ≡ Some word → ((None ≡ Some why) ⊎ (why ≡ open_refused.Memory)) → ⊥
open-failed why word named (inl q) = true≢false (sym (ap is_some q))
open-failed why word named (inr q) = none-named (sym (ap (λ (f : OpenFault). run_word (fault.Open f)) q) ∙ named)

module _ {A : Type 0} where
  -- a feed and a desk over a script
  abbrev pub Feeds : GivesOf A (Scans A)
  Feeds x r y = FeedsNext (steps_left x) r (steps_left y)

  abbrev pub Asks : AsksOf A (Placed A)
  Asks s standing r t = asks_plainly (λ (x : Placed A) (o : Option (ℕ × Order A)) (y : Placed A). OrdersNext (orders_left x) o (orders_left y)) s r t

  abbrev pub Hears : HearsOf (Placed A)
  Hears s at reply on t = hears_plainly s reply on t

  -- so far these orders were handed out, and their calls noted
  abbrev Ordered : ℕ → Placed A → Desked (Placed A) → Type 0
  Ordered steps p s =
      (os : List (ℕ × CallParts)) × (orders_left p ≡ os ++ orders_left s.desk) × (s.pumped ≡ min (reached 0 os) steps)
      × (map call_in_note s.notes ≡ calls_made steps 0 os)

  one-more : (steps place : ℕ) (o : Order A) (reply : Reply) (p m : Placed A) (s t : Desked (Placed A))
      → Ordered steps p s → orders_left s.desk ≡ placed (place, o) ∷ orders_left m → t.desk ≡ m
      → t.pumped ≡ min (max s.pumped place) steps → t.notes ≡ s.notes ++ (t.pumped, call_in o, reply) ∷ [] → Ordered steps p t
  one-more steps place o reply p m s t (os, left, here, calls) out same there notes =
      let all = reached-more 0 place (call_in o) os in
      let at : t.pumped ≡ min (max (reached 0 os) place) steps = omega (arith, there, here) in (
        os ++ placed (place, o) ∷ [],
        left ∙ ap (λ (l : List (ℕ × CallParts)). os ++ l) out ∙ sym (append_assoc os (placed (place, o) ∷ []) (orders_left m))
            ∙ ap (λ (z : Placed A). (os ++ placed (place, o) ∷ []) ++ orders_left z) (sym same),
        omega (arith, at, all),
        ap (map call_in_note) notes
            ∙ map-append call_in_note s.notes ((t.pumped, call_in o, reply) ∷ [])
            ∙ ap (λ (l : List (ℕ × CallParts)). l ++ (t.pumped, call_in o) ∷ []) calls
            ∙ ap (λ (n : ℕ). calls_made steps 0 os ++ (n, call_in o) ∷ []) at
            ∙ sym (calls-more steps 0 place (call_in o) os),
      )

  ordered : (steps : ℕ) (p : Placed A) (turns : List (Turn A)) (s : Desked (Placed A))
      → Came (TookTurn Asks Hears steps) (new_desk p) turns s → Ordered steps p s
  ordered steps p [] s h =
      subst (λ (z : Desked (Placed A)). Ordered steps p z) h ([], refl, omega arith, refl)
  ordered steps p (Waits standing free ∷ turns) s (m, before, turn) = absurd turn.1
  ordered steps p (Makes standing place o (Some reply) ∷ turns) s (m, before, (d, same, asked, heard, there, notes)) =
      one-more steps place o reply p d m s (ordered steps p turns m before) asked heard.1 there notes
  ordered steps p (Makes standing place o None ∷ turns) s (m, before, (d, same, asked, heard, there, notes)) =
      absurd (true≢false heard.0)

  -- the calls of a desk over a script are those of all its orders
  pub made-all : (p q : Placed A) (made : List EntryParts) (steps : ℕ) → MadeAll Asks Hears p made steps q
      → map call_at made ≡ calls_made steps 0 (orders_left p)
  made-all p q made steps h =
      let far = ordered steps p h.turns h.last h.came in
      let none = h.done.1.0 in
      calls-noted made ∙ ap (map call_in_note) h.notes ∙ far.3
      ∙ ap (calls_made steps 0) (sym (far.1 ∙ ap (λ (l : List (ℕ × CallParts)). far.0 ++ l) none ∙ append-nil far.0))

  -- a run over a script that was recorded is of all that the script gives
  pub ran : {K : Type 0} (Puts : PutsOf K) (kind : Kind) (o : Opening) (s : ScriptParts)
      (f f' : Scans A) (p p' : Placed A) (k k' : K) (r : LiveReport A)
      → steps_left f ≡ scans_in s.commands → orders_left p ≡ orders_in 0 s.commands
      → Recorded Feeds never Asks Hears Puts (λ s _ what t. stops s what t) o kind (f, p, k) (f', p', k') r
      → Ran (given_by Puts kind k k' s) o r
  ran Puts kind o s f f' p p' k k' r scans orders h =
      record {
        reports = h.report;
        fed = gave_all {A = A} steps_left f f' (taken_in h.report.source) h.fed ∙ scans;
        none_left = h.none_left;
        ordered = made-all p p' _ r.stepped h.ordered ∙ ap (calls_made r.stepped 0) orders;
        one = h.one;
        handed_on = h.handed_on;
        none_waits = h.none_waits;
      }

  -- why it failed, where its fault has a word
  failed : {K : Type 0} (Puts : PutsOf K) (kind : Kind) (o : Opening) (s : ScriptParts)
      (f f' : Scans A) (p p' : Placed A) (k k' : K) (why : LiveFault) (word : List ℕ)
      → steps_left f ≡ scans_in s.commands
      → HasCause Feeds never Puts (λ s _ what t. stops s what t) o kind None (f, p, k) (f', p', k') why
      → GotFront Puts (λ s _ what t. stops s what t) o kind k k' → run_word why ≡ Some word
      → (given_by Puts kind k k' s).Fails o why
  failed Puts kind o s f f' p p' k k' (fault.Feed code) word scans cause front named = absurd (never_failed {A = A} steps_left f f' code cause)
  failed Puts kind o s f f' p p' k k' (fault.Sink code) word scans cause front named = (cause, front)
  failed Puts kind o s f f' p p' k k' fault.Turns word scans cause front named = (tt, front)
  failed Puts kind o s f f' p p' k k' fault.Counter word scans cause front named =
      (subst (λ (l : List StepParts). 4_294_967_295 ≤ length l) scans (so_many {A = A} steps_left f cause), front)
  failed Puts kind o s f f' p p' k k' fault.Memory word scans cause front named = absurd (none-named named)
  failed Puts kind o s f f' p p' k k' (fault.Open why) word scans cause front named = absurd (open-failed why word named cause.1)
  failed Puts kind o s f f' p p' k k' (fault.End end_refused.Tokens) word scans cause front named = absurd cause
  failed Puts kind o s f f' p p' k k' (fault.End end_refused.Mismatch) word scans cause front named = (refl, front)
  failed Puts kind o s f f' p p' k k' (fault.End end_refused.Memory) word scans cause front named = absurd (none-named named)

  -- so of a run over a new recorder
  pub all_failed : {K R : Type 0} (Puts : PutsOf K) (kind : Kind) (o : Opening) (s : ScriptParts) (scans : ℕ)
      (f f' : Scans A) (p p' : Placed A) (k k' : K) (came : Result R LiveFault) → scans ≡ 0
      → steps_left f ≡ scans_in s.commands
      → IfErr came (HasCause Feeds never Puts (λ s _ what t. stops s what t) o kind (open_fault scans 1_024 2) (f, p, k) (f', p', k'))
      → GotFront Puts (λ s _ what t. stops s what t) o kind k k'
      → IfErr came (λ why. (word : List ℕ) → run_word why ≡ Some word → (given_by Puts kind k k' s).Fails o why)
  all_failed Puts kind o s scans f f' p p' k k' (Ok r) new same cause front = tt
  all_failed Puts kind o s scans f f' p p' k k' (Err why) new same cause front = λ word named.
      failed Puts kind o s f f' p p' k k' why word same
      (subst (λ (n : ℕ). HasCause Feeds never Puts (λ s _ what t. stops s what t) o kind (open_fault n 1_024 2) (f, p, k) (f', p', k') why) new cause)
      front named
