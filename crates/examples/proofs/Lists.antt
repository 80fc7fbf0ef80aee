-- What `run_live` comes to over a list of scans and a list of files.
use Rattle.std.proofs.Common.{◌≡◌, ℕ, List, [], ◌∷◌, ◌++◌, map, Bool, true, false, true≢false, Option, Some, None, Result, Ok, Err, refl, sym, ◌∙◌, ap, subst, arith, append_assoc}
use Rattle.std.specs.Prelude.{◌≤◌, All, filter, length, IfErr, IfSome, IsErrAnd}
use Rattle.std.proofs.lemmas.List.{append-nil, map-append}
use Rattle.std.proofs.lemmas.List.Elements.{All-head, All-tail, All-push}
use Rattle.dfr_channels.specs.Parts.{SetupParts}
use Rattle.dfr_recorder.specs.Parts.{RecordParts}
use Rattle.dfr_recorder.specs.Steps.{StepParts}
use Rattle.dfr_recorder.specs.History.{Opening}
use Rattle.dfr_recorder.specs.declared.record.Extent.{Extent}
use Rattle.comtrade_format.specs.declared.file.Kind.{Kind}
use Rattle.dfr_live.specs.Parts.{EntryParts}
use Rattle.dfr_live.specs.Ends.{is_by}
use Rattle.dfr_live.specs.Devices.{GivesOf, AsksOf, HearsOf, PutsOf, LacksOf, Came, taken_in, never, asks_plainly, hears_plainly, stops, Noted, noted, Turn, Waits, Makes, Desked, new_desk, TookTurn, MadeAll, FilesParts, files_of, extents_taken, Tried, HandedOn, Handed, IsTaken, extents_of, records_of}
use Rattle.dfr_live.specs.Causes.{HasCause}
use Rattle.dfr_live.specs.Listed.{FeedsNext}
use Rattle.dfr_live.proofs.Listed.{gave_all, never_failed, so_many}
use Rattle.dfr_live.specs.Report.{Recorded}
use Rattle.dfr_live.specs.declared.devices.Short.{Short}
use Rattle.dfr_live.specs.declared.devices.Short.TheVariants as short
use Rattle.dfr_live.specs.declared.outcome.OpenFault.{OpenFault}
use Rattle.dfr_live.specs.declared.station.Order.{Order}
use Rattle.dfr_live.specs.declared.report.LiveFault.{LiveFault}
use Rattle.dfr_live.specs.declared.report.LiveFault.TheVariants as fault
use Rattle.dfr_live.specs.declared.report.LiveReport.{LiveReport}
use Rattle.examples.specs.declared.listed.ListFeed.{ListFeed}
use Rattle.examples.specs.declared.listed.ListSink.{ListSink}
use Rattle.examples.specs.declared.listed.NoOrders.{NoOrders}
use Rattle.examples.specs.Lists.{steps_left, HandsNone, kept, Keeps, records_in, extents, IsRecorded, CanFail}

abbrev is-stop : Short → Bool
is-stop short.Again = false
is-stop short.GiveUp = false
is-stop short.Stop = true

abbrev extent-of : RecordParts → Extent
extent-of r = r.extent

same-extents : (xs : List Handed) → extents (records_of xs) ≡ extents_of xs
same-extents [] = refl
same-extents (x ∷ xs) =
    map-append extent-of (records_of xs) (x.0 ∷ []) ∙ ap (λ (l : List Extent). l ++ x.0.extent ∷ []) (same-extents xs)

all-taken : (o : Opening) (xs : List Handed) → All (λ (x : Handed). IsTaken o x.0) xs → All (IsTaken o) (records_of xs)
all-taken o [] h = λ k d lt. absurd (omega arith)
all-taken o (x ∷ xs) h =
    All-push (IsTaken o) (records_of xs) x.0 (all-taken o xs (All-tail (λ (y : Handed). IsTaken o y.0) x xs h)) (All-head (λ (y : Handed). IsTaken o y.0) x xs h)

abbrev some-in : List Noted → Bool
some-in [] = false
some-in (n ∷ ns) = true

no-notes : (made : List EntryParts) → map noted made ≡ [] → made ≡ []
no-notes [] h = refl
no-notes (e ∷ es) h = absurd (true≢false (ap some-in h))

-- a fault that is handed up
pub handed-up : {R E : Type 0} (out : Result R E) (e : E) (P : E → Type 0) → IsErrAnd out (λ f. f ≡ e) → P e → IfErr out P
handed-up (Ok done) e P same h = tt
handed-up (Err f) e P same h = subst P (sym same) h

abbrev fault-in : {S : Type 0} → Result S LiveFault → LiveFault
fault-in (Ok done) = fault.Turns
fault-in (Err e) = e

pub opened-up : {R S : Type 0} (came : Result S LiveFault) (out : Result R LiveFault) (e : LiveFault) (refused : Option OpenFault)
    → came ≡ Err e → IsErrAnd out (λ f. f ≡ e) → IfSome refused (λ why. came ≡ Err (fault.Open why)) → IfSome refused (λ why. out ≡ Err (fault.Open why))
opened-up came out e None is same h = tt
opened-up came (Ok done) e (Some why) is same h = absurd same
opened-up came (Err f) e (Some why) is same h = ap (λ (x : LiveFault). Err x) (same ∙ ap fault-in (sym is ∙ h))

abbrev Hears : HearsOf NoOrders
Hears s at reply on t = hears_plainly s reply on t

module _ {A : Type 0} where
  abbrev Gives : GivesOf A (ListFeed A)
  Gives s r t = FeedsNext (steps_left s) r (steps_left t)

  abbrev Asks : AsksOf A NoOrders
  Asks s standing r t = asks_plainly (λ (x : NoOrders) (o : Option (ℕ × Order A)) (y : NoOrders). HandsNone o) s r t

  abbrev Puts : PutsOf (ListSink A)
  Puts s files r t = Keeps (kept s) files r (kept t)

  abbrev Lacks : LacksOf (ListSink A)
  Lacks s extent what t = stops s what t

  -- ---- the orders

  no-turns : (steps : ℕ) (p : NoOrders) (turns : List (Turn A)) (s : Desked NoOrders)
      → Came (TookTurn Asks Hears steps) (new_desk p) turns s → s.notes ≡ []
  no-turns steps p [] s h = ap (λ (z : Desked NoOrders). z.notes) (sym h)
  no-turns steps p (Waits standing free ∷ turns) s (m, before, turn) = absurd turn.1
  no-turns steps p (Makes standing place o reply ∷ turns) s (m, before, turn) = absurd turn.2

  no-calls : (p q : NoOrders) (made : List EntryParts) (steps : ℕ) → MadeAll Asks Hears p made steps q → made ≡ []
  no-calls p q made steps h = no-notes made (h.notes ∙ no-turns steps p h.turns h.last h.came)

  -- ---- the sink

  never-again : (extent : Extent) (s t : ListSink A) (tries : List (Unit {0})) → Tried Lacks extent s tries t → s ≡ t
  never-again extent s t [] h = h
  never-again extent s t (u ∷ tries) (m, before, again) = absurd (true≢false (ap is-stop (sym again.0)))

  one-kept : (layout : SetupParts) (kind : Kind) (s t : ListSink A) (x : Handed) → HandedOn Puts Lacks layout kind s x t
      → kept t ≡ kept s ++ files_of layout kind x.0 ∷ []
  one-kept layout kind s t (r, true) (tries, m, tried, put) =
      put ∙ ap (λ (z : ListSink A). kept z ++ files_of layout kind r ∷ []) (sym (never-again r.extent s m tries tried))
  one-kept layout kind s t (r, false) (tries, m, tried, lack) = absurd (true≢false (ap is-stop (sym lack.0)))

  all-kept : (layout : SetupParts) (kind : Kind) (xs : List Handed) (s t : ListSink A) → Came (HandedOn Puts Lacks layout kind) s xs t
      → kept t ≡ kept s ++ map (files_of layout kind) (records_of xs)
  all-kept layout kind [] s t h = ap kept (sym h) ∙ sym (append-nil (kept s))
  all-kept layout kind (x ∷ xs) s t (m, before, h) =
      one-kept layout kind m t x h
      ∙ ap (λ (l : List FilesParts). l ++ files_of layout kind x.0 ∷ []) (all-kept layout kind xs s m before)
      ∙ append_assoc (kept s) (map (files_of layout kind) (records_of xs)) (files_of layout kind x.0 ∷ [])
      ∙ ap (λ (l : List FilesParts). kept s ++ l) (sym (map-append (files_of layout kind) (records_of xs) (x.0 ∷ [])))

  -- ---- the run

  pub recorded : (o : Opening) (kind : Kind) (steps : List StepParts) (f f' : ListFeed A) (p p' : NoOrders) (k k' : ListSink A) (r : LiveReport A)
      → Recorded Gives never Asks Hears Puts Lacks o kind (f, p, k) (f', p', k') r → steps_left f ≡ steps → kept k ≡ []
      → IsRecorded A o kind steps (kept k')
  recorded o kind steps f f' p p' k k' r h all empty =
      let got = h.handed_on.0 in
      let handed : records_of got ≡ records_in o h.one.list =
      sym (subst (λ (v : Option (List RecordParts)). IfSome v (λ (rs : List RecordParts). rs ≡ records_of got)) (sym h.handed_on.3) refl) in
      let each : extents (records_in o h.one.list) ≡ extents_taken (filter (is_by 1) r.ended.log.items) =
      ap extents (sym handed) ∙ same-extents got ∙ h.handed_on.2 in
      record {
        report = r;
        reports = h.report;
        one = h.one;
        fed = gave_all {A = A} steps_left f f' (taken_in h.report.source) h.fed ∙ all;
        none_left = h.none_left;
        no_orders = no-calls p p' (filter (is_by 0) r.ended.log.items) r.stepped h.ordered;
        takes = h.takes;
        taken = subst (λ (rs : List RecordParts). All (IsTaken o) rs) handed (all-taken o got h.handed_on.1.0);
        each = each;
        same =
            all-kept o.layout kind got k k' h.handed_on.1.1 ∙ ap (λ (l : List FilesParts). l ++ map (files_of o.layout kind) (records_of got)) empty
            ∙ ap (map (files_of o.layout kind)) handed;
        none_waits = h.none_waits;
        all_closed = each ∙ h.all_closed;
      }

  pub can-fail : (o : Opening) (kind : Kind) (refused : Option OpenFault) (all : List StepParts) (f f' : ListFeed A) (p p' : NoOrders) (k k' : ListSink A)
      (why : LiveFault) (steps : ℕ) → steps_left f ≡ all → length all ≡ steps
      → HasCause Gives never Puts Lacks o kind refused (f, p, k) (f', p', k') why → CanFail steps why
  can-fail o kind refused all f f' p p' k k' (fault.Feed code) steps same count cause = never_failed {A = A} steps_left f f' code cause
  can-fail o kind refused all f f' p p' k k' (fault.Sink code) steps same count (records, m, r, got, taken, (tries, n, tried, put)) = put.0
  can-fail o kind refused all f f' p p' k k' fault.Turns steps same count cause = tt
  can-fail o kind refused all f f' p p' k k' fault.Counter steps same count cause =
      subst (λ (n : ℕ). 4_294_967_295 ≤ n) (ap (λ (l : List StepParts). length l) same ∙ count) (so_many {A = A} steps_left f cause)
  can-fail o kind refused all f f' p p' k k' fault.Memory steps same count cause = tt
  can-fail o kind refused all f f' p p' k k' (fault.Open why) steps same count cause = tt
  can-fail o kind refused all f f' p p' k k' (fault.End why) steps same count cause = cause
