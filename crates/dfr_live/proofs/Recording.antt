-- A run from the intake to the files, put together.
use Rattle.std.proofs.Common.{◌≡◌, ◌++◌, refl, ℕ, List, [], ◌∷◌, Option, Some, Result, sym, ◌∙◌, ap, subst, arith, length-append, map}
use Rattle.std.specs.Prelude.{All, IfOk, Ok, Err, filter, length, sum_by}
use Rattle.std.proofs.lemmas.List.Elements.{All-head, All-tail}
use Rattle.dfr_recorder.specs.History.{Opening}
use Rattle.dfr_recorder.specs.Kept.{Kept}
use Rattle.dfr_recorder.specs.Parts.{RecordParts}
use Rattle.dfr_recorder.specs.Steps.{StepParts}
use Rattle.comtrade_format.specs.declared.file.Kind.{Kind}
use Rattle.dfr_live.specs.declared.report.LiveReport.{LiveReport}
use Rattle.dfr_live.specs.declared.report.LiveFault.{LiveFault}
use Rattle.dfr_live.specs.Parts.{EntryParts}
use Rattle.dfr_live.specs.Weave.{steps_of}
use Rattle.dfr_live.specs.Seen.{InnerParts, SourceParts, TokenParts, history, history_of}
use Rattle.dfr_live.specs.Gone.{records_taken}
use Rattle.dfr_live.specs.Ends.{is_by, IsNoted}
use Rattle.dfr_live.specs.Devices.{GivesOf, LosesOf, AsksOf, HearsOf, PutsOf, LacksOf, taken_in, GaveAll, MadeAll, GotAll, IsTake}
use Rattle.dfr_live.specs.Report.{Reports, Recorded}
use Rattle.dfr_live.specs.OneList.{OneList, step_from}
use Rattle.dfr_recorder.specs.Run.{followed_by}
use Rattle.dfr_live.proofs.Closed.{orders_take_none, took_all_closed}
use Rattle.dfr_live.proofs.Woven.{one-history}
use Rattle.dfr_live.proofs.TakingIn.{no_items}

module _ {A F O K : Type 0} (Gives : GivesOf A F) (Loses : LosesOf F) (Asks : AsksOf A O) (Hears : HearsOf O)
    (Puts : PutsOf K) (Lacks : LacksOf K) (o : Opening) (kind : Kind) (old new : F × O × K)
    (inner : InnerParts) (source : SourceParts) (first second : TokenParts) where
  recorded : (r : LiveReport A) (reports : Reports o r) → reports.inner ≡ inner → reports.source ≡ source → reports.tokens ≡ first ∷ second ∷ []
      → first.seat ≡ 0 → second.seat ≡ 1 → second.pumped ≡ 0
      → GaveAll Gives Loses old.0 (taken_in source) new.0 → length (steps_of source.offered) ≡ first.pumped
      → MadeAll Asks Hears old.1 first.made first.pumped new.1
      → All IsTake second.made → GotAll Puts Lacks o kind old.2 second.made (Some (records_taken o (history inner))) new.2 → inner.recorder.shelf ≡ []
      → Recorded Gives Loses Asks Hears Puts Lacks o kind old new r
  recorded r reports i s t zero one none gave given made takes got empty =
      let log : List EntryParts = reports.inner.log in
      let noted : All (IsNoted log) (first ∷ second ∷ []) = subst (λ (l : List TokenParts). All (IsNoted log) l) t reports.ends.5.0 in
      let same : r.ended.log.items ≡ log = reports.ends.1 in
      let mine : first.made ≡ filter (is_by 0) r.ended.log.items =
      All-head (IsNoted log) first (second ∷ []) noted ∙ ap (λ (k : ℕ). filter (is_by k) log) zero ∙ ap (filter (is_by 0)) (sym same) in
      let theirs : second.made ≡ filter (is_by 1) r.ended.log.items =
      All-head (IsNoted log) second [] (All-tail (IsNoted log) first (second ∷ []) noted)
      ∙ ap (λ (k : ℕ). filter (is_by k) log) one ∙ ap (filter (is_by 1)) (sym same) in
      let sum = ap (sum_by (λ (x : TokenParts). x.pumped)) (sym t) ∙ reports.ends.5.2 in
      let steps : first.pumped ≡ r.stepped = omega (arith, sum, none, reports.stepped) in
      let line = length-append reports.inner.stepped (steps_of r.ended.left.items) in
      let whole = ap length reports.ends.0 in
      let offered = ap (λ (x : SourceParts). length (steps_of x.offered)) s in
      let woven = one-history reports.inner reports.source reports.tokens r.ended reports.ends in
      let list : OneList reports.inner reports.source reports.tokens r.ended = woven.0 in
      let hist : history inner ≡ followed_by [] (map step_from list.list) =
      ap history (sym i) ∙ ap (λ (l : List EntryParts). history_of reports.inner.stepped l) (sym same) ∙ sym woven.1 in
      let ordered : MadeAll Asks Hears old.1 (filter (is_by 0) r.ended.log.items) r.stepped new.1 =
      subst (λ (es : List EntryParts). MadeAll Asks Hears old.1 es r.stepped new.1) mine
      (subst (λ (n : ℕ). MadeAll Asks Hears old.1 first.made n new.1) steps made) in
      let none_waits = ap (λ (k : Kept). k.shelf) reports.ends.2 ∙ ap (λ (x : InnerParts). x.recorder.shelf) i ∙ empty in
      record {
        report = reports;
        one = list;
        fed = subst (λ (x : SourceParts). GaveAll Gives Loses old.0 (taken_in x) new.0) (sym s) gave;
        none_left = no_items r.ended.left.items (omega (arith, line, whole, offered, given, steps, reports.stepped));
        ordered = ordered;
        takes = subst (λ (es : List EntryParts). All IsTake es) theirs takes;
        handed_on = subst (λ (h : List StepParts). GotAll Puts Lacks o kind old.2 (filter (is_by 1) r.ended.log.items) (Some (records_taken o h)) new.2) hist
            (subst (λ (es : List EntryParts). GotAll Puts Lacks o kind old.2 es (Some (records_taken o (history inner))) new.2) theirs got);
        none_waits = none_waits;
        all_closed =
            took_all_closed reports.inner reports.source reports.tokens r.ended list o reports.opening reports.seats
            (orders_take_none Asks Hears old.1 (filter (is_by 0) r.ended.log.items) r.stepped new.1 ordered) none_waits;
      }

  pub recorded_in : (came : Result (LiveReport A) LiveFault) (tokens : List TokenParts)
      → IfOk came (λ r. (reports : Reports o r) × (reports.inner ≡ inner) × (reports.source ≡ source) × (reports.tokens ≡ tokens)) → tokens ≡ first ∷ second ∷ []
      → first.seat ≡ 0 → second.seat ≡ 1 → second.pumped ≡ 0
      → GaveAll Gives Loses old.0 (taken_in source) new.0 → length (steps_of source.offered) ≡ first.pumped
      → MadeAll Asks Hears old.1 first.made first.pumped new.1
      → All IsTake second.made → GotAll Puts Lacks o kind old.2 second.made (Some (records_taken o (history inner))) new.2 → inner.recorder.shelf ≡ []
      → IfOk came (λ r. Recorded Gives Loses Asks Hears Puts Lacks o kind old new r)
  recorded_in (Ok r) tokens h t zero one none gave given made takes got empty =
      recorded r h.0 h.1 h.2 (h.3 ∙ t) zero one none gave given made takes got empty
  recorded_in (Err f) tokens h t zero one none gave given made takes got empty = tt

-- of two tokens that were taken out none is left
pub two_gone : (all rest none : List TokenParts) (a b : TokenParts) → length all ≡ 2 → all ≡ rest ++ b ∷ [] → rest ≡ none ++ a ∷ [] → none ≡ []
two_gone all rest [] a b n e f = refl
two_gone all rest (x ∷ none) a b n e f =
    absurd (omega (arith, n, ap length e, length-append rest (b ∷ []), ap length f, length-append (x ∷ none) (a ∷ [])))
