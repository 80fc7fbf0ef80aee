-- Where memory is needed, a record is open or opens.
use Rattle.std.proofs.Common.{ℕ, suc, ◌≡◌, ◌+◌, sym, ap, subst, ◌∙◌, refl, Bool, true, false, cond, eqb, ltb, ◌∷◌, length, Option, Some, None, arith}
use Rattle.std.specs.Prelude.{◌-◌, ◌||◌, IsTrue, is_some, slice_get}
use Rattle.std.proofs.lemmas.Bool.{lt-ltb, and_from}
use Rattle.dfr_channels.specs.Parts.{ScanParts}
use Rattle.dfr_channels.specs.Firing.{lowest_holding}
use Rattle.dfr_recorder.specs.declared.limits.Limits.{Limits}
use Rattle.dfr_recorder.specs.declared.record.Cause.{Cause}
use Rattle.dfr_recorder.specs.declared.record.Cause.TheVariants as cause
use Rattle.dfr_recorder.specs.declared.record.Extent.{Extent}
use Rattle.dfr_recorder.specs.declared.marks.Newest.{Newest}
use Rattle.dfr_recorder.specs.declared.marks.Met.{Met}
use Rattle.dfr_recorder.specs.declared.marks.Marked.{Marked}
use Rattle.dfr_recorder.specs.declared.marks.MarkedIf.{MarkedIf}
use Rattle.dfr_recorder.specs.Parts.{RecordParts}
use Rattle.dfr_recorder.specs.Steps as step
use Rattle.dfr_recorder.specs.Marks.{mark, mark_if, is_covered}
use Rattle.dfr_recorder.specs.History.{past, count, is_open, refusal, lost_refusal}
use Rattle.dfr_recorder.specs.Kept.{Kept, kept}
use Rattle.dfr_recorder.specs.Memory.{accepts, opens, GrowsRecord, AddsLost, OpensRecord}
use Rattle.dfr_recorder.specs.Recording.{extent_of, met, accepted, fired_mark}
use Rattle.dfr_recorder.proofs.Next.{next, next_scan, next_lost, next_trigger, lost, marked, fired}
use Rattle.dfr_recorder.proofs.Law.{core-law}
use Rattle.dfr_recorder.proofs.Body.{fired_is}
use Rattle.dfr_recorder.proofs.Readers.{open_law}

-- a trigger after which a record is open found one or opened one
mark-by : (limits : Limits) (k : ℕ) (newest : Newest) (by : Cause) (full : Bool) (extent : Option Extent)
    → is_some (mark limits k by (record { newest = newest; full = full; extent = extent })).extent ≡ true
    → (is_some extent || ltb newest.number (mark limits k by (record { newest = newest; full = full; extent = extent })).newest.number) ≡ true
mark-by limits k newest by full (Some e) some = refl
mark-by limits k newest by true None some = absurd (cc)
mark-by limits k newest by false None some = lt-ltb newest.number (newest.number + 1) (omega arith)

found-by : (opened opened2 : ℕ) (recording : Option RecordParts) → (is_some (extent_of recording) || ltb opened opened2) ≡ true → (is_some recording || ltb opened opened2) ≡ true
found-by opened opened2 None e = e
found-by opened opened2 (Some r) e = refl

fired-by : (k : Kept) (f : Option ℕ) → is_some (fired_mark k f).extent ≡ true → (is_some (extent_of k.recording) || ltb k.newest.number (fired_mark k f).newest.number) ≡ true
fired-by k None some = rw some refl
fired-by k (Some rule) some = mark-by k.limits k.scans k.newest (cause.Rule rule) (eqb (length k.shelf) k.limits.shelf) (extent_of k.recording) some

pub finds_law : (k old : Kept) (f : Option ℕ) (before : Met) (m : MarkedIf) → k ≡ old → before ≡ met k → m ≡ mark_if k.limits k.scans f before → is_some m.extent ≡ true
    → is_some (fired_mark old f).extent ≡ true
finds_law k old f before m v met_is mark_is some =
    ap (λ (q : Kept). is_some (fired_mark q f).extent) (sym v) ∙ ap (λ (q : MarkedIf). is_some q.extent) (sym (mark_is ∙ ap (mark_if k.limits k.scans f) met_is)) ∙ some

pub grows_law : (k old : Kept) (x : ScanParts) (f : Option ℕ) → k ≡ old → refusal k.layout k.scans x ≡ None
    → f ≡ lowest_holding (slice_get k.ring (length k.ring - 1)) x k.rules → is_some (fired_mark old f).extent ≡ true → GrowsRecord old x
grows_law k old x f v ok f_is found_some o h e =
    let some : is_some (fired_mark k f).extent ≡ true = ap (λ (q : Kept). is_some (fired_mark q f).extent) v ∙ found_some in
    let m : MarkedIf = fired_mark k f in
    let is : fired_mark k (fired k x) ≡ m = ap (fired_mark k) (fired_is k x f f_is) in
    let same : kept o h ≡ k = e ∙ sym v in
    let after : kept o (step.Scan x ∷ h) ≡ accepted k x m = core-law o h (step.Scan x) ∙ ap (λ k. next k (step.Scan x)) same ∙ ap (next_scan k x) ok ∙ ap (accepted k x) is in
    let was : count (past o h) ≡ k.scans = ap (λ (k : Kept). k.scans) same in
    let now : count (past o (step.Scan x ∷ h)) ≡ k.scans + 1 = ap (λ (k : Kept). k.scans) after in
    let taken_in : IsTrue (accepts o h (step.Scan x)) = lt-ltb (count (past o h)) (count (past o (step.Scan x ∷ h))) (omega (arith, was, now)) in
    let found : (is_some k.recording || ltb k.newest.number m.newest.number) ≡ true =
    found-by k.newest.number m.newest.number k.recording (subst (λ (q : MarkedIf). (is_some (extent_of k.recording) || ltb k.newest.number q.newest.number) ≡ true) is (fired-by k (fired k x) (ap (λ (q : MarkedIf). is_some q.extent) is ∙ some))) in
    let meets : (is_open (past o h) || opens o h (step.Scan x)) ≡ true =
    ap (λ b. b || opens o h (step.Scan x)) (sym (open_law o h) ∙ ap (λ (k : Kept). is_some k.recording) same)
    ∙ ap (λ (n : ℕ). is_some k.recording || ltb n (length (past o (step.Scan x ∷ h)).extents)) (ap (λ (k : Kept). k.newest.number) same)
    ∙ ap (λ (n : ℕ). is_some k.recording || ltb k.newest.number n) (ap (λ (k : Kept). k.newest.number) after)
    ∙ found in
    and_from _ _ taken_in meets

pub adds_law : (k old : Kept) → k ≡ old → lost_refusal k.layout k.scans ≡ None → AddsLost old
adds_law k old v ok o h e =
    let same : kept o h ≡ k = e ∙ sym v in
    let after : kept o (step.Lost ∷ h) ≡ accepted k (lost k) (fired_mark k None) = core-law o h step.Lost ∙ ap (λ k. next k step.Lost) same ∙ ap (next_lost k) ok in
    let was : count (past o h) ≡ k.scans = ap (λ (k : Kept). k.scans) same in
    let now : count (past o (step.Lost ∷ h)) ≡ k.scans + 1 = ap (λ (k : Kept). k.scans) after in
    lt-ltb (count (past o h)) (count (past o (step.Lost ∷ h))) (omega (arith, was, now))

pub opens_law : (k old : Kept) (j : ℕ) (before : Met) (m : Marked) → k ≡ old → k.scans ≡ suc j → before ≡ met k → is_covered k.limits j before ≡ false
    → m ≡ mark k.limits j cause.Manual before → k.recording ≡ None → is_some m.extent ≡ true → OpensRecord old
opens_law k old j before m v at met_is free mark_is none some o h e =
    let is : mark k.limits j cause.Manual (met k) ≡ m = sym (mark_is ∙ ap (mark k.limits j cause.Manual) met_is) in
    let same : kept o h ≡ k = e ∙ sym v in
    let after : kept o (step.Trigger ∷ h) ≡ marked k m.newest m.extent = core-law o h step.Trigger ∙ ap (λ k. next k step.Trigger) same ∙ ap (next_trigger k) at
    ∙ ap (λ b. cond b k (marked k (mark k.limits j cause.Manual (met k)).newest (mark k.limits j cause.Manual (met k)).extent)) (sym (ap (is_covered k.limits j) met_is) ∙ free)
    ∙ ap (λ (q : Marked). marked k q.newest q.extent) is in
    let more : (is_some (extent_of k.recording) || ltb k.newest.number m.newest.number) ≡ true =
    subst (λ (q : Marked). (is_some (extent_of k.recording) || ltb k.newest.number q.newest.number) ≡ true) is
    (mark-by k.limits j k.newest cause.Manual (eqb (length k.shelf) k.limits.shelf) (extent_of k.recording) (ap (λ (q : Marked). is_some q.extent) is ∙ some)) in
    ap (λ (n : ℕ). ltb n (length (past o (step.Trigger ∷ h)).extents)) (ap (λ (k : Kept). k.newest.number) same)
    ∙ ap (λ (n : ℕ). ltb k.newest.number n) (ap (λ (k : Kept). k.newest.number) after)
    ∙ sym (ap (λ r. is_some (extent_of r) || ltb k.newest.number m.newest.number) none) ∙ more
