-- What is sound stays sound over a step.
use Rattle.std.proofs.Common.{ℕ, zero, suc, ◌≡◌, ◌+◌, ◌-◌, ◌<◌, ◌≤◌, inl, inr, refl, sym, ap, subst, ◌∙◌, Bool, true, false, cond, eqb, min, All, List, [], ◌∷◌, ◌++◌, length, drop, Option, Some, None, arith, length-append, length-drop}
use Rattle.std.specs.Prelude.{IfSome, IfNone, IsTrue, slice_get}
use Rattle.std.proofs.lemmas.Bool.{cases_lt, eqb-true, eqb-false}
use Rattle.std.proofs.lemmas.List.Elements.{All-nil, All-cons, All-head, All-tail, All-push, All-append, All-drop}
use Rattle.dfr_channels.specs.Parts.{SetupParts, ScanParts}
use Rattle.dfr_channels.specs.declared.rule.Rule.{Rule}
use Rattle.dfr_channels.specs.Firing.{rules_fit}
use Rattle.dfr_recorder.specs.declared.limits.Limits.{Limits}
use Rattle.dfr_recorder.specs.declared.record.Cause.{Cause}
use Rattle.dfr_recorder.specs.declared.record.Cause.TheVariants as cause
use Rattle.dfr_recorder.specs.declared.marks.Newest.{Newest}
use Rattle.dfr_recorder.specs.declared.marks.Met.{Met}
use Rattle.dfr_recorder.specs.declared.marks.MarkedIf.{MarkedIf}
use Rattle.dfr_recorder.specs.declared.step.ScanRefusal.{ScanRefusal}
use Rattle.dfr_recorder.specs.Parts.{RecordParts, IsWhole}
use Rattle.dfr_recorder.specs.Limits.{has_stamps}
use Rattle.dfr_recorder.specs.Own.{has_instant}
use Rattle.dfr_recorder.specs.Steps.{StepParts}
use Rattle.dfr_recorder.specs.Steps as step
use Rattle.dfr_recorder.specs.Marks.{mark, mark_if, first_scan, is_covered}
use Rattle.dfr_recorder.specs.declared.step.LostRefusal.{LostRefusal}
use Rattle.dfr_recorder.specs.History as history
use Rattle.dfr_recorder.specs.History.{refusal, lost_refusal, lost_scan}
use Rattle.dfr_recorder.specs.Kept.{Kept, latest}
use Rattle.dfr_recorder.specs.Recording.{extent_of, placed_if, longer, longer_if, unless_last, if_last, met, after_mark, fired_mark, accepted}
use Rattle.dfr_recorder.specs.Sound.{IsSound, IsGrowing, IsOpenSound, IsClosed, Passes}
use Rattle.dfr_recorder.proofs.Next.{next, next_scan, next_lost, next_trigger, marked, fired, lost}
use Rattle.dfr_recorder.proofs.Slices.{newest_get}
use Rattle.dfr_recorder.proofs.Extents.{first_law, free_trigger}
use Rattle.dfr_recorder.proofs.Own.{accepted_law, lost_law, own_record}

length-latest : {X : Type 0} (m : ℕ) (xs : List X) → length (latest m xs) ≡ min (length xs) m
length-latest m xs = omega (arith, length-drop (length xs - m) xs)

-- the open record after a trigger at place k
mark-by : (layout : SetupParts) (limits : Limits) (n k : ℕ) (newest : Newest) (w : ℕ) (by : Cause) (full : Bool) (ring : List ScanParts) (recording : Option RecordParts)
    → k ≤ n → n ≤ k + 1 → eqb w limits.shelf ≡ full → length ring ≡ min n (limits.pre + 1) → All (Passes layout) ring → IfNone recording (limits.unshared ≡ true → newest.end ≤ k) → IsOpenSound layout limits n n newest w recording
    → IsOpenSound layout limits n (k + 1) (mark limits k by (record { newest = newest; full = full; extent = extent_of recording })).newest w
    (placed_if (mark limits k by (record { newest = newest; full = full; extent = extent_of recording })).extent n ring recording)
mark-by layout limits n k newest w by full ring (Some r) lo hi is len pass free h =
    let some = limits.some in
    record {
      begun = h.begun;
      triggered = omega (arith, h.triggered);
      to_come = omega (arith, h.to_come, h.short);
      short = omega (arith, h.to_come, h.short);
      scans = h.scans;
      pass = h.pass;
      few = omega (arith, h.few);
      few_at_last = omega (arith, h.few, h.to_come, h.short);
      end = refl;
      room = h.room;
    }
mark-by layout limits n k newest w by true ring None lo hi is len pass free h = h
mark-by layout limits n k newest w by false ring None lo hi is len pass free h =
    let some = limits.some in
    let fit = limits.fit in
    let at = first_law limits k newest free in
    record {
      begun = at.1;
      triggered = omega arith;
      to_come = omega arith;
      short = omega (arith, at.0);
      scans = omega (arith, len, at.0, at.1, length-latest (n - first_scan limits k newest) ring);
      pass = All-drop (Passes layout) (length ring - (n - first_scan limits k newest)) ring pass;
      few = omega (arith, h.0);
      few_at_last = omega (arith, h.0);
      end = refl;
      room = omega (arith, h.1, eqb-false w limits.shelf is);
    }

pub sound_mark : (k : Kept) (j : ℕ) (by : Cause) → j ≤ k.scans → k.scans ≤ j + 1 → IfNone k.recording (k.limits.unshared ≡ true → k.newest.end ≤ j) → IsSound k
    → IsOpenSound k.layout k.limits k.scans (j + 1) (mark k.limits j by (met k)).newest (length k.shelf) (after_mark k (mark k.limits j by (met k)).extent)
sound_mark k j by lo hi free h = mark-by k.layout k.limits k.scans j k.newest (length k.shelf) by (eqb (length k.shelf) k.limits.shelf) k.ring k.recording lo hi refl h.ring h.pass free h.recording

free-scan : (layout : SetupParts) (limits : Limits) (n m : ℕ) (newest : Newest) (w : ℕ) (recording : Option RecordParts) → IsOpenSound layout limits n m newest w recording
    → IfNone recording (limits.unshared ≡ true → newest.end ≤ n)
free-scan layout limits n m newest w None h = λ _. h.2
free-scan layout limits n m newest w (Some r) h = tt

free-trigger : (limits : Limits) (k : ℕ) (newest : Newest) (full : Bool) (recording : Option RecordParts) → is_covered limits k (record { newest = newest; full = full; extent = extent_of recording }) ≡ false
    → IfNone recording (limits.unshared ≡ true → newest.end ≤ k)
free-trigger limits k newest full None is = free_trigger limits k None newest.end is
free-trigger limits k newest full (Some r) is = tt

unfired : (layout : SetupParts) (limits : Limits) (n : ℕ) (newest : Newest) (w : ℕ) (ring : List ScanParts) (recording : Option RecordParts) → IsOpenSound layout limits n n newest w recording
    → IsOpenSound layout limits n (n + 1) newest w (placed_if (extent_of recording) n ring recording)
unfired layout limits n newest w ring None h = h
unfired layout limits n newest w ring (Some r) h =
    record { begun = h.begun; triggered = omega (arith, h.triggered); to_come = h.to_come; short = h.short; scans = h.scans; pass = h.pass; few = omega (arith, h.few); few_at_last = h.few_at_last; end = h.end; room = h.room }

pub sound_fired : (k : Kept) (f : Option ℕ) → IsSound k → IsOpenSound k.layout k.limits k.scans (k.scans + 1) (fired_mark k f).newest (length k.shelf) (after_mark k (fired_mark k f).extent)
sound_fired k None h = unfired k.layout k.limits k.scans k.newest (length k.shelf) k.ring k.recording h.recording
sound_fired k (Some rule) h = sound_mark k k.scans (cause.Rule rule) (omega arith) (omega arith) (free-scan k.layout k.limits k.scans k.scans k.newest (length k.shelf) k.recording h.recording) h

-- the open record after a scan, and what the scan closes
whole-of : (layout : SetupParts) (limits : Limits) (n : ℕ) (newest : Newest) (w : ℕ) (x : ScanParts) (r : RecordParts) → IsGrowing layout limits n (n + 1) newest w r → r.extent.last ≡ n → IsWhole (longer x r)
whole-of layout limits n newest w x r h at = record { begun = h.begun; ended = omega (arith, h.triggered); scans = omega (arith, h.scans, length-append r.scans (x ∷ [])) }

record IsAdded (layout : SetupParts) (limits : Limits) (n : ℕ) (newest : Newest) (w : ℕ) (longer : Option RecordParts) : Type 0 where
  going : IsOpenSound layout limits (n + 1) (n + 1) newest (w + length (if_last n longer)) (unless_last n longer)
  one : length (if_last n longer) ≤ 1
  closed : All (IsClosed layout limits) (if_last n longer)

added-by : (layout : SetupParts) (limits : Limits) (n : ℕ) (newest : Newest) (w : ℕ) (x : ScanParts) (r : RecordParts) (b : Bool) → eqb r.extent.last n ≡ b
    → IsTrue (has_stamps layout.rate limits.longest) → IsTrue (has_instant layout n) → Passes layout x → IsGrowing layout limits n (n + 1) newest w r → IsAdded layout limits n newest w (Some (longer x r))
added-by layout limits n newest w x r true is stamped timed p h =
    let at = eqb-true r.extent.last n is in
    let short : length (longer x r).scans ≤ limits.longest = omega (arith, h.scans, h.short, at, length-append r.scans (x ∷ [])) in
    let own = own_record layout limits.longest (longer x r) (All-push (Passes layout) r.scans x h.pass p) (subst (λ (i : ℕ). IsTrue (has_instant layout i)) (sym at) timed) short stamped in
    let whole : IsClosed layout limits (longer x r) = record { whole = whole-of layout limits n newest w x r h at; short = short; own = own } in
    record {
      going = rw is (omega (arith, h.few_at_last, at), omega (arith, h.room), omega (arith, h.end, at));
      one = rw is (omega arith);
      closed = rw is (All-cons (IsClosed layout limits) (longer x r) [] whole (All-nil (IsClosed layout limits)));
    }
added-by layout limits n newest w x r false is stamped timed p h =
    let not_at = eqb-false r.extent.last n is in
    let grown : IsGrowing layout limits (n + 1) (n + 1) newest (w + 0) (longer x r) = record {
      begun = h.begun;
      triggered = h.triggered;
      to_come = omega (arith, h.to_come, not_at);
      short = h.short;
      scans = omega (arith, h.scans, length-append r.scans (x ∷ []));
      pass = All-push (Passes layout) r.scans x h.pass p;
      few = h.few;
      few_at_last = h.few_at_last;
      end = h.end;
      room = omega (arith, h.room);
    } in
    record { going = rw is grown; one = rw is (omega arith); closed = rw is (All-nil (IsClosed layout limits)) }

added-is : (layout : SetupParts) (limits : Limits) (n : ℕ) (newest : Newest) (w : ℕ) (x : ScanParts) (recording : Option RecordParts)
    → IsTrue (has_stamps layout.rate limits.longest) → IsTrue (has_instant layout n) → Passes layout x → IsOpenSound layout limits n (n + 1) newest w recording → IsAdded layout limits n newest w (longer_if x recording)
added-is layout limits n newest w x None stamped timed p h = record { going = (omega (arith, h.0), omega (arith, h.1), omega (arith, h.2)); one = omega arith; closed = All-nil (IsClosed layout limits) }
added-is layout limits n newest w x (Some r) stamped timed p h = added-by layout limits n newest w x r (eqb r.extent.last n) refl stamped timed p h

timed-next : (layout : SetupParts) (n : ℕ) → ((i : ℕ) → i < n → IsTrue (has_instant layout i)) → IsTrue (has_instant layout n) → (i : ℕ) → i < n + 1 → IsTrue (has_instant layout i)
timed-next layout n h now i lt = elim (cases_lt i n) [
  | inl less ↦ h i less
  | inr not_less ↦ let at : n ≡ i = omega arith in subst (λ (k : ℕ). IsTrue (has_instant layout k)) at now
]

pub sound_accepted : (k : Kept) (x : ScanParts) (f : Option ℕ) → refusal k.layout k.scans x ≡ None → IsSound k → IsSound (accepted k x (fired_mark k f))
sound_accepted k x f ok h =
    let why = accepted_law k.layout k.scans x ok in
    let r : Option RecordParts = longer_if x (after_mark k (fired_mark k f).extent) in
    let a = added-is k.layout k.limits k.scans (fired_mark k f).newest (length k.shelf) x (after_mark k (fired_mark k f).extent) h.stamped why.1 why.0 (sound_fired k f h) in
    let longer_shelf : length k.shelf + length (if_last k.scans r) ≡ length (k.shelf ++ if_last k.scans r) = sym (length-append k.shelf (if_last k.scans r)) in
    record {
      stamped = h.stamped;
      timed = timed-next k.layout k.scans h.timed why.1;
      ring = omega (arith, h.ring, length-latest (k.limits.pre + 1) (k.ring ++ x ∷ []), length-append k.ring (x ∷ []));
      pass = All-drop (Passes k.layout) (length (k.ring ++ x ∷ []) - (k.limits.pre + 1)) (k.ring ++ x ∷ []) (All-push (Passes k.layout) k.ring x h.pass why.0);
      recording = subst (λ (m : ℕ). IsOpenSound k.layout k.limits (k.scans + 1) (k.scans + 1) (fired_mark k f).newest m (unless_last k.scans r)) longer_shelf a.going;
      few = omega (arith, h.few, longer_shelf, a.one);
      shelf = All-append (IsClosed k.layout k.limits) k.shelf (if_last k.scans r) h.shelf a.closed;
    }

sound-scan : (k : Kept) (x : ScanParts) (r : Option ScanRefusal) → refusal k.layout k.scans x ≡ r → IsSound k → IsSound (next_scan k x r)
sound-scan k x (Some refused) e h = h
sound-scan k x None e h = sound_accepted k x (fired k x) e h

newest-passes : (layout : SetupParts) (ring : List ScanParts) → All (Passes layout) ring → IfSome (history.newest ring) (Passes layout)
newest-passes layout [] h = tt
newest-passes layout (x ∷ []) h = All-head (Passes layout) x [] h
newest-passes layout (x ∷ y ∷ xs) h = newest-passes layout (y ∷ xs) (All-tail (Passes layout) x (y ∷ xs) h)

pub lost_fits : (k : Kept) → IsSound k → lost_refusal k.layout k.scans ≡ None → refusal k.layout k.scans (lost k) ≡ None
lost_fits k h e = lost_law k.layout k.scans (history.newest k.ring) (newest-passes k.layout k.ring h.pass) e

-- what stands for a lost scan is accepted
pub lost_taken_in : (k old : Kept) (x : ScanParts) → k ≡ old → IsSound k → lost_refusal k.layout k.scans ≡ None → x ≡ lost_scan k.layout (slice_get k.ring (length k.ring - 1))
    → refusal old.layout old.scans x ≡ None
lost_taken_in k old x v h e x_is =
    let is : lost k ≡ x = ap (lost_scan k.layout) (newest_get k.ring) ∙ sym x_is in
    subst (λ (q : Kept). refusal q.layout q.scans x ≡ None) v (subst (λ (y : ScanParts). refusal k.layout k.scans y ≡ None) is (lost_fits k h e))

sound-lost : (k : Kept) (r : Option LostRefusal) → lost_refusal k.layout k.scans ≡ r → IsSound k → IsSound (next_lost k r)
sound-lost k (Some refused) e h = h
sound-lost k None e h = sound_accepted k (lost k) None (lost_fits k h e) h

sound-by : (k : Kept) (j : ℕ) (covered : Bool) → is_covered k.limits j (met k) ≡ covered → k.scans ≡ suc j → IsSound k
    → IsSound (cond covered k (marked k (mark k.limits j cause.Manual (met k)).newest (mark k.limits j cause.Manual (met k)).extent))
sound-by k j true is e h = h
sound-by k j false is e h =
    let at : j + 1 ≡ k.scans = omega (arith, e) in
    let made = sound_mark k j cause.Manual (omega (arith, e)) (omega (arith, e)) (free-trigger k.limits j k.newest (met k).full k.recording is) h in
    record {
      stamped = h.stamped;
      timed = h.timed;
      ring = h.ring;
      pass = h.pass;
      recording = subst (λ (m : ℕ). IsOpenSound k.layout k.limits k.scans m (mark k.limits j cause.Manual (met k)).newest (length k.shelf) (after_mark k (mark k.limits j cause.Manual (met k)).extent)) at made;
      few = h.few;
      shelf = h.shelf;
    }

sound-trigger : (k : Kept) (n : ℕ) → k.scans ≡ n → IsSound k → IsSound (next_trigger k n)
sound-trigger k zero e h = h
sound-trigger k (suc j) e h = sound-by k j (is_covered k.limits j (met k)) refl e h

sound-rules : (k : Kept) (rules : List Rule) (b : Bool) → IsSound k → IsSound (cond b (record k { rules = rules }) k)
sound-rules k rules true h = record { stamped = h.stamped; timed = h.timed; ring = h.ring; pass = h.pass; recording = h.recording; few = h.few; shelf = h.shelf }
sound-rules k rules false h = h

fewer-waiting : (layout : SetupParts) (limits : Limits) (n : ℕ) (newest : Newest) (w v : ℕ) (recording : Option RecordParts) → v ≤ w → IsOpenSound layout limits n n newest w recording → IsOpenSound layout limits n n newest v recording
fewer-waiting layout limits n newest w v None le h = (h.0, omega (arith, h.1), h.2)
fewer-waiting layout limits n newest w v (Some r) le h =
    record { begun = h.begun; triggered = h.triggered; to_come = h.to_come; short = h.short; scans = h.scans; pass = h.pass; few = h.few; few_at_last = h.few_at_last; end = h.end; room = omega (arith, h.room) }

pub sound_next : (k : Kept) (s : StepParts) → IsSound k → IsSound (next k s)
sound_next k (step.Scan x) h = sound-scan k x (refusal k.layout k.scans x) refl h
sound_next k step.Lost h = sound-lost k (lost_refusal k.layout k.scans) refl h
sound_next k step.Trigger h = sound-trigger k k.scans refl h
sound_next k step.Take h = record {
  stamped = h.stamped;
  timed = h.timed;
  ring = h.ring;
  pass = h.pass;
  recording = fewer-waiting k.layout k.limits k.scans k.newest (length k.shelf) (length (drop 1 k.shelf)) k.recording (omega (arith, length-drop 1 k.shelf)) h.recording;
  few = omega (arith, h.few, length-drop 1 k.shelf);
  shelf = All-drop (IsClosed k.layout k.limits) 1 k.shelf h.shelf;
}
sound_next k (step.SetRules rules) h = sound-rules k rules (rules_fit k.layout rules) h

-- what closes at a scan is whole, and there is room for it
closes-by : (layout : SetupParts) (limits : Limits) (n : ℕ) (newest : Newest) (w capacity : ℕ) (x : ScanParts) (recording : Option RecordParts) → limits.shelf ≤ capacity → IsOpenSound layout limits n (n + 1) newest w recording
    → IfSome (longer_if x recording) (λ r. r.extent.last ≡ n → IsWhole r) × IfSome (longer_if x recording) (λ r. w < capacity)
closes-by layout limits n newest w capacity x None le h = (tt, tt)
closes-by layout limits n newest w capacity x (Some r) le h = ((λ at. whole-of layout limits n newest w x r h at), omega (arith, h.room))

pub closes : (k old : Kept) (x : ScanParts) (f : Option ℕ) (before : Met) (m : MarkedIf) (grown : Option RecordParts) (capacity : ℕ)
    → k ≡ old → before ≡ met k → m ≡ mark_if k.limits k.scans f before → grown ≡ longer_if x (after_mark k m.extent) → k.limits.shelf ≤ capacity → IsSound k
    → IfSome grown (λ r. r.extent.last ≡ k.scans → IsWhole r) × IfSome grown (λ r. length k.shelf < capacity)
closes k old x f before m grown capacity v met_is mark_is grown_is le h =
    let is : grown ≡ longer_if x (after_mark k (fired_mark k f).extent) = grown_is ∙ ap (λ (q : MarkedIf). longer_if x (after_mark k q.extent)) (mark_is ∙ ap (mark_if k.limits k.scans f) met_is) in
    subst (λ (q : Option RecordParts). IfSome q (λ r. r.extent.last ≡ k.scans → IsWhole r) × IfSome q (λ r. length k.shelf < capacity)) (sym is)
    (closes-by k.layout k.limits k.scans (fired_mark k f).newest (length k.shelf) capacity x (after_mark k (fired_mark k f).extent) le (sound_fired k f h))
