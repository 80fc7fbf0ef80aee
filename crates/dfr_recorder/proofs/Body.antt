-- What the fields become is the next step.
use Rattle.std.proofs.Common.{ℕ, suc, ◌≡◌, ◌+◌, ◌-◌, refl, sym, ap, subst, ◌∙◌, List, [], ◌∷◌, ◌++◌, length, drop, true, false, cond, Option, Some, None, Result, Ok, Err, arith}
use Rattle.std.specs.Prelude.{slice_get, option_to_list}
use Rattle.std.proofs.lemmas.List.{append-nil}
use Rattle.dfr_channels.specs.Parts.{ScanParts}
use Rattle.dfr_channels.specs.Firing.{lowest_holding}
use Rattle.dfr_recorder.specs.declared.record.Cause.TheVariants as cause
use Rattle.dfr_recorder.specs.declared.marks.Met.{Met}
use Rattle.dfr_recorder.specs.declared.marks.Marked.{Marked}
use Rattle.dfr_recorder.specs.declared.marks.MarkedIf.{MarkedIf}
use Rattle.dfr_recorder.specs.declared.step.Hit.{Hit}
use Rattle.dfr_recorder.specs.declared.step.Scanned.{Scanned}
use Rattle.dfr_recorder.specs.declared.step.TriggerFault.{TriggerFault}
use Rattle.dfr_recorder.specs.declared.step.TriggerFault.TheVariants as trigger_refused
use Rattle.dfr_recorder.specs.Parts.{RecordParts}
use Rattle.dfr_recorder.specs.Steps as step
use Rattle.dfr_recorder.specs.Answers as answers
use Rattle.dfr_recorder.specs.Marks.{mark, mark_if, is_covered, scanned}
use Rattle.dfr_recorder.specs.History.{refusal, lost_refusal, lost_scan, refused_when_full}
use Rattle.dfr_recorder.specs.Kept.{Kept, latest}
use Rattle.dfr_recorder.specs.Recording.{longer_if, unless_last, if_last, met, accepted, after_mark, fired_mark, IsAccepted}
use Rattle.dfr_recorder.proofs.Next.{next_scan, next_lost, next_trigger, told_of_scan, told_of_lost, told_of_trigger, marked, fired, lost}
use Rattle.dfr_recorder.proofs.Slices.{newest_get}
use Rattle.dfr_recorder.proofs.Told.{IsMade}

-- the front of a queue, and what is after it
front_is : {X : Type 0} (r : Option X) (xs ys : List X) → xs ≡ option_to_list r ++ ys → ys ≡ drop 1 xs → slice_get xs 0 ≡ r
front_is None [] ys e f = refl
front_is None (x ∷ xs) ys e f = absurd (omega (arith, ap length e, ap length f))
front_is (Some a) [] ys e f = cc
front_is (Some a) (x ∷ xs) ys e f = cc

pub take_body : (k old : Kept) (rest : List RecordParts) (r : Option RecordParts) → k ≡ old → k.shelf ≡ option_to_list r ++ rest → rest ≡ drop 1 k.shelf
    → IsMade old step.Take (answers.Take r) (record k { shelf = rest })
take_body k old rest r v e f = subst (λ (q : Kept). IsMade q step.Take (answers.Take r) (record k { shelf = rest })) v (record {
  told = ap answers.Take (front_is r k.shelf rest e f);
  next = ap (λ l. record k { shelf = l }) (sym f);
})

pub trigger_body : (k old : Kept) (j : ℕ) (before : Met) (m : Marked) (recording : Option RecordParts) (r : Result Hit TriggerFault)
    → k ≡ old → k.scans ≡ suc j → before ≡ met k → is_covered k.limits j before ≡ false → m ≡ mark k.limits j cause.Manual before → recording ≡ after_mark k m.extent → r ≡ refused_when_full m.hit
    → IsMade old step.Trigger (answers.Trigger r) (record k { newest = m.newest; recording = recording })
trigger_body k old j before m recording r v at met_is free mark_is recording_is r_is =
    let is : mark k.limits j cause.Manual (met k) ≡ m = sym (mark_is ∙ ap (mark k.limits j cause.Manual) met_is) in
    let not_covered : is_covered k.limits j (met k) ≡ false = sym (ap (is_covered k.limits j) met_is) ∙ free in
    subst (λ (q : Kept). IsMade q step.Trigger (answers.Trigger r) (record k { newest = m.newest; recording = recording })) v (record {
      told =
          ap (λ i. answers.Trigger (told_of_trigger k i)) at
          ∙ ap (λ b. answers.Trigger (cond b (Err trigger_refused.Covered) (refused_when_full (mark k.limits j cause.Manual (met k)).hit))) not_covered
          ∙ ap (λ (q : Marked). answers.Trigger (refused_when_full q.hit)) is ∙ ap answers.Trigger (sym r_is);
      next =
          ap (next_trigger k) at
          ∙ ap (λ b. cond b k (marked k (mark k.limits j cause.Manual (met k)).newest (mark k.limits j cause.Manual (met k)).extent)) not_covered
          ∙ ap (λ (q : Marked). marked k q.newest q.extent) is ∙ ap (λ q. record k { newest = m.newest; recording = q }) (sym recording_is);
    })

pub covered_body : (k old : Kept) (j : ℕ) (before : Met) → k ≡ old → k.scans ≡ suc j → before ≡ met k → is_covered k.limits j before ≡ true
    → IsMade old step.Trigger (answers.Trigger (Err trigger_refused.Covered)) old
covered_body k old j before v at met_is is =
    let covered : is_covered k.limits j (met k) ≡ true = sym (ap (is_covered k.limits j) met_is) ∙ is in
    subst (λ (q : Kept). IsMade q step.Trigger (answers.Trigger (Err trigger_refused.Covered)) q) v (record {
      told =
          ap (λ i. answers.Trigger (told_of_trigger k i)) at
          ∙ ap (λ b. answers.Trigger (cond b (Err trigger_refused.Covered) (refused_when_full (mark k.limits j cause.Manual (met k)).hit))) covered;
      next =
          ap (next_trigger k) at
          ∙ ap (λ b. cond b k (marked k (mark k.limits j cause.Manual (met k)).newest (mark k.limits j cause.Manual (met k)).extent)) covered;
    })

accepted_body : (k : Kept) (x : ScanParts) (m : MarkedIf) (longer recording : Option RecordParts) (shelf : List RecordParts) (ring : List ScanParts)
    → longer ≡ longer_if x (after_mark k m.extent) → recording ≡ unless_last k.scans longer → shelf ≡ k.shelf ++ if_last k.scans longer → ring ≡ latest (k.limits.pre + 1) (k.ring ++ x ∷ [])
    → accepted k x m ≡ record k { scans = k.scans + 1; ring = ring; newest = m.newest; recording = recording; shelf = shelf }
accepted_body k x m longer recording shelf ring longer_is recording_is shelf_is ring_is = rw (recording_is, shelf_is, ring_is, longer_is) refl

pub accept_body : (k old : Kept) (x : ScanParts) (f : Option ℕ) (before : Met) (m : MarkedIf) (longer recording : Option RecordParts) (shelf : List RecordParts) (ring : List ScanParts) (s : Scanned)
    → k ≡ old → before ≡ met k → m ≡ mark_if k.limits k.scans f before
    → longer ≡ longer_if x (after_mark k m.extent) → recording ≡ unless_last k.scans longer → shelf ≡ k.shelf ++ if_last k.scans longer
    → ring ≡ latest (k.limits.pre + 1) (k.ring ++ x ∷ []) → s ≡ scanned k.scans m
    → IsAccepted old x f s (record k { scans = k.scans + 1; ring = ring; newest = m.newest; recording = recording; shelf = shelf })
accept_body k old x f before m longer recording shelf ring s v met_is mark_is longer_is recording_is shelf_is ring_is s_is =
    let is : fired_mark k f ≡ m = sym (mark_is ∙ ap (mark_if k.limits k.scans f) met_is) in
    let new : Kept = record k { scans = k.scans + 1; ring = ring; newest = m.newest; recording = recording; shelf = shelf } in
    subst (λ (q : Kept). IsAccepted q x f s new) v
    (ap (scanned k.scans) is ∙ sym s_is, ap (accepted k x) is ∙ accepted_body k x m longer recording shelf ring longer_is recording_is shelf_is ring_is)

-- a scan that fires nothing where no record is open
pub idle_body : (k old : Kept) (x : ScanParts) (ring : List ScanParts) → k ≡ old → k.recording ≡ None → ring ≡ latest (k.limits.pre + 1) (k.ring ++ x ∷ [])
    → IsAccepted old x None (record { number = k.scans; trigger = None; closed = None }) (record k { scans = k.scans + 1; ring = ring })
idle_body k old x ring v idle ring_is =
    let new : Kept = record k { scans = k.scans + 1; ring = ring } in
    let all : k.shelf ++ [] ≡ k.shelf = append-nil k.shelf in
    subst (λ (q : Kept). IsAccepted q x None (record { number = k.scans; trigger = None; closed = None }) new) v
    (rw idle refl, rw (idle, ring_is, all) refl)

-- the rule that a scan fires, from the back of the ring
pub fired_is : (k : Kept) (x : ScanParts) (f : Option ℕ) → f ≡ lowest_holding (slice_get k.ring (length k.ring - 1)) x k.rules → fired k x ≡ f
fired_is k x f f_is = ap (λ b. lowest_holding b x k.rules) (newest_get k.ring) ∙ sym f_is

pub scan_body : (k old new : Kept) (x : ScanParts) (f : Option ℕ) (s : Scanned) → k ≡ old → refusal k.layout k.scans x ≡ None
    → f ≡ lowest_holding (slice_get k.ring (length k.ring - 1)) x k.rules → IsAccepted old x f s new → IsMade old (step.Scan x) (answers.Scan (Ok s)) new
scan_body k old new x f s v ok f_is done =
    let is = fired_is k x f f_is in
    let h : IsAccepted k x f s new = subst (λ (q : Kept). IsAccepted q x f s new) (sym v) done in
    subst (λ (q : Kept). IsMade q (step.Scan x) (answers.Scan (Ok s)) new) v (record {
      told = ap (λ r. answers.Scan (told_of_scan k x r)) ok ∙ ap (λ g. answers.Scan (Ok (scanned k.scans (fired_mark k g)))) is ∙ ap (λ q. answers.Scan (Ok q)) h.0;
      next = ap (next_scan k x) ok ∙ ap (λ g. accepted k x (fired_mark k g)) is ∙ h.1;
    })

pub lost_body : (k old new : Kept) (x : ScanParts) (s : Scanned) → k ≡ old → lost_refusal k.layout k.scans ≡ None
    → x ≡ lost_scan k.layout (slice_get k.ring (length k.ring - 1)) → IsAccepted old x None s new → IsMade old step.Lost (answers.Lost (Ok s)) new
lost_body k old new x s v ok x_is done =
    let is : lost k ≡ x = ap (lost_scan k.layout) (newest_get k.ring) ∙ sym x_is in
    let h : IsAccepted k x None s new = subst (λ (q : Kept). IsAccepted q x None s new) (sym v) done in
    subst (λ (q : Kept). IsMade q step.Lost (answers.Lost (Ok s)) new) v (record {
      told = ap (λ r. answers.Lost (told_of_lost k r)) ok ∙ ap (λ q. answers.Lost (Ok q)) h.0;
      next = ap (next_lost k) ok ∙ ap (λ q. accepted k q (fired_mark k None)) is ∙ h.1;
    })
