-- What limits without the choice mean.
use Rattle.std.proofs.Common.{ℕ, zero, suc, ◌≡◌, ◌+◌, ◌-◌, refl, sym, ap, ◌∙◌, Bool, true, false, cond, eqb, List, [], ◌∷◌, ◌++◌, length, Option, Some, None, Ok, arith}
use Rattle.std.specs.Prelude.{option_map, option_to_list}
use Rattle.std.proofs.lemmas.Bool.{ne_eqb}
use Rattle.dfr_channels.specs.Parts.{SetupParts, ScanParts}
use Rattle.dfr_channels.specs.declared.rule.Rule.{Rule}
use Rattle.dfr_channels.specs.Firing.{rules_fit}
use Rattle.dfr_recorder.specs.declared.limits.Limits.{Limits}
use Rattle.dfr_recorder.specs.declared.record.Cause.{Cause}
use Rattle.dfr_recorder.specs.declared.record.Cause.TheVariants as cause
use Rattle.dfr_recorder.specs.declared.record.Extent.{Extent}
use Rattle.dfr_recorder.specs.declared.marks.Newest.{Newest}
use Rattle.dfr_recorder.specs.declared.marks.MarkedIf.{MarkedIf}
use Rattle.dfr_recorder.specs.declared.step.ScanRefusal.{ScanRefusal}
use Rattle.dfr_recorder.specs.declared.step.LostRefusal.{LostRefusal}
use Rattle.dfr_recorder.specs.Steps.{StepParts}
use Rattle.dfr_recorder.specs.Steps as step
use Rattle.dfr_recorder.specs.Answers as answers
use Rattle.dfr_recorder.specs.Marks.{mark, mark_if, is_covered, closed_by}
use Rattle.dfr_recorder.specs.History as history
use Rattle.dfr_recorder.specs.History.{Opening, Past, past, count, open_one, ended, newest_of, waiting, fires, refusal, lost_refusal, lost_scan, refused_when_full}
use Rattle.dfr_recorder.specs.Kept.{reply}
use Rattle.dfr_recorder.specs.Sharing.{marked, hit, fired, after_scan, after_trigger, after, closed_at, answer_to_scan, answer_to_trigger, answer}
use Rattle.dfr_recorder.proofs.Extents.{Good, Ended, ended_are, fired_is, fired_list}
use Rattle.dfr_recorder.proofs.Law.{good_past}

-- the extents after a trigger
marked-by : (limits : Limits) (p : Past) (k : ℕ) (by : Cause) (full : Bool) (o : Option Extent) → limits.unshared ≡ false → eqb (waiting p) limits.shelf ≡ full → p.extents ≡ option_to_list o ++ ended p
    → option_to_list (mark limits k by (record { newest = newest_of p.extents; full = full; extent = o })).extent ++ ended p ≡ marked limits p k by o
marked-by limits p k by full (Some e) plain full_is is = refl
marked-by limits p k by true None plain full_is is = rw full_is (sym is)
marked-by limits p k by false None plain full_is is =
    rw (full_is, plain) (ap (λ es. record { number = length p.extents + 1; first = k - limits.pre; trigger = k; last = k + limits.post; cause = by } ∷ es) (sym is))

marked-is : (limits : Limits) (p : Past) (k : ℕ) (by : Cause) → limits.unshared ≡ false → Good limits p → history.triggered limits p k by ≡ marked limits p k by (open_one p)
marked-is limits p k by plain good = marked-by limits p k by (eqb (waiting p) limits.shelf) (open_one p) plain refl good.is

hit-by : (limits : Limits) (p : Past) (k : ℕ) (by : Cause) (full : Bool) (o : Option Extent) → eqb (waiting p) limits.shelf ≡ full
    → (mark limits k by (record { newest = newest_of p.extents; full = full; extent = o })).hit ≡ hit limits p k o
hit-by limits p k by full (Some e) full_is = refl
hit-by limits p k by true None full_is = rw full_is refl
hit-by limits p k by false None full_is = rw full_is refl

hit-is : (limits : Limits) (p : Past) (k : ℕ) (by : Cause) → (mark limits k by (history.met limits p)).hit ≡ hit limits p k (open_one p)
hit-is limits p k by = hit-by limits p k by (eqb (waiting p) limits.shelf) (open_one p) refl

fired-same : (limits : Limits) (p : Past) (f : Option ℕ) → limits.unshared ≡ false → Good limits p → history.fired limits p f ≡ fired limits p f
fired-same limits p None plain good = refl
fired-same limits p (Some rule) plain good = marked-is limits p (count p) (cause.Rule rule) plain good

not-covered : (limits : Limits) (k : ℕ) (p : Past) → limits.unshared ≡ false → is_covered limits k (history.met limits p) ≡ false
not-covered limits k p plain = rw plain refl

-- the extents after each step
scan-same : (limits : Limits) (p : Past) (x : ScanParts) (r : Option ScanRefusal) → limits.unshared ≡ false → Good limits p → (history.after_scan limits p x r).extents ≡ after_scan limits p x r
scan-same limits p x (Some refused) plain good = refl
scan-same limits p x None plain good = fired-same limits p (fires p x) plain good

lost-same : (limits : Limits) (p : Past) (x : ScanParts) (r : Option LostRefusal) → (history.after_lost limits p x r).extents ≡ p.extents
lost-same limits p x (Some refused) = refl
lost-same limits p x None = refl

trigger-same : (limits : Limits) (p : Past) (n : ℕ) → limits.unshared ≡ false → Good limits p → (history.after_trigger limits p n).extents ≡ after_trigger limits p n
trigger-same limits p zero plain good = refl
trigger-same limits p (suc k) plain good = rw (not-covered limits k p plain) (marked-is limits p k cause.Manual plain good)

rules-same : (p : Past) (rules : List Rule) (b : Bool) → (cond b (record p { rules = rules }) p).extents ≡ p.extents
rules-same p rules true = refl
rules-same p rules false = refl

after-same : (layout : SetupParts) (limits : Limits) (p : Past) (s : StepParts) → limits.unshared ≡ false → Good limits p → (history.after layout limits p s).extents ≡ after layout limits p s
after-same layout limits p (step.Scan x) plain good = scan-same limits p x (refusal layout (count p) x) plain good
after-same layout limits p step.Lost plain good = lost-same limits p (lost_scan layout (history.newest p.scans)) (lost_refusal layout (count p))
after-same layout limits p step.Trigger plain good = trigger-same limits p (count p) plain good
after-same layout limits p step.Take plain good = refl
after-same layout limits p (step.SetRules rules) plain good = rules-same p rules (rules_fit layout rules)

-- the answers
closed-by : (n : ℕ) (o : Option Extent) (es : List Extent) → Ended n es → closed_by n (newest_of (option_to_list o ++ es)) o ≡ closed_at n (option_to_list o ++ es)
closed-by n (Some e) es h = refl
closed-by n None [] h = refl
closed-by n None (e ∷ es) h = let earlier : eqb e.last n ≡ false = ne_eqb e.last n (λ at. omega (arith, at, h.0)) in rw earlier refl

closed-is : (limits : Limits) (p : Past) (f : Option ℕ) → limits.unshared ≡ false → Good limits p
    → closed_by (count p) (mark_if limits (count p) f (history.met limits p)).newest (mark_if limits (count p) f (history.met limits p)).extent ≡ closed_at (count p) (fired limits p f)
closed-is limits p f plain good =
    let m : MarkedIf = mark_if limits (count p) f (history.met limits p) in
    ap (λ (q : Newest). closed_by (count p) q m.extent) (sym (fired_is limits p f good).counted)
    ∙ closed-by (count p) m.extent (ended p) (ended_are (count p) p.extents)
    ∙ ap (closed_at (count p)) (sym (fired_list limits p f good) ∙ fired-same limits p f plain good)

hit-if : (limits : Limits) (p : Past) (f : Option ℕ) → (mark_if limits (count p) f (history.met limits p)).hit ≡ option_map (λ (rule : ℕ). hit limits p (count p) (open_one p)) f
hit-if limits p None = refl
hit-if limits p (Some rule) = ap Some (hit-is limits p (count p) (cause.Rule rule))

told-scan : (limits : Limits) (p : Past) (x : ScanParts) (r : Option ScanRefusal) → limits.unshared ≡ false → Good limits p → history.answer_to_scan limits p x r ≡ answer_to_scan limits p x r
told-scan limits p x (Some refused) plain good = refl
told-scan limits p x None plain good =
    let m : MarkedIf = mark_if limits (count p) (fires p x) (history.met limits p) in
    ap (λ t. Ok (record { number = count p; trigger = t; closed = closed_by (count p) m.newest m.extent })) (hit-if limits p (fires p x))
    ∙ ap (λ c. Ok (record { number = count p; trigger = option_map (λ (rule : ℕ). hit limits p (count p) (open_one p)) (fires p x); closed = c })) (closed-is limits p (fires p x) plain good)

told-trigger : (limits : Limits) (p : Past) (n : ℕ) → limits.unshared ≡ false → history.answer_to_trigger limits p n ≡ answer_to_trigger limits p n
told-trigger limits p zero plain = refl
told-trigger limits p (suc k) plain = rw (not-covered limits k p plain) (ap refused_when_full (hit-is limits p k cause.Manual))

told-same : (layout : SetupParts) (limits : Limits) (p : Past) (s : StepParts) → limits.unshared ≡ false → Good limits p → history.answer layout limits p s ≡ answer layout limits p s
told-same layout limits p (step.Scan x) plain good = ap answers.Scan (told-scan limits p x (refusal layout (count p) x) plain good)
told-same layout limits p step.Lost plain good = refl
told-same layout limits p step.Trigger plain good = ap answers.Trigger (told-trigger limits p (count p) plain)
told-same layout limits p step.Take plain good = refl
told-same layout limits p (step.SetRules rules) plain good = refl

pub sharing_law : (o : Opening) (h : List StepParts) (s : StepParts) → o.limits.unshared ≡ false
    → ((past o (s ∷ h)).extents ≡ after o.layout o.limits (past o h) s) × (reply o h s ≡ answer o.layout o.limits (past o h) s)
sharing_law o h s plain = (after-same o.layout o.limits (past o h) s plain (good_past o h), told-same o.layout o.limits (past o h) s plain (good_past o h))
