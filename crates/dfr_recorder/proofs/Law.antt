-- The core law: one step of ring, open record and shelf takes what is kept of a history to what is kept after the step.
use Rattle.std.proofs.Common.{ℕ, zero, suc, ◌≡◌, ◌+◌, ◌-◌, ◌<◌, ◌≤◌, inl, inr, refl, sym, ap, ◌∙◌, Bool, true, false, cond, ltb, leb, eqb, List, [], ◌∷◌, ◌++◌, length, drop, Option, Some, None, arith, length-drop}
use Rattle.std.specs.Prelude.{option_map, option_to_list, IfSome}
use Rattle.std.proofs.lemmas.List.{drop-drop, drop-append-le, drop_all, append-nil}
use Rattle.std.proofs.lemmas.Bool.{cases_lt, lt-ltb, le-ltb, le-leb, lt-leb, eq-eqb, ne_eqb}
use Rattle.dfr_channels.specs.Parts.{SetupParts, ScanParts}
use Rattle.dfr_channels.specs.declared.rule.Rule.{Rule}
use Rattle.dfr_channels.specs.Firing.{lowest_holding, rules_fit}
use Rattle.dfr_recorder.specs.declared.limits.Limits.{Limits}
use Rattle.dfr_recorder.specs.declared.record.Cause.TheVariants as cause
use Rattle.dfr_recorder.specs.declared.record.Extent.{Extent}
use Rattle.dfr_recorder.specs.declared.marks.Newest.{Newest}
use Rattle.dfr_recorder.specs.declared.step.ScanRefusal.{ScanRefusal}
use Rattle.dfr_recorder.specs.declared.step.LostRefusal.{LostRefusal}
use Rattle.dfr_recorder.specs.Steps.{StepParts}
use Rattle.dfr_recorder.specs.Steps as step
use Rattle.dfr_recorder.specs.Parts.{RecordParts}
use Rattle.dfr_recorder.specs.Marks.{mark, mark_if, is_covered}
use Rattle.dfr_recorder.specs.History as history
use Rattle.dfr_recorder.specs.History.{Opening, Past, past, after, after_scan, after_lost, after_trigger, fires, refusal, lost_refusal, lost_scan, count, open_at, open_one, ended_at, ended, end_of, newest_of, closed, records, record_of}
use Rattle.dfr_recorder.specs.Kept.{kept, kept_of}
use Rattle.dfr_recorder.specs.Recording.{extent_of, longer, longer_if, unless_last, if_last, met, accepted, fired_mark}
use Rattle.dfr_recorder.proofs.Next.{next, next_scan, next_lost, next_trigger, marked, fired}
use Rattle.dfr_recorder.proofs.Slices.{latest-push, newest-latest}
use Rattle.dfr_recorder.proofs.Extents.{Ended, Ended-more, ended_are, all-ended, none-open, IsGoing, open-is, rest-is, length-records, records-ended, push-length, longer-law, Good, IsMarked, mark-is, free_trigger, fired_is, fired_list}

-- the law of a trigger
good-mark : (limits : Limits) (p : Past) (newest : Newest) (extent : Option Extent) → Good limits p → IsMarked limits p.scans (open_one p) (ended p) newest extent
    → Good limits (record p { extents = option_to_list extent ++ ended p })
good-mark limits p newest extent good m =
    let o = open-is limits (count p) extent (ended p) m.going (ended_are (count p) p.extents) in
    let r = rest-is limits (count p) extent (ended p) m.going (ended_are (count p) p.extents) in
    record { is = rw (o, r) refl; going = rw o m.going; behind = rw r good.behind }

law-mark : (layout : SetupParts) (limits : Limits) (p : Past) (newest : Newest) (extent : Option Extent) → Good limits p → IsMarked limits p.scans (open_one p) (ended p) newest extent
    → kept_of layout limits (record p { extents = option_to_list extent ++ ended p }) ≡ marked (kept_of layout limits p) newest extent
law-mark layout limits p newest extent good m =
    let o = open-is limits (count p) extent (ended p) m.going (ended_are (count p) p.extents) in
    let r = rest-is limits (count p) extent (ended p) m.going (ended_are (count p) p.extents) in
    rw (o, r, m.counted, m.placed) refl

-- what one more scan does to the open record and those that have ended
record IsAdded (limits : Limits) (scans more : List ScanParts) (taken : ℕ) (es all : List Extent) (longer : Option RecordParts) : Type 0 where
  is : all ≡ option_to_list (open_at (length more) all) ++ ended_at (length more) all
  going : IfSome (open_at (length more) all) (IsGoing limits (length more))
  behind : taken ≤ length (ended_at (length more) all)
  recording : option_map (record_of more) (open_at (length more) all) ≡ unless_last (length scans) longer
  shelf : drop taken (records more (ended_at (length more) all)) ≡ drop taken (records scans es) ++ if_last (length scans) longer

add-none : (limits : Limits) (scans : List ScanParts) (x : ScanParts) (taken : ℕ) (es : List Extent) → Ended (length scans) es → taken ≤ length es → IsAdded limits scans (scans ++ x ∷ []) taken es es None
add-none limits scans x taken es h behind =
    let more = Ended-more (length scans) (length (scans ++ x ∷ [])) es (omega (arith, push-length scans x)) h in
    let o = none-open (length (scans ++ x ∷ [])) es more in
    let r = all-ended (length (scans ++ x ∷ [])) es more in
    record { is = rw (o, r) refl; going = rw o tt; behind = rw r behind; recording = rw o refl; shelf = rw (r, records-ended scans x es h, append-nil (drop taken (records scans es))) refl }

add-on : (limits : Limits) (scans : List ScanParts) (x : ScanParts) (taken : ℕ) (es : List Extent) (e : Extent) → IsGoing limits (length scans) e → length scans < e.last → Ended (length scans) es → taken ≤ length es
    → IsAdded limits scans (scans ++ x ∷ []) taken es (e ∷ es) (Some (longer x (record_of scans e)))
add-on limits scans x taken es e g on h behind =
    let n = push-length scans x in
    let open_yet : leb (length (scans ++ x ∷ [])) e.last ≡ true = le-leb (length (scans ++ x ∷ [])) e.last (omega arith) in
    let not_ended : ltb e.last (length (scans ++ x ∷ [])) ≡ false = le-ltb e.last (length (scans ++ x ∷ [])) (omega arith) in
    let not_last : eqb e.last (length scans) ≡ false = ne_eqb e.last (length scans) (λ at. omega arith) in
    let r = all-ended (length (scans ++ x ∷ [])) es (Ended-more (length scans) (length (scans ++ x ∷ [])) es (omega arith) h) in
    record {
      is = rw (open_yet, not_ended, r) refl;
      going = rw open_yet (omega (arith, g.0), omega arith, g.2);
      behind = rw (not_ended, r) behind;
      recording = rw (open_yet, not_last) (ap Some (longer-law scans x e g.0 g.1));
      shelf = rw (not_ended, not_last, r, records-ended scans x es h, append-nil (drop taken (records scans es))) refl;
    }

add-last : (limits : Limits) (scans : List ScanParts) (x : ScanParts) (taken : ℕ) (es : List Extent) (e : Extent) → IsGoing limits (length scans) e → e.last ≡ length scans → Ended (length scans) es → taken ≤ length es
    → IsAdded limits scans (scans ++ x ∷ []) taken es (e ∷ es) (Some (longer x (record_of scans e)))
add-last limits scans x taken es e g at h behind =
    let n = push-length scans x in
    let shut : leb (length (scans ++ x ∷ [])) e.last ≡ false = lt-leb (length (scans ++ x ∷ [])) e.last (omega arith) in
    let over : ltb e.last (length (scans ++ x ∷ [])) ≡ true = lt-ltb e.last (length (scans ++ x ∷ [])) (omega arith) in
    let last_one : eqb e.last (length scans) ≡ true = eq-eqb e.last (length scans) at in
    let r = all-ended (length (scans ++ x ∷ [])) es (Ended-more (length scans) (length (scans ++ x ∷ [])) es (omega arith) h) in
    record {
      is = rw (shut, over, r) refl;
      going = rw shut tt;
      behind = rw (over, r) (omega arith);
      recording = rw (shut, last_one) refl;
      shelf = rw (over, last_one, r, records-ended scans x es h, longer-law scans x e g.0 g.1) (drop-append-le taken (records scans es) (longer x (record_of scans e) ∷ []) (omega (arith, length-records scans es)));
    }

add-is : (limits : Limits) (scans : List ScanParts) (x : ScanParts) (taken : ℕ) (o : Option Extent) (es : List Extent) → IfSome o (IsGoing limits (length scans)) → Ended (length scans) es → taken ≤ length es
    → IsAdded limits scans (scans ++ x ∷ []) taken es (option_to_list o ++ es) (longer_if x (option_map (record_of scans) o))
add-is limits scans x taken None es g h behind = add-none limits scans x taken es h behind
add-is limits scans x taken (Some e) es g h behind = elim (cases_lt (length scans) e.last) [
  | inl on ↦ add-on limits scans x taken es e g on h behind
  | inr done ↦ add-last limits scans x taken es e g (omega (arith, g.1)) h behind
]

-- the law of an accepted scan
good-scan : (limits : Limits) (p : Past) (x : ScanParts) (f : Option ℕ) → Good limits p → Good limits (history.accepted limits p x f)
good-scan limits p x f good =
    let m = fired_is limits p f good in
    let a = add-is limits p.scans x p.taken (mark_if limits (count p) f (history.met limits p)).extent (ended p) m.going (ended_are (count p) p.extents) good.behind in
    rw (fired_list limits p f good) (record { is = a.is; going = a.going; behind = a.behind })

law-scan : (layout : SetupParts) (limits : Limits) (p : Past) (x : ScanParts) (f : Option ℕ) → Good limits p
    → kept_of layout limits (history.accepted limits p x f) ≡ accepted (kept_of layout limits p) x (mark_if limits (count p) f (history.met limits p))
law-scan layout limits p x f good =
    let m = fired_is limits p f good in
    let a = add-is limits p.scans x p.taken (mark_if limits (count p) f (history.met limits p)).extent (ended p) m.going (ended_are (count p) p.extents) good.behind in
    let n = push-length p.scans x in
    let ring = sym (latest-push (limits.pre + 1) p.scans x) in
    rw (fired_list limits p f good) (rw (a.recording, a.shelf, m.counted, ring, n, m.placed) refl)

-- what a trigger meets
extent-same : (scans : List ScanParts) (o : Option Extent) → o ≡ extent_of (option_map (record_of scans) o)
extent-same scans None = refl
extent-same scans (Some e) = refl

pub length-shelf : (layout : SetupParts) (limits : Limits) (p : Past) → length (kept_of layout limits p).shelf ≡ history.waiting p
length-shelf layout limits p = omega (arith, length-drop p.taken (records p.scans (ended p)), length-records p.scans (ended p))

pub met-law : (layout : SetupParts) (limits : Limits) (p : Past) → history.met limits p ≡ met (kept_of layout limits p)
met-law layout limits p =
    let e = extent-same p.scans (open_one p) in
    let n = length-shelf layout limits p in
    rw n (ap (λ (o : Option Extent). record { newest = newest_of p.extents; full = eqb (history.waiting p) limits.shelf; extent = o }) e)

pub fired-law : (layout : SetupParts) (limits : Limits) (p : Past) (x : ScanParts) → fires p x ≡ fired (kept_of layout limits p) x
fired-law layout limits p x = sym (ap (λ b. lowest_holding b x p.rules) (newest-latest limits.pre p.scans))

pub fired_mark-law : (layout : SetupParts) (limits : Limits) (p : Past) (x : ScanParts) → mark_if limits (count p) (fires p x) (history.met limits p) ≡ fired_mark (kept_of layout limits p) (fired (kept_of layout limits p) x)
fired_mark-law layout limits p x = ap (λ f. mark_if limits (count p) f (history.met limits p)) (fired-law layout limits p x) ∙ ap (mark_if limits (count p) (fired (kept_of layout limits p) x)) (met-law layout limits p)

-- what a history leaves is good
good-by : (limits : Limits) (p : Past) (k : ℕ) (covered : Bool) → is_covered limits k (history.met limits p) ≡ covered → suc k ≡ count p → Good limits p
    → Good limits (cond covered p (record p { extents = history.triggered limits p k cause.Manual }))
good-by limits p k true is at good = good
good-by limits p k false is at good = good-mark limits p _ _ good (mark-is limits p k cause.Manual (omega (arith, at)) (omega (arith, at)) (free_trigger limits k (open_one p) (end_of p.extents) is) good)

good-by_hand : (limits : Limits) (p : Past) (n : ℕ) → n ≡ count p → Good limits p → Good limits (after_trigger limits p n)
good-by_hand limits p zero e good = good
good-by_hand limits p (suc k) e good = good-by limits p k (is_covered limits k (history.met limits p)) refl e good

good-scan_if : (limits : Limits) (p : Past) (x : ScanParts) (r : Option ScanRefusal) → Good limits p → Good limits (after_scan limits p x r)
good-scan_if limits p x (Some refusal) good = good
good-scan_if limits p x None good = good-scan limits p x (fires p x) good

good-lost : (limits : Limits) (p : Past) (x : ScanParts) (r : Option LostRefusal) → Good limits p → Good limits (after_lost limits p x r)
good-lost limits p x (Some refusal) good = good
good-lost limits p x None good = good-scan limits p x None good

good-take : (limits : Limits) (p : Past) → Good limits p → Good limits (record p { taken = cond (ltb p.taken (closed p)) (p.taken + 1) p.taken })
good-take limits p good = elim (cases_lt p.taken (closed p)) [
  | inl lt ↦ let e : ltb p.taken (closed p) ≡ true = lt-ltb p.taken (closed p) lt in record { is = good.is; going = good.going; behind = rw e (omega arith) }
  | inr ge ↦ let e : ltb p.taken (closed p) ≡ false = le-ltb p.taken (closed p) ge in record { is = good.is; going = good.going; behind = rw e good.behind }
]

good-rules : (limits : Limits) (p : Past) (rules : List Rule) (b : Bool) → Good limits p → Good limits (cond b (record p { rules = rules }) p)
good-rules limits p rules true good = record { is = good.is; going = good.going; behind = good.behind }
good-rules limits p rules false good = good

good-after : (layout : SetupParts) (limits : Limits) (p : Past) (s : StepParts) → Good limits p → Good limits (after layout limits p s)
good-after layout limits p (step.Scan scan) good = good-scan_if limits p scan (refusal layout (count p) scan) good
good-after layout limits p step.Lost good = good-lost limits p (lost_scan layout (history.newest p.scans)) (lost_refusal layout (count p)) good
good-after layout limits p step.Trigger good = good-by_hand limits p (count p) refl good
good-after layout limits p step.Take good = good-take limits p good
good-after layout limits p (step.SetRules rules) good = good-rules limits p rules (rules_fit layout rules) good

pub good_past : (o : Opening) (h : List StepParts) → Good o.limits (past o h)
good_past o [] = record { is = refl; going = tt; behind = omega arith }
good_past o (s ∷ h) = good-after o.layout o.limits (past o h) s (good_past o h)

-- the law of each step
law-scan_if : (layout : SetupParts) (limits : Limits) (p : Past) (x : ScanParts) (r : Option ScanRefusal) → Good limits p
    → kept_of layout limits (after_scan limits p x r) ≡ next_scan (kept_of layout limits p) x r
law-scan_if layout limits p x (Some refusal) good = refl
law-scan_if layout limits p x None good = law-scan layout limits p x (fires p x) good ∙ ap (accepted (kept_of layout limits p) x) (fired_mark-law layout limits p x)

law-lost : (layout : SetupParts) (limits : Limits) (p : Past) (r : Option LostRefusal) → Good limits p
    → kept_of layout limits (after_lost limits p (lost_scan layout (history.newest p.scans)) r) ≡ next_lost (kept_of layout limits p) r
law-lost layout limits p (Some refusal) good = refl
law-lost layout limits p None good =
    law-scan layout limits p (lost_scan layout (history.newest p.scans)) None good
    ∙ ap (λ m. accepted (kept_of layout limits p) (lost_scan layout (history.newest p.scans)) (mark_if limits (count p) None m)) (met-law layout limits p)
    ∙ ap (λ b. accepted (kept_of layout limits p) (lost_scan layout b) (fired_mark (kept_of layout limits p) None)) (sym (newest-latest limits.pre p.scans))

law-by : (layout : SetupParts) (limits : Limits) (p : Past) (k : ℕ) (covered : Bool) → is_covered limits k (history.met limits p) ≡ covered → suc k ≡ count p → Good limits p
    → kept_of layout limits (cond covered p (record p { extents = history.triggered limits p k cause.Manual }))
    ≡ cond covered (kept_of layout limits p) (marked (kept_of layout limits p) (mark limits k cause.Manual (history.met limits p)).newest (mark limits k cause.Manual (history.met limits p)).extent)
law-by layout limits p k true is at good = refl
law-by layout limits p k false is at good =
    law-mark layout limits p _ _ good (mark-is limits p k cause.Manual (omega (arith, at)) (omega (arith, at)) (free_trigger limits k (open_one p) (end_of p.extents) is) good)

law-by_hand : (layout : SetupParts) (limits : Limits) (p : Past) (n : ℕ) → n ≡ count p → Good limits p
    → kept_of layout limits (after_trigger limits p n) ≡ next_trigger (kept_of layout limits p) n
law-by_hand layout limits p zero e good = refl
law-by_hand layout limits p (suc k) e good =
    law-by layout limits p k (is_covered limits k (history.met limits p)) refl e good
    ∙ ap (λ m. cond (is_covered limits k m) (kept_of layout limits p) (marked (kept_of layout limits p) (mark limits k cause.Manual m).newest (mark limits k cause.Manual m).extent)) (met-law layout limits p)

law-take : (layout : SetupParts) (limits : Limits) (p : Past)
    → kept_of layout limits (record p { taken = cond (ltb p.taken (closed p)) (p.taken + 1) p.taken }) ≡ next (kept_of layout limits p) step.Take
law-take layout limits p =
    let all : List RecordParts = records p.scans (ended p) in
    elim (cases_lt p.taken (closed p)) [
      | inl lt ↦ let e : ltb p.taken (closed p) ≡ true = lt-ltb p.taken (closed p) lt in rw (e, drop-drop 1 p.taken all) refl
      | inr ge ↦
          let e : ltb p.taken (closed p) ≡ false = le-ltb p.taken (closed p) ge in
          let none : drop p.taken all ≡ [] = drop_all p.taken all (omega (arith, length-records p.scans (ended p))) in
          rw (e, none) refl
    ]

law-rules : (layout : SetupParts) (limits : Limits) (p : Past) (rules : List Rule) (b : Bool)
    → kept_of layout limits (cond b (record p { rules = rules }) p) ≡ cond b (record (kept_of layout limits p) { rules = rules }) (kept_of layout limits p)
law-rules layout limits p rules true = refl
law-rules layout limits p rules false = refl

law-after : (layout : SetupParts) (limits : Limits) (p : Past) (s : StepParts) → Good limits p → kept_of layout limits (after layout limits p s) ≡ next (kept_of layout limits p) s
law-after layout limits p (step.Scan scan) good = law-scan_if layout limits p scan (refusal layout (count p) scan) good
law-after layout limits p step.Lost good = law-lost layout limits p (lost_refusal layout (count p)) good
law-after layout limits p step.Trigger good = law-by_hand layout limits p (count p) refl good
law-after layout limits p step.Take good = law-take layout limits p
law-after layout limits p (step.SetRules rules) good = law-rules layout limits p rules (rules_fit layout rules)

-- the core law
pub core-law : (o : Opening) (h : List StepParts) (s : StepParts) → kept o (s ∷ h) ≡ next (kept o h) s
core-law o h s = law-after o.layout o.limits (past o h) s (good_past o h)
