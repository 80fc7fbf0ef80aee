-- Under unshared limits no scan stands in two records.
use Rattle.std.proofs.Common.{ℕ, zero, suc, ◌≡◌, ◌+◌, ◌<◌, ◌≤◌, refl, ap, subst, Bool, true, false, cond, All, List, [], ◌∷◌, ◌++◌, Option, Some, None, arith}
use Rattle.std.specs.Prelude.{option_to_list, IfSome, IsTrue}
use Rattle.std.proofs.lemmas.List.Elements.{All-nil, All-cons}
use Rattle.dfr_channels.specs.Parts.{SetupParts, ScanParts}
use Rattle.dfr_channels.specs.declared.rule.Rule.{Rule}
use Rattle.dfr_channels.specs.Firing.{rules_fit}
use Rattle.dfr_recorder.specs.declared.limits.Limits.{Limits}
use Rattle.dfr_recorder.specs.declared.record.Cause.{Cause}
use Rattle.dfr_recorder.specs.declared.record.Cause.TheVariants as cause
use Rattle.dfr_recorder.specs.declared.record.Extent.{Extent}
use Rattle.dfr_recorder.specs.declared.marks.Newest.{Newest}
use Rattle.dfr_recorder.specs.declared.step.ScanRefusal.{ScanRefusal}
use Rattle.dfr_recorder.specs.declared.step.LostRefusal.{LostRefusal}
use Rattle.dfr_recorder.specs.Steps.{StepParts}
use Rattle.dfr_recorder.specs.Steps as step
use Rattle.dfr_recorder.specs.Marks.{mark, first_scan, is_covered}
use Rattle.dfr_recorder.specs.History as history
use Rattle.dfr_recorder.specs.History.{Opening, Past, past, after, after_scan, after_lost, after_trigger, triggered, fires, refusal, lost_refusal, lost_scan, count, open_one, ended, end_of, newest_of}
use Rattle.dfr_recorder.specs.Unshared.{IsApart}
use Rattle.dfr_recorder.proofs.Extents.{Good, IsGoing, IsFree, first_law, free_scan, free_trigger}
use Rattle.dfr_recorder.proofs.Law.{good_past}

-- each ends before m, and those opened before it end before its first scan
abbrev Chain : ℕ → List Extent → Type 0
Chain m [] = Unit {0}
Chain m (e ∷ es) = (e.last < m) × (e.first ≤ e.last) × Chain e.first es

chain-more : (m n : ℕ) (es : List Extent) → m ≤ n → Chain m es → Chain n es
chain-more m n [] le h = tt
chain-more m n (e ∷ es) le h = (omega (arith, h.0), h.1, h.2)

chain-low : (m : ℕ) (es : List Extent) → Chain m es → All (λ (d : Extent). d.last < m) es
chain-low m [] h = All-nil (λ (d : Extent). d.last < m)
chain-low m (e ∷ es) h = All-cons (λ (d : Extent). d.last < m) e es h.0 (chain-low m es (chain-more e.first m es (omega (arith, h.0, h.1)) h.2))

apart-of : (m : ℕ) (es : List Extent) → Chain m es → IsApart es
apart-of m [] h = tt
apart-of m (e ∷ es) h = (chain-low e.first es h.2, apart-of e.first es h.2)

-- a new record begins after the newest one
first-after : (limits : Limits) (k : ℕ) (newest : Newest) → limits.unshared ≡ true → newest.end ≤ first_scan limits k newest
first-after limits k newest chosen = rw chosen (omega arith)

chain-by : (limits : Limits) (n k : ℕ) (newest : Newest) (by : Cause) (full : Bool) (o : Option Extent) (es : List Extent)
    → limits.unshared ≡ true → k ≤ n → n ≤ k + 1 → newest ≡ newest_of (option_to_list o ++ es) → IsFree limits k o newest.end → IfSome o (IsGoing limits n) → Chain newest.end (option_to_list o ++ es)
    → Chain (end_of (option_to_list (mark limits k by (record { newest = newest; full = full; extent = o })).extent ++ es)) (option_to_list (mark limits k by (record { newest = newest; full = full; extent = o })).extent ++ es)
chain-by limits n k newest by full (Some e) es chosen lo hi is free g h =
    let some = limits.some in
    (omega arith, omega (arith, g.0, g.1, g.2), h.2)
chain-by limits n k newest by true None es chosen lo hi is free g h = subst (λ (m : ℕ). Chain m es) (ap (λ (q : Newest). q.end) is) h
chain-by limits n k newest by false None es chosen lo hi is free g h =
    let at = first_law limits k newest free in
    (omega arith, omega (arith, at.1), chain-more newest.end (first_scan limits k newest) es (first-after limits k newest chosen) h)

abbrev IsChained : Past → Type 0
IsChained p = Chain (end_of p.extents) p.extents

chain-mark : (limits : Limits) (p : Past) (k : ℕ) (by : Cause) → limits.unshared ≡ true → k ≤ count p → count p ≤ k + 1 → IsFree limits k (open_one p) (end_of p.extents) → Good limits p → IsChained p
    → Chain (end_of (triggered limits p k by)) (triggered limits p k by)
chain-mark limits p k by chosen lo hi free good h =
    chain-by limits (count p) k (newest_of p.extents) by (history.met limits p).full (open_one p) (ended p) chosen lo hi (ap newest_of good.is) free good.going
    (subst (λ (es : List Extent). Chain (end_of p.extents) es) good.is h)

chain-fired : (limits : Limits) (p : Past) (f : Option ℕ) → limits.unshared ≡ true → Good limits p → IsChained p → Chain (end_of (history.fired limits p f)) (history.fired limits p f)
chain-fired limits p None chosen good h = h
chain-fired limits p (Some rule) chosen good h = chain-mark limits p (count p) (cause.Rule rule) chosen (omega arith) (omega arith) (free_scan limits p good) good h

chain-scan : (limits : Limits) (p : Past) (x : ScanParts) (r : Option ScanRefusal) → limits.unshared ≡ true → Good limits p → IsChained p → IsChained (after_scan limits p x r)
chain-scan limits p x (Some refused) chosen good h = h
chain-scan limits p x None chosen good h = chain-fired limits p (fires p x) chosen good h

chain-lost : (limits : Limits) (p : Past) (x : ScanParts) (r : Option LostRefusal) → limits.unshared ≡ true → Good limits p → IsChained p → IsChained (after_lost limits p x r)
chain-lost limits p x (Some refused) chosen good h = h
chain-lost limits p x None chosen good h = h

chain-manual : (limits : Limits) (p : Past) (k : ℕ) (covered : Bool) → is_covered limits k (history.met limits p) ≡ covered → suc k ≡ count p → limits.unshared ≡ true → Good limits p → IsChained p
    → IsChained (cond covered p (record p { extents = triggered limits p k cause.Manual }))
chain-manual limits p k true is at chosen good h = h
chain-manual limits p k false is at chosen good h =
    chain-mark limits p k cause.Manual chosen (omega (arith, at)) (omega (arith, at)) (free_trigger limits k (open_one p) (end_of p.extents) is) good h

chain-trigger : (limits : Limits) (p : Past) (n : ℕ) → n ≡ count p → limits.unshared ≡ true → Good limits p → IsChained p → IsChained (after_trigger limits p n)
chain-trigger limits p zero e chosen good h = h
chain-trigger limits p (suc k) e chosen good h = chain-manual limits p k (is_covered limits k (history.met limits p)) refl e chosen good h

chain-rules : (p : Past) (rules : List Rule) (b : Bool) → IsChained p → IsChained (cond b (record p { rules = rules }) p)
chain-rules p rules true h = h
chain-rules p rules false h = h

chain-after : (layout : SetupParts) (limits : Limits) (p : Past) (s : StepParts) → limits.unshared ≡ true → Good limits p → IsChained p → IsChained (after layout limits p s)
chain-after layout limits p (step.Scan x) chosen good h = chain-scan limits p x (refusal layout (count p) x) chosen good h
chain-after layout limits p step.Lost chosen good h = chain-lost limits p (lost_scan layout (history.newest p.scans)) (lost_refusal layout (count p)) chosen good h
chain-after layout limits p step.Trigger chosen good h = chain-trigger limits p (count p) refl chosen good h
chain-after layout limits p step.Take chosen good h = h
chain-after layout limits p (step.SetRules rules) chosen good h = chain-rules p rules (rules_fit layout rules) h

chain-past : (o : Opening) (h : List StepParts) → o.limits.unshared ≡ true → IsChained (past o h)
chain-past o [] chosen = tt
chain-past o (s ∷ h) chosen = chain-after o.layout o.limits (past o h) s chosen (good_past o h) (chain-past o h chosen)

pub unshared_law : (o : Opening) (h : List StepParts) → IsTrue o.limits.unshared → IsApart (past o h).extents
unshared_law o h chosen = apart-of (end_of (past o h).extents) (past o h).extents (chain-past o h chosen)
