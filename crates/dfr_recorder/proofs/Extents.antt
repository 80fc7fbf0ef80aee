-- The extents of a history's records: which have ended, which is going on, and what a trigger makes of the newest.
use Rattle.std.proofs.Common.{ℕ, suc, ◌≡◌, ◌+◌, ◌-◌, ◌<◌, ◌≤◌, inl, inr, refl, sym, ap, ◌∙◌, Bool, true, false, cond, ltb, leb, min, max, List, [], ◌∷◌, ◌++◌, length, drop, Option, Some, None, arith, length-append}
use Rattle.std.specs.Prelude.{◌&&◌, slice_range, option_map, option_to_list, is_none, IfSome, IfNone}
use Rattle.std.proofs.lemmas.List.{drop-append-le}
use Rattle.std.proofs.lemmas.Bool.{cases_lt, ltb-false, lt-ltb, le-ltb, le-leb, lt-leb}
use Rattle.dfr_channels.specs.Parts.{ScanParts}
use Rattle.dfr_recorder.specs.declared.limits.Limits.{Limits}
use Rattle.dfr_recorder.specs.declared.record.Cause.{Cause}
use Rattle.dfr_recorder.specs.declared.record.Cause.TheVariants as cause
use Rattle.dfr_recorder.specs.declared.record.Extent.{Extent}
use Rattle.dfr_recorder.specs.declared.marks.Newest.{Newest}
use Rattle.dfr_recorder.specs.Parts.{RecordParts}
use Rattle.dfr_recorder.specs.Marks.{mark, mark_if, first_scan}
use Rattle.dfr_recorder.specs.History as history
use Rattle.dfr_recorder.specs.History.{Past, after, count, open_at, open_one, ended_at, ended, end_of, newest_of, closed, records, record_of}
use Rattle.dfr_recorder.specs.Kept.{latest}
use Rattle.dfr_recorder.specs.Recording.{placed_if, longer}
use Rattle.dfr_recorder.proofs.Slices.{latest-from, range-push, range-so_far}

-- all their scans have come
abbrev pub Ended : ℕ → List Extent → Type 0
Ended n [] = Unit {0}
Ended n (e ∷ es) = (e.last < n) × Ended n es

pub Ended-more : (m n : ℕ) (es : List Extent) → m ≤ n → Ended m es → Ended n es
Ended-more m n [] le h = tt
Ended-more m n (e ∷ es) le h = (omega arith, Ended-more m n es le h.1)

pub ended_are : (n : ℕ) (es : List Extent) → Ended n (ended_at n es)
ended_are n [] = tt
ended_are n (e ∷ es) = elim (cases_lt e.last n) [
  | inl over ↦ let b : ltb e.last n ≡ true = lt-ltb e.last n over in rw b (over, ended_are n es)
  | inr on ↦ let b : ltb e.last n ≡ false = le-ltb e.last n on in rw b (ended_are n es)
]

pub all-ended : (n : ℕ) (es : List Extent) → Ended n es → ended_at n es ≡ es
all-ended n [] h = refl
all-ended n (e ∷ es) h = let b : ltb e.last n ≡ true = lt-ltb e.last n h.0 in rw b (ap (λ l. e ∷ l) (all-ended n es h.1))

pub none-open : (n : ℕ) (es : List Extent) → Ended n es → open_at n es ≡ None
none-open n [] h = refl
none-open n (e ∷ es) h = let b : leb n e.last ≡ false = lt-leb n e.last h.0 in rw b refl

-- the extent of an open record after n scans
abbrev pub IsGoing : Limits → ℕ → Extent → Type 0
IsGoing limits n e = (e.first ≤ n) × (n ≤ e.last) × (e.last < e.first + limits.longest)

pub open-is : (limits : Limits) (n : ℕ) (o : Option Extent) (es : List Extent) → IfSome o (IsGoing limits n) → Ended n es → open_at n (option_to_list o ++ es) ≡ o
open-is limits n None es g h = none-open n es h
open-is limits n (Some e) es g h = let b : leb n e.last ≡ true = le-leb n e.last g.1 in rw b refl

pub rest-is : (limits : Limits) (n : ℕ) (o : Option Extent) (es : List Extent) → IfSome o (IsGoing limits n) → Ended n es → ended_at n (option_to_list o ++ es) ≡ es
rest-is limits n None es g h = all-ended n es h
rest-is limits n (Some e) es g h = let b : ltb e.last n ≡ false = le-ltb e.last n g.1 in rw b (all-ended n es h)

-- the scans of records
so_far : (scans : List ScanParts) (e : Extent) → length scans ≤ e.last + 1 → record_of scans e ≡ record { extent = e; scans = drop e.first scans }
so_far scans e h = let r : slice_range scans e.first (e.last + 1) ≡ drop e.first scans = range-so_far scans e.first (e.last + 1) h in rw r refl

pub length-records : (scans : List ScanParts) (es : List Extent) → length (records scans es) ≡ length es
length-records scans [] = refl
length-records scans (e ∷ es) = omega (arith, length-append (records scans es) (record_of scans e ∷ []), length-records scans es)

pub records-ended : (scans : List ScanParts) (x : ScanParts) (es : List Extent) → Ended (length scans) es → records (scans ++ x ∷ []) es ≡ records scans es
records-ended scans x [] h = refl
records-ended scans x (e ∷ es) h =
    let a = records-ended scans x es h.1 in
    let b : slice_range (scans ++ x ∷ []) e.first (e.last + 1) ≡ slice_range scans e.first (e.last + 1) = range-push scans e.first (e.last + 1) x (omega arith) in
    cc

pub push-length : (scans : List ScanParts) (x : ScanParts) → length (scans ++ x ∷ []) ≡ length scans + 1
push-length scans x = omega (arith, length-append scans (x ∷ []))

pub longer-law : (scans : List ScanParts) (x : ScanParts) (e : Extent) → e.first ≤ length scans → length scans ≤ e.last → record_of (scans ++ x ∷ []) e ≡ longer x (record_of scans e)
longer-law scans x e begun on =
    so_far (scans ++ x ∷ []) e (omega (arith, push-length scans x)) ∙ ap (λ l. record { extent = e; scans = l }) (drop-append-le e.first scans (x ∷ []) begun)
    ∙ sym (ap (longer x) (so_far scans e (omega arith)))

-- only the newest record can have scans to come, and it is not too long
pub record Good (limits : Limits) (p : Past) : Type 0 where
  pub is : p.extents ≡ option_to_list (open_one p) ++ ended p
  pub going : IfSome (open_one p) (IsGoing limits (count p))
  pub behind : p.taken ≤ closed p

-- what a trigger leaves: this newest record, and an open record of this extent before those that have ended
pub record IsMarked (limits : Limits) (scans : List ScanParts) (o : Option Extent) (es : List Extent) (newest : Newest) (extent : Option Extent) : Type 0 where
  pub counted : newest_of (option_to_list extent ++ es) ≡ newest
  pub going : IfSome extent (IsGoing limits (length scans))
  pub placed : option_map (record_of scans) extent ≡ placed_if extent (length scans) (latest (limits.pre + 1) scans) (option_map (record_of scans) o)

-- a trigger at place k with none open is after the newest record, where limits require that
abbrev pub IsFree : Limits → ℕ → Option Extent → ℕ → Type 0
IsFree limits k o end = IfNone o (limits.unshared ≡ true → end ≤ k)

first-by : (b : Bool) (low k end : ℕ) → low ≤ k → (b ≡ true → end ≤ k) → (low ≤ cond b (max low end) low) × (cond b (max low end) low ≤ k)
first-by true low k end le free = (omega arith, omega (arith, free refl))
first-by false low k end le free = (omega arith, le)

pub first_law : (limits : Limits) (k : ℕ) (newest : Newest) → (limits.unshared ≡ true → newest.end ≤ k) → (k - limits.pre ≤ first_scan limits k newest) × (first_scan limits k newest ≤ k)
first_law limits k newest free = first-by limits.unshared (k - limits.pre) k newest.end (omega arith) free

mark-by : (limits : Limits) (scans : List ScanParts) (k : ℕ) (newest : Newest) (by : Cause) (full : Bool) (o : Option Extent) (es : List Extent)
    → k ≤ length scans → length scans ≤ k + 1 → newest ≡ newest_of (option_to_list o ++ es) → IsFree limits k o newest.end → IfSome o (IsGoing limits (length scans))
    → IsMarked limits scans o es (mark limits k by (record { newest = newest; full = full; extent = o })).newest (mark limits k by (record { newest = newest; full = full; extent = o })).extent
mark-by limits scans k newest by full (Some e) es lo hi n free g =
    let some = limits.some in
    let on : Extent = record e { last = min (k + limits.post) (e.first + limits.longest - 1) } in
    let later : length scans ≤ on.last = omega (arith, g.1, g.2) in
    record {
      counted = ap (λ (q : Newest). record q { end = on.last + 1 }) (sym n);
      going = (g.0, later, omega (arith, g.1, g.2));
      placed = ap Some (so_far scans on (omega arith) ∙ ap (λ (r : RecordParts). record { extent = on; scans = r.scans }) (sym (so_far scans e (omega (arith, g.1)))));
    }
mark-by limits scans k newest by true None es lo hi n free g = record { counted = sym n; going = tt; placed = refl }
mark-by limits scans k newest by false None es lo hi n free g =
    let some = limits.some in
    let fit = limits.fit in
    let at = first_law limits k newest free in
    let number : suc (length es) ≡ newest.number + 1 = omega (arith, ap (λ (q : Newest). q.number) n) in
    let new : Extent = record { number = newest.number + 1; first = first_scan limits k newest; trigger = k; last = k + limits.post; cause = by } in
    record {
      counted = ap (λ m. record { number = m; end = new.last + 1 }) number;
      going = (omega (arith, at.1), omega arith, omega (arith, at.0));
      placed = ap Some (so_far scans new (omega arith) ∙ ap (λ l. record { extent = new; scans = l }) (sym (latest-from (limits.pre + 1) new.first scans (omega (arith, at.0)) (omega (arith, at.1)))));
    }

pub mark-is : (limits : Limits) (p : Past) (k : ℕ) (by : Cause) → k ≤ count p → count p ≤ k + 1 → IsFree limits k (open_one p) (end_of p.extents) → Good limits p
    → IsMarked limits p.scans (open_one p) (ended p) (mark limits k by (history.met limits p)).newest (mark limits k by (history.met limits p)).extent
mark-is limits p k by lo hi free good = mark-by limits p.scans k (newest_of p.extents) by (history.met limits p).full (open_one p) (ended p) lo hi (ap newest_of good.is) free good.going

-- with none open every record has ended
end-low : (n : ℕ) (es : List Extent) → Ended n es → end_of es ≤ n
end-low n [] h = omega arith
end-low n (e ∷ es) h = omega (arith, h.0)

free-by : (limits : Limits) (n : ℕ) (o : Option Extent) (es all : List Extent) → all ≡ option_to_list o ++ es → Ended n es → IsFree limits n o (end_of all)
free-by limits n (Some e) es all is h = tt
free-by limits n None es all is h = λ _. omega (arith, ap end_of is, end-low n es h)

pub free_scan : (limits : Limits) (p : Past) → Good limits p → IsFree limits (count p) (open_one p) (end_of p.extents)
free_scan limits p good = free-by limits (count p) (open_one p) (ended p) p.extents good.is (ended_are (count p) p.extents)

pub free_trigger : (limits : Limits) (k : ℕ) (o : Option Extent) (end : ℕ) → (limits.unshared && is_none o && ltb k end) ≡ false → IsFree limits k o end
free_trigger limits k (Some e) end is = tt
free_trigger limits k None end is = λ chosen. ltb-false k end (sym (ap (λ b. b && true && ltb k end) chosen) ∙ is)

placed-same : (n : ℕ) (ring : List ScanParts) (scans : List ScanParts) (o : Option Extent) → option_map (record_of scans) o ≡ placed_if o n ring (option_map (record_of scans) o)
placed-same n ring scans None = refl
placed-same n ring scans (Some e) = refl

pub fired_is : (limits : Limits) (p : Past) (f : Option ℕ) → Good limits p
    → IsMarked limits p.scans (open_one p) (ended p) (mark_if limits (count p) f (history.met limits p)).newest (mark_if limits (count p) f (history.met limits p)).extent
fired_is limits p None good = record { counted = sym (ap newest_of good.is); going = good.going; placed = placed-same (count p) (latest (limits.pre + 1) p.scans) p.scans (open_one p) }
fired_is limits p (Some rule) good = mark-is limits p (count p) (cause.Rule rule) (omega arith) (omega arith) (free_scan limits p good) good

pub fired_list : (limits : Limits) (p : Past) (f : Option ℕ) → Good limits p → history.fired limits p f ≡ option_to_list (mark_if limits (count p) f (history.met limits p)).extent ++ ended p
fired_list limits p None good = good.is
fired_list limits p (Some rule) good = refl
