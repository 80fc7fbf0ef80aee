-- What is taken in a list of steps: the oldest of the records that closed, and all of them where none waits in the end.
use Rattle.std.proofs.Common.{◌≡◌, ℕ, zero, suc, ◌+◌, ◌<◌, ◌≤◌, inl, inr, Bool, true, false, cond, ltb, eqb, true≢false, Option, Some, None, Result, List, [], ◌∷◌, ◌++◌, map, length, take, drop, reverse, replicate, refl, sym, ◌∙◌, ap, subst, arith, append_assoc, append-nil, length-drop}
use Rattle.std.specs.Prelude.{All, filter, slice_get, option_to_list}
use Rattle.std.proofs.lemmas.List.{map-append, reverse-append, length-reverse, take_all, take-append-le}
use Rattle.std.proofs.lemmas.List.Elements.{All-append, All-cons, All-head, All-nil, All-replicate, All-tail}
use Rattle.std.proofs.lemmas.Option.{slice_get-map, slice_get_past}
use Rattle.std.proofs.lemmas.Bool.{cases_lt, lt-ltb, le-ltb, eq-eqb, ne_eqb}
use Rattle.dfr_channels.specs.Parts.{ScanParts}
use Rattle.dfr_channels.specs.Firing.{rules_fit}
use Rattle.dfr_channels.specs.declared.rule.Rule.{Rule}
use Rattle.dfr_recorder.specs.declared.limits.Limits.{Limits}
use Rattle.dfr_recorder.specs.declared.record.Cause.TheVariants as cause
use Rattle.dfr_recorder.specs.declared.record.Extent.{Extent}
use Rattle.dfr_recorder.specs.declared.step.ScanRefusal.{ScanRefusal}
use Rattle.dfr_recorder.specs.declared.step.LostRefusal.{LostRefusal}
use Rattle.dfr_recorder.specs.Marks.{mark, mark_if, is_covered}
use Rattle.dfr_recorder.specs.Parts.{RecordParts}
use Rattle.dfr_recorder.specs.Steps.{StepParts}
use Rattle.dfr_recorder.specs.Steps as step
use Rattle.dfr_recorder.specs.History as history
use Rattle.dfr_recorder.specs.History.{Opening, Past, past, count, newest, refusal, lost_refusal, lost_scan, fires, after_scan, after_lost, after_trigger, triggered, met, ended_at, ended, closed, records, record_of}
use Rattle.dfr_recorder.specs.Kept.{Kept, kept, reply}
use Rattle.dfr_recorder.specs.Run.{followed_by}
use Rattle.dfr_recorder.proofs.Extents.{Ended, Ended-more, ended_are, all-ended, length-records, push-length, Good, fired_list}
use Rattle.dfr_recorder.proofs.Law.{good_past}
use Rattle.dfr_live.specs.Parts.{CallParts, EntryParts, LeftParts}
use Rattle.dfr_live.specs.Parts as call
use Rattle.dfr_live.specs.Weave.{step_of, steps_in, steps_of, reply_of, extent_of}
use Rattle.dfr_live.specs.Seen.{InnerParts, SourceParts, TokenParts}
use Rattle.dfr_live.specs.Ends.{is_by}
use Rattle.dfr_live.specs.Closed.{extents_closed}
use Rattle.dfr_live.specs.OneList.{Origin, FromLane, FromToken, step_from, from_lane, from_tokens, IsAnswered, OneList}
use Rattle.dfr_live.specs.Devices.{AsksOf, HearsOf, Came, Noted, noted, noted_of, call_in, Turn, Waits, Makes, Desked, new_desk, TookTurn, MadeAll, extent_taken, extents_taken}
use Rattle.dfr_live.specs.declared.ended.Ended.{Ended as Ends}
use Rattle.dfr_live.specs.declared.entry.Reply.{Reply}
use Rattle.dfr_live.specs.declared.entry.Reply.TheVariants as replied
use Rattle.dfr_live.specs.declared.station.Order.{Order}
use Rattle.dfr_live.specs.declared.station.Order.TheVariants as order

-- ---- the records that closed

abbrev extent-in : RecordParts → Extent
extent-in r = r.extent

abbrev closed_so : Past → List Extent
closed_so p = reverse (ended p)

-- the extents of the records that were taken
abbrev taken_so : Past → List Extent
taken_so p = take p.taken (closed_so p)

extents-of : (scans : List ScanParts) (es : List Extent) → map extent-in (records scans es) ≡ reverse es
extents-of scans [] = refl
extents-of scans (e ∷ es) =
    map-append extent-in (records scans es) (record_of scans e ∷ [])
    ∙ ap (λ (l : List Extent). l ++ e ∷ []) (extents-of scans es)
    ∙ sym (reverse-append (e ∷ []) es)

-- the newest first: more have closed
abbrev Grows : List Extent → List Extent → Type 0
Grows old new = (more : List Extent) × (new ≡ more ++ old)

ended-by : (n : ℕ) (e : Extent) (es : List Extent) (b : Bool) → ltb e.last n ≡ b → ended_at n es ≡ es → Grows es (ended_at n (e ∷ es))
ended-by n e es true is all = (e ∷ [], rw (is, all) refl)
ended-by n e es false is all = ([], rw (is, all) refl)

ended-on : (m n : ℕ) (x : Option Extent) (es : List Extent) → Ended m es → m ≤ n → Grows es (ended_at n (option_to_list x ++ es))
ended-on m n None es h le = ([], all-ended n es (Ended-more m n es le h))
ended-on m n (Some e) es h le = ended-by n e es (ltb e.last n) refl (all-ended n es (Ended-more m n es le h))

grows-accepted : (limits : Limits) (p : Past) (x : ScanParts) (f : Option ℕ) → Good limits p → Grows (ended p) (ended (history.accepted limits p x f))
grows-accepted limits p x f good =
    subst (λ (es : List Extent). Grows (ended p) (ended_at (length (p.scans ++ x ∷ [])) es)) (sym (fired_list limits p f good))
    (ended-on (count p) (length (p.scans ++ x ∷ [])) (mark_if limits (count p) f (met limits p)).extent (ended p) (ended_are (count p) p.extents) (omega (arith, push-length p.scans x)))

grows-scan : (limits : Limits) (p : Past) (x : ScanParts) (r : Option ScanRefusal) → Good limits p → Grows (ended p) (ended (after_scan limits p x r))
grows-scan limits p x (Some refused) good = ([], refl)
grows-scan limits p x None good = grows-accepted limits p x (fires p x) good

grows-lost : (limits : Limits) (p : Past) (x : ScanParts) (r : Option LostRefusal) → Good limits p → Grows (ended p) (ended (after_lost limits p x r))
grows-lost limits p x (Some refused) good = ([], refl)
grows-lost limits p x None good = grows-accepted limits p x None good

grows-covered : (limits : Limits) (p : Past) (k : ℕ) (b : Bool) → Grows (ended p) (ended (cond b p (record p { extents = triggered limits p k cause.Manual })))
grows-covered limits p k true = ([], refl)
grows-covered limits p k false =
    ended-on (count p) (count p) (mark limits k cause.Manual (met limits p)).extent (ended p) (ended_are (count p) p.extents) (omega arith)

grows-trigger : (limits : Limits) (p : Past) (n : ℕ) → Grows (ended p) (ended (after_trigger limits p n))
grows-trigger limits p zero = ([], refl)
grows-trigger limits p (suc k) = grows-covered limits p k (is_covered limits k (met limits p))

grows-rules : (p : Past) (rules : List Rule) (b : Bool) → Grows (ended p) (ended (cond b (record p { rules = rules }) p))
grows-rules p rules true = ([], refl)
grows-rules p rules false = ([], refl)

grows : (o : Opening) (h : List StepParts) (s : StepParts) → Grows (ended (past o h)) (ended (past o (s ∷ h)))
grows o h (step.Scan scan) = grows-scan o.limits (past o h) scan (refusal o.layout (count (past o h)) scan) (good_past o h)
grows o h step.Lost = grows-lost o.limits (past o h) (lost_scan o.layout (newest (past o h).scans)) (lost_refusal o.layout (count (past o h))) (good_past o h)
grows o h step.Trigger = grows-trigger o.limits (past o h) (count (past o h))
grows o h step.Take = ([], refl)
grows o h (step.SetRules rules) = grows-rules (past o h) rules (rules_fit o.layout rules)

-- ---- how many were taken

abbrev takes-none : StepParts → Bool
takes-none (step.Scan scan) = true
takes-none step.Lost = true
takes-none step.Trigger = true
takes-none step.Take = false
takes-none (step.SetRules rules) = true

abbrev TakesNone : StepParts → Type 0
TakesNone s = takes-none s ≡ true

same-scan : (limits : Limits) (p : Past) (x : ScanParts) (r : Option ScanRefusal) → (after_scan limits p x r).taken ≡ p.taken
same-scan limits p x (Some refused) = refl
same-scan limits p x None = refl

same-lost : (limits : Limits) (p : Past) (x : ScanParts) (r : Option LostRefusal) → (after_lost limits p x r).taken ≡ p.taken
same-lost limits p x (Some refused) = refl
same-lost limits p x None = refl

same-covered : (p : Past) (extents : List Extent) (b : Bool) → (cond b p (record p { extents = extents })).taken ≡ p.taken
same-covered p extents true = refl
same-covered p extents false = refl

same-trigger : (limits : Limits) (p : Past) (n : ℕ) → (after_trigger limits p n).taken ≡ p.taken
same-trigger limits p zero = refl
same-trigger limits p (suc k) = same-covered p (triggered limits p k cause.Manual) (is_covered limits k (met limits p))

same-rules : (p : Past) (rules : List Rule) (b : Bool) → (cond b (record p { rules = rules }) p).taken ≡ p.taken
same-rules p rules true = refl
same-rules p rules false = refl

same-taken : (o : Opening) (h : List StepParts) (s : StepParts) → TakesNone s → (past o (s ∷ h)).taken ≡ (past o h).taken
same-taken o h (step.Scan scan) none = same-scan o.limits (past o h) scan (refusal o.layout (count (past o h)) scan)
same-taken o h step.Lost none = same-lost o.limits (past o h) (lost_scan o.layout (newest (past o h).scans)) (lost_refusal o.layout (count (past o h)))
same-taken o h step.Trigger none = same-trigger o.limits (past o h) (count (past o h))
same-taken o h step.Take none = absurd (true≢false (sym none))
same-taken o h (step.SetRules rules) none = same-rules (past o h) rules (rules_fit o.layout rules)

-- a step that takes none leaves what was taken
still : (o : Opening) (h : List StepParts) (s : StepParts) → TakesNone s → taken_so (past o (s ∷ h)) ≡ taken_so (past o h)
still o h s none =
    let p : Past = past o h in
    let more = grows o h s in
    ap (λ (n : ℕ). take n (closed_so (past o (s ∷ h)))) (same-taken o h s none)
    ∙ ap (λ (es : List Extent). take p.taken (reverse es)) more.1
    ∙ ap (take p.taken) (reverse-append more.0 (ended p))
    ∙ take-append-le p.taken (closed_so p) (reverse more.0) (omega (arith, (good_past o h).behind, length-reverse (ended p)))

take-one : {X : Type 0} (n : ℕ) (xs : List X) → n < length xs → take (n + 1) xs ≡ take n xs ++ option_to_list (slice_get xs n)
take-one n [] lt = absurd (omega arith)
take-one zero (x ∷ xs) lt = refl
take-one {X} (suc n) (x ∷ xs) lt =
    let on : suc n + 1 ≡ suc (n + 1) = omega arith in
    ap (λ (k : ℕ). take k (x ∷ xs)) on ∙ ap (λ (l : List X). x ∷ l) (take-one n xs (omega arith))

take-next : {X : Type 0} (n m : ℕ) (xs : List X) → length xs ≡ m → take (cond (ltb n m) (n + 1) n) xs ≡ take n xs ++ option_to_list (slice_get xs n)
take-next n m xs long = elim (cases_lt n m) [
  | inl lt ↦ let is : ltb n m ≡ true = lt-ltb n m lt in rw is (take-one n xs (omega (arith, lt, long)))
  | inr ge ↦
      let is : ltb n m ≡ false = le-ltb n m ge in
      let none : slice_get xs n ≡ None = slice_get_past xs n (omega (arith, ge, long)) in
      rw (is, none) (sym (append-nil (take n xs)))
]

-- a take takes the next one, if there is one
took : (o : Opening) (h : List StepParts) → taken_so (past o (step.Take ∷ h)) ≡ taken_so (past o h) ++ option_to_list (slice_get (closed_so (past o h)) (past o h).taken)
took o h = take-next (past o h).taken (closed (past o h)) (closed_so (past o h)) (length-reverse (ended (past o h)))

-- ---- what the replies say

abbrev extent-replied : Option Reply → List Extent
extent-replied None = []
extent-replied (Some r) = extent_taken r

listed : (x : Option Extent) → extent_taken (replied.Take x) ≡ option_to_list x
listed None = refl
listed (Some e) = refl

one-call : (o : Opening) (h : List StepParts) (c : CallParts) (r : Reply)
    → reply_of (reply o h (step_of c)) ≡ Some r → taken_so (past o h) ++ extent_taken r ≡ taken_so (past o (step_of c ∷ h))
one-call o h call.Trigger r is =
    ap (λ (l : List Extent). taken_so (past o h) ++ l) (sym (ap extent-replied is)) ∙ append-nil (taken_so (past o h)) ∙ sym (still o h step.Trigger refl)
one-call o h (call.SetRules rules) r is =
    ap (λ (l : List Extent). taken_so (past o h) ++ l) (sym (ap extent-replied is)) ∙ append-nil (taken_so (past o h)) ∙ sym (still o h (step.SetRules rules) refl)
one-call o h call.Take r is =
    let p : Past = past o h in
    let x : Option RecordParts = slice_get (records p.scans (ended p)) p.taken in
    let same : extent_of x ≡ slice_get (closed_so p) p.taken =
    sym (slice_get-map extent-in (records p.scans (ended p)) p.taken) ∙ ap (λ (l : List Extent). slice_get l p.taken) (extents-of p.scans (ended p)) in
    ap (λ (l : List Extent). taken_so p ++ l) (sym (ap extent-replied is) ∙ listed (extent_of x) ∙ ap (λ (y : Option Extent). option_to_list y) same) ∙ sym (took o h)

-- along the one list
along : (o : Opening) (n : ℕ) (h : List StepParts) (list : List Origin) → All TakesNone (from_lane list) → IsAnswered o n h list
    → taken_so (past o h) ++ extents_taken (from_tokens list) ≡ taken_so (past o (followed_by h (map step_from list)))
along o n h [] none a = append-nil (taken_so (past o h))
along o n h (FromLane s ∷ list) none a =
    ap (λ (l : List Extent). l ++ extents_taken (from_tokens list)) (sym (still o h s (All-head TakesNone s (from_lane list) none)))
    ∙ along o (n + 1) (s ∷ h) list (All-tail TakesNone s (from_lane list) none) a
along o n h (FromToken e ∷ list) none a =
    sym (append_assoc (taken_so (past o h)) (extent_taken e.reply) (extents_taken (from_tokens list)))
    ∙ ap (λ (l : List Extent). l ++ extents_taken (from_tokens list)) (one-call o h e.call e.reply a.1)
    ∙ along o n (step_of e.call ∷ h) list none a.2

-- where none waits, all were taken
all-taken : (o : Opening) (h : List StepParts) (k : Kept) → kept o h ≡ k → k.shelf ≡ [] → taken_so (past o h) ≡ closed_so (past o h)
all-taken o h k is empty =
    let p : Past = past o h in
    let all : List RecordParts = records p.scans (ended p) in
    let none : length (drop p.taken all) ≡ 0 = ap (λ (x : Kept). length x.shelf) is ∙ ap length empty in
    take_all p.taken (closed_so p) (omega (arith, none, length-drop p.taken all, length-records p.scans (ended p), length-reverse (ended p)))

-- the lane holds scans and losses alone
lane-takes-none : (items : List LeftParts) → All TakesNone (steps_of items)
lane-takes-none [] = All-nil TakesNone
lane-takes-none (x ∷ items) =
    All-append TakesNone (steps_in x) (steps_of items)
    (All-append TakesNone (replicate x.lost step.Lost) (step.Scan x.scan ∷ []) (All-replicate TakesNone x.lost step.Lost refl) (All-cons TakesNone (step.Scan x.scan) [] refl (All-nil TakesNone)))
    (lane-takes-none items)

front-all : {X : Type 0} (P : X → Type 0) (xs ys : List X) → All P (xs ++ ys) → All P xs
front-all P [] ys h = All-nil P
front-all P (x ∷ xs) ys h = All-cons P x xs (All-head P x (xs ++ ys) h) (front-all P xs ys (All-tail P x (xs ++ ys) h))

-- ---- who takes

abbrev is-take : CallParts → Bool
is-take call.Trigger = false
is-take call.Take = true
is-take (call.SetRules rules) = false

abbrev pub IsNoTake : EntryParts → Type 0
IsNoTake e = is-take e.call ≡ false

-- a call that is no take takes no record
abbrev TakesOnly : EntryParts → Type 0
TakesOnly e = IsNoTake e → extent_taken e.reply ≡ []

takes-only : (o : Opening) (h : List StepParts) (c : CallParts) (r : Reply) → reply_of (reply o h (step_of c)) ≡ Some r → is-take c ≡ false → extent_taken r ≡ []
takes-only o h call.Trigger r is none = sym (ap extent-replied is)
takes-only o h (call.SetRules rules) r is none = sym (ap extent-replied is)
takes-only o h call.Take r is none = absurd (true≢false none)

all-take-only : (o : Opening) (n : ℕ) (h : List StepParts) (list : List Origin) → IsAnswered o n h list → All TakesOnly (from_tokens list)
all-take-only o n h [] a = All-nil TakesOnly
all-take-only o n h (FromLane s ∷ list) a = all-take-only o (n + 1) (s ∷ h) list a
all-take-only o n h (FromToken e ∷ list) a =
    All-cons TakesOnly e (from_tokens list) (takes-only o h e.call e.reply a.1) (all-take-only o n (step_of e.call ∷ h) list a.2)

-- of two seats, of which the first doesn't take, the other took all
by-other : (es : List EntryParts) → All (λ (e : EntryParts). e.caller < 2) es → All TakesOnly es → All IsNoTake (filter (is_by 0) es)
    → extents_taken es ≡ extents_taken (filter (is_by 1) es)
by-other [] few only none = refl
by-other (e ∷ es) few only none = elim (cases_lt e.caller 1) [
  | inl lt ↦
      let zeroth : eqb e.caller 0 ≡ true = eq-eqb e.caller 0 (omega (arith, lt)) in
      let first : eqb e.caller 1 ≡ false = ne_eqb e.caller 1 (λ at. omega (arith, lt, at)) in
      let mine : All IsNoTake (e ∷ filter (is_by 0) es) = subst (λ (b : Bool). All IsNoTake (cond b (e ∷ filter (is_by 0) es) (filter (is_by 0) es))) zeroth none in
      let no = All-head TakesOnly e es only (All-head IsNoTake e (filter (is_by 0) es) mine) in
      let rest = by-other es (All-tail (λ (x : EntryParts). x.caller < 2) e es few) (All-tail TakesOnly e es only) (All-tail IsNoTake e (filter (is_by 0) es) mine) in
      ap (λ (l : List Extent). l ++ extents_taken es) no ∙ rest ∙ ap (λ (b : Bool). extents_taken (cond b (e ∷ filter (is_by 1) es) (filter (is_by 1) es))) (sym first)
  | inr ge ↦
      let one : e.caller ≡ 1 = omega (arith, ge, All-head (λ (x : EntryParts). x.caller < 2) e es few) in
      let zeroth : eqb e.caller 0 ≡ false = ne_eqb e.caller 0 (λ at. omega (arith, ge, at)) in
      let first : eqb e.caller 1 ≡ true = eq-eqb e.caller 1 one in
      let mine : All IsNoTake (filter (is_by 0) es) = subst (λ (b : Bool). All IsNoTake (cond b (e ∷ filter (is_by 0) es) (filter (is_by 0) es))) zeroth none in
      let rest = by-other es (All-tail (λ (x : EntryParts). x.caller < 2) e es few) (All-tail TakesOnly e es only) mine in
      ap (λ (l : List Extent). extent_taken e.reply ++ l) rest ∙ ap (λ (b : Bool). extents_taken (cond b (e ∷ filter (is_by 1) es) (filter (is_by 1) es))) (sym first)
]

-- ---- orders don't take

abbrev NotesNoTake : Noted → Type 0
NotesNoTake n = is-take n.1 ≡ false

order-no-take : {A : Type 0} (o : Order A) → is-take (call_in o) ≡ false
order-no-take order.Trigger = refl
order-no-take (order.SetRules rules) = refl

noted-no-take : {A : Type 0} (at : ℕ) (o : Order A) (r : Option Reply) → All NotesNoTake (noted_of at o r)
noted-no-take at o (Some r) = All-cons NotesNoTake (at, call_in o, r) [] (order-no-take o) (All-nil NotesNoTake)
noted-no-take at o None = All-nil NotesNoTake

from-notes : (es : List EntryParts) → All NotesNoTake (map noted es) → All IsNoTake es
from-notes [] h = All-nil IsNoTake
from-notes (e ∷ es) h =
    All-cons IsNoTake e es (All-head NotesNoTake (noted e) (map noted es) h) (from-notes es (All-tail NotesNoTake (noted e) (map noted es) h))

module _ {A O : Type 0} (Asks : AsksOf A O) (Hears : HearsOf O) where
  turns-no-take : (steps : ℕ) (f : O) (turns : List (Turn A)) (s : Desked O) → Came (TookTurn Asks Hears steps) (new_desk f) turns s → All NotesNoTake s.notes
  turns-no-take steps f [] s h = subst (λ (x : Desked O). All NotesNoTake x.notes) h (All-nil NotesNoTake)
  turns-no-take steps f (Waits standing free ∷ turns) s (m, before, turn) =
      subst (λ (ns : List Noted). All NotesNoTake ns) (sym turn.4) (turns-no-take steps f turns m before)
  turns-no-take steps f (Makes standing place o reply ∷ turns) s (m, before, turn) =
      subst (λ (ns : List Noted). All NotesNoTake ns) (sym turn.5)
      (All-append NotesNoTake m.notes (noted_of s.pumped o reply) (turns-no-take steps f turns m before) (noted-no-take s.pumped o reply))

  pub orders_take_none : (f : O) (made : List EntryParts) (steps : ℕ) (g : O) → MadeAll Asks Hears f made steps g → All IsNoTake made
  orders_take_none f made steps g h =
      from-notes made (subst (λ (ns : List Noted). All NotesNoTake ns) (sym h.notes) (turns-no-take steps f h.turns h.last h.came))

-- ---- the law

-- the records that seat 1 took are those that closed
pub took_all_closed : {A : Type 0} (x : InnerParts) (source : SourceParts) (tokens : List TokenParts) (e : Ends A) (one : OneList x source tokens e) (o : Opening)
    → x.opening ≡ o → x.seats ≡ 2 → All IsNoTake (filter (is_by 0) e.log.items) → e.recorder.shelf ≡ []
    → extents_taken (filter (is_by 1) e.log.items) ≡ extents_closed o (map step_from one.list)
took_all_closed x source tokens e one o opened two none empty =
    let list : List Origin = one.list in
    let h : List StepParts = followed_by [] (map step_from list) in
    let entries : List EntryParts = from_tokens list in
    let few : All (λ (c : EntryParts). c.caller < 2) entries = subst (λ (n : ℕ). All (λ (c : EntryParts). c.caller < n) entries) two one.no_others in
    let mine : All IsNoTake (filter (is_by 0) entries) = subst (λ (es : List EntryParts). All IsNoTake (filter (is_by 0) es)) (sym one.calls) none in
    let lane : All TakesNone (from_lane list) =
    front-all TakesNone (from_lane list) (steps_of e.left.items) (subst (λ (l : List StepParts). All TakesNone l) (sym one.scans) (lane-takes-none source.offered)) in
    ap (λ (es : List EntryParts). extents_taken (filter (is_by 1) es)) (sym one.calls)
    ∙ sym (by-other entries few (all-take-only x.opening 0 [] list one.answers) mine)
    ∙ along x.opening 0 [] list lane one.answers
    ∙ all-taken x.opening h e.recorder one.recorder empty
    ∙ ap (λ (y : Opening). extents_closed y (map step_from list)) opened
