-- The scans that are given are just those that are complete.
use Rattle.std.proofs.Common.{◌≡◌, ◌∙◌, sym, ap, refl, ℕ, zero, suc, ◌+◌, ◌-◌, ◌<◌, ◌≤◌, max, Bool, true, false, cond, ◌&&◌, ◌||◌, List, [], ◌∷◌, ◌++◌, length, set, inl, inr, ◌⊎◌, Option, None, Some, arith}
use Rattle.std.proofs.lemmas.Bool.{and_parts}
use Rattle.std.specs.Prelude.{nat_lt, replicate}
use Rattle.std.specs.List.{list_all, list_any}
use Rattle.std.proofs.lemmas.List.{length-append, length-replicate}
use Rattle.std.proofs.lemmas.Bool.Decides.{nat_tests}
use borrow.Author.Tests.{ltb-true, ltb-false}
use Rattle.dfr_bay.specs.declared.settings.Settings.{Settings}
use Rattle.dfr_bay.specs.declared.arrival.Arrival.{Arrival}
use Rattle.dfr_bay.specs.declared.arrival.Arrival.TheVariants.{Taken, Restarted, Repeated, Late, Astray, Invalid}
use Rattle.dfr_bay.specs.Lines.{Frame, Board, line_at, is_complete, filled, with_place, with_lost, first_count, with_frame, arrival, after_arrival, board}
use Rattle.dfr_bay.specs.Laws.{IsUpToDate, CompleteLaw}

not_below : (a b : ℕ) → b ≤ a → nat_lt a b ≡ false
not_below a b h = grind (arith, nat_tests)

below : (a b : ℕ) → a < b → nat_lt a b ≡ true
below a b h = grind (arith, nat_tests)

or_false : (a b : Bool) → a || b ≡ false → (a ≡ false) × (b ≡ false)
or_false true b e = absurd cc
or_false false b e = (refl, e)

or_true : (a b : Bool) → a || b ≡ true → (a ≡ true) ⊎ (b ≡ true)
or_true true b e = inl refl
or_true false b e = inr e

false_and : (a b : Bool) → a ≡ false → a && b ≡ false
false_and a b e = ap (λ v. v && b) e

and_false : (a b : Bool) → b ≡ false → a && b ≡ false
and_false true b e = e
and_false false b e = refl

both_true : (a b : Bool) → a ≡ true → b ≡ true → a && b ≡ true
both_true a b e f = ap (λ v. v && b) e ∙ f

both_false : (a b : Bool) → a ≡ false → b ≡ false → a || b ≡ false
both_false a b e f = ap (λ v. v || b) e ∙ f

true_or : (a b : Bool) → a ≡ true → a || b ≡ true
true_or a b e = ap (λ v. v || b) e

or_right : (a b : Bool) → b ≡ true → a || b ≡ true
or_right true b e = refl
or_right false b e = e

-- a line with a place more
abbrev grown : {X : Type 0} → ℕ → List (Option X) → Option X → List (Option X)
grown n line x = filled n line ++ x ∷ []

abbrev gone : {X : Type 0} → Option X
gone = None

grown_length : {X : Type 0} (n : ℕ) (line : List (Option X)) (x : Option X) → length (grown n line x) ≡ max (length line) n + 1
grown_length {X = X} n line x =
    let whole = length-append (filled n line) (x ∷ []) in
    let parts = length-append line (replicate (n - length line) (gone {X = X})) in
    let rest = length-replicate (n - length line) (gone {X = X}) in
    omega (arith, whole, parts, rest)

abbrev all_beyond : {X : Type 0} → ℕ → List (List (Option X)) → Bool
all_beyond n lines = list_all (λ line. nat_lt n (length line)) lines

abbrev one_beyond : {X : Type 0} → ℕ → List (List (Option X)) → Bool
one_beyond n lines = list_any (λ line. nat_lt n (length line)) lines

-- not all go beyond the next scan: the first of these doesn't, or not all of the others do
later_by : {X : Type 0} (n : ℕ) (line : List (Option X)) (rest more : Bool) (t : Bool) → nat_lt n (length line) ≡ t → (rest ≡ false → more ≡ false) → t && rest ≡ false → nat_lt (suc n) (length line) && more ≡ false
later_by n line rest more true t later e = and_false (nat_lt (suc n) (length line)) more (later e)
later_by n line rest more false t later e = false_and _ more (not_below (suc n) (length line) (let h = ltb-false n (length line) t in omega (arith, h)))

later_all : {X : Type 0} (n : ℕ) (lines : List (List (Option X))) → all_beyond n lines ≡ false → all_beyond (suc n) lines ≡ false
later_all n [] e = absurd cc
later_all n (line ∷ lines) e = later_by n line (all_beyond n lines) (all_beyond (suc n) lines) (nat_lt n (length line)) refl (later_all n lines) e

grown_by : {X : Type 0} (n : ℕ) (line : List (Option X)) (x : Option X) (rest more : Bool) (t : Bool) → nat_lt n (length line) ≡ t → (rest ≡ false → more ≡ false) → t && rest ≡ false → nat_lt (suc n) (length (grown n line x)) && more ≡ false
grown_by n line x rest more true t later e = and_false (nat_lt (suc n) (length (grown n line x))) more (later e)
grown_by n line x rest more false t later e =
    let h = ltb-false n (length line) t in
    let long = grown_length n line x in
    false_and _ more (not_below (suc n) (length (grown n line x)) (omega (arith, h, long)))

next_all : {X : Type 0} (n stream : ℕ) (x : Option X) (lines : List (List (Option X))) → all_beyond n lines ≡ false → all_beyond (suc n) (set lines stream (grown n (line_at lines stream) x)) ≡ false
next_all n stream x [] e = absurd cc
next_all n zero x (line ∷ lines) e = grown_by n line x (all_beyond n lines) (all_beyond (suc n) lines) (nat_lt n (length line)) refl (later_all n lines) e
next_all n (suc stream) x (line ∷ lines) e =
    later_by n line (all_beyond n lines) (all_beyond (suc n) (set lines stream (grown n (line_at lines stream) x))) (nat_lt n (length line)) refl (next_all n stream x lines) e

-- and none is ahead of it by the limit
later_one : {X : Type 0} (m : ℕ) (lines : List (List (Option X))) → one_beyond m lines ≡ false → one_beyond (suc m) lines ≡ false
later_one m [] e = refl
later_one m (line ∷ lines) e =
    let parts = or_false (nat_lt m (length line)) (one_beyond m lines) e in
    both_false _ _ (not_below (suc m) (length line) (let h = ltb-false m (length line) parts.0 in omega (arith, h))) (later_one m lines parts.1)

next_one : {X : Type 0} (n m stream : ℕ) (x : Option X) (lines : List (List (Option X))) → n ≤ m → one_beyond m lines ≡ false → one_beyond (suc m) (set lines stream (grown n (line_at lines stream) x)) ≡ false
next_one n m stream x [] le e = refl
next_one n m zero x (line ∷ lines) le e =
    let parts = or_false (nat_lt m (length line)) (one_beyond m lines) e in
    let long = grown_length n line x in
    both_false _ _ (not_below (suc m) (length (grown n line x)) (let h = ltb-false m (length line) parts.0 in omega (arith, h, long, le))) (later_one m lines parts.1)
next_one n m (suc stream) x (line ∷ lines) le e =
    let parts = or_false (nat_lt m (length line)) (one_beyond m lines) e in
    both_false _ _ (not_below (suc m) (length line) (let h = ltb-false m (length line) parts.0 in omega (arith, h))) (next_one n m stream x lines le parts.1)

-- what is complete stays so
same_all : {X : Type 0} (n k stream : ℕ) (x : Option X) (lines : List (List (Option X))) → k < n → all_beyond k lines ≡ true → all_beyond k (set lines stream (grown n (line_at lines stream) x)) ≡ true
same_all n k stream x [] lt e = refl
same_all n k zero x (line ∷ lines) lt e =
    let parts = and_parts (nat_lt k (length line)) (all_beyond k lines) e in
    let long = grown_length n line x in
    both_true _ _ (below k (length (grown n line x)) (omega (arith, long, lt))) parts.1
same_all n k (suc stream) x (line ∷ lines) lt e =
    let parts = and_parts (nat_lt k (length line)) (all_beyond k lines) e in
    both_true _ _ parts.0 (same_all n k stream x lines lt parts.1)

same_one : {X : Type 0} (n m stream : ℕ) (x : Option X) (lines : List (List (Option X))) → one_beyond m lines ≡ true → one_beyond m (set lines stream (grown n (line_at lines stream) x)) ≡ true
same_one n m stream x [] e = e
same_one n m zero x (line ∷ lines) e =
    let long = grown_length n line x in
    elim (or_true (nat_lt m (length line)) (one_beyond m lines) e) [
      | inl here ↦ true_or _ _ (below m (length (grown n line x)) (let h = ltb-true m (length line) here in omega (arith, h, long)))
      | inr there ↦ or_right _ _ there
    ]
same_one n m (suc stream) x (line ∷ lines) e =
    elim (or_true (nat_lt m (length line)) (one_beyond m lines) e) [
      | inl here ↦ true_or _ _ here
      | inr there ↦ or_right _ _ (same_one n m stream x lines there)
    ]

stays : {X : Type 0} (limit n k stream : ℕ) (x : Option X) (lines : List (List (Option X))) → k < n → is_complete limit k lines ≡ true → is_complete limit k (set lines stream (grown n (line_at lines stream) x)) ≡ true
stays limit n k stream x lines lt e =
    elim (or_true (all_beyond k lines) (one_beyond (k + limit) lines) e) [
      | inl all ↦ true_or _ _ (same_all n k stream x lines lt all)
      | inr one ↦ or_right _ _ (same_one n (k + limit) stream x lines one)
    ]

next_waits : {X : Type 0} (limit n stream : ℕ) (x : Option X) (lines : List (List (Option X))) → is_complete limit n lines ≡ false → is_complete limit (suc n) (set lines stream (grown n (line_at lines stream) x)) ≡ false
next_waits {X = X} limit n stream x lines e =
    let parts = or_false (all_beyond n lines) (one_beyond (n + limit) lines) e in
    let more = set lines stream (grown n (line_at lines stream) x) in
    let sum : suc (n + limit) ≡ suc n + limit = omega arith in
    both_false (all_beyond (suc n) more) (one_beyond (suc n + limit) more) (next_all n stream x lines parts.0)
    (ap (λ m. one_beyond m more) (sym sum) ∙ next_one n (n + limit) stream x lines (omega arith) parts.1)

-- one place more
abbrev wider : {X : Type 0} → ℕ → Option X → Board X → List (List (Option X))
wider stream x b = set b.lines stream (grown b.done (line_at b.lines stream) x)

waits_by : {X : Type 0} (limit stream : ℕ) (x : Option X) (b : Board X) (t : Bool) → is_complete limit b.done (wider stream x b) ≡ t → IsUpToDate limit b → is_complete limit (cond t (suc b.done) b.done) (wider stream x b) ≡ false
waits_by limit stream x b true e h = next_waits limit b.done stream x b.lines h.next
waits_by limit stream x b false e h = e

given_at : {X : Type 0} (limit stream : ℕ) (x : Option X) (b : Board X) → is_complete limit b.done (wider stream x b) ≡ true → IsUpToDate limit b
    → (k : ℕ) → k < suc b.done → (t : Bool) → nat_lt k b.done ≡ t → is_complete limit k (wider stream x b) ≡ true
given_at limit stream x b e h k lt true t = let old = ltb-true k b.done t in stays limit b.done k stream x b.lines old (h.given k old)
given_at limit stream x b e h k lt false t =
    let past = ltb-false k b.done t in
    let same : k ≡ b.done = omega (arith, past, lt) in
    ap (λ n. is_complete limit n (wider stream x b)) same ∙ e

given_by : {X : Type 0} (limit stream : ℕ) (x : Option X) (b : Board X) (t : Bool) → is_complete limit b.done (wider stream x b) ≡ t → IsUpToDate limit b
    → (k : ℕ) → k < cond t (suc b.done) b.done → is_complete limit k (wider stream x b) ≡ true
given_by limit stream x b false e h k lt = stays limit b.done k stream x b.lines lt (h.given k lt)
given_by {X = X} limit stream x b true e h k lt = given_at limit stream x b e h k lt (nat_lt k b.done) refl

place_law : {X : Type 0} (limit stream : ℕ) (x : Option X) (b : Board X) → IsUpToDate limit b → IsUpToDate limit (with_place limit stream x b)
place_law limit stream x b h = record { given = given_by limit stream x b _ refl h; next = waits_by limit stream x b _ refl h }

lost_law : {X : Type 0} (limit stream lost : ℕ) (b : Board X) → IsUpToDate limit b → IsUpToDate limit (with_lost limit stream lost b)
lost_law limit stream zero b h = h
lost_law limit stream (suc lost) b h = place_law limit stream None (with_lost limit stream lost b) (lost_law limit stream lost b h)

frame_law : {X : Type 0} (s : Settings) (f : Frame X) (lost : ℕ) (b : Board X) → IsUpToDate s.limit b → IsUpToDate s.limit (with_frame s f lost b)
frame_law {X = X} s f lost b h =
    let begins : Board X = record { first = first_count b.first f.count; lines = b.lines; done = b.done; newest = set b.newest f.stream (Some f.count); strays = 0 } in
    let same : IsUpToDate s.limit begins = record { given = h.given; next = h.next } in
    place_law s.limit f.stream (Some f.content) (with_lost s.limit f.stream lost begins) (lost_law s.limit f.stream lost begins same)

after_law : {X : Type 0} (s : Settings) (a : Arrival) (f : Frame X) (b : Board X) → IsUpToDate s.limit b → IsUpToDate s.limit (after_arrival s a f b)
after_law s (Taken lost) f b h = frame_law s f lost b h
after_law s (Restarted lost) f b h = frame_law s f lost b h
after_law s Repeated f b h = record { given = h.given; next = h.next }
after_law s Late f b h = record { given = h.given; next = h.next }
after_law s Astray f b h = record { given = h.given; next = h.next }
after_law s Invalid f b h = record { given = h.given; next = h.next }

none_beyond : (X : Type 0) (m streams : ℕ) → one_beyond {X = X} m (replicate streams []) ≡ false
none_beyond X m zero = refl
none_beyond X m (suc streams) = both_false _ _ (not_below m 0 (omega arith)) (none_beyond X m streams)

blank_waits : (X : Type 0) (limit streams : ℕ) → 1 ≤ streams → is_complete {X = X} limit 0 (replicate streams []) ≡ false
blank_waits X limit zero h = absurd (omega (arith, h))
blank_waits X limit (suc streams) h = none_beyond X (0 + limit) (suc streams)

pub complete_law : {X : Type 0} → CompleteLaw X
complete_law {X = X} s streams [] h = record { given = λ k lt. absurd (omega (arith, lt)); next = blank_waits X s.limit streams h }
complete_law {X = X} s streams (f ∷ past) h = after_law s (arrival s (board s streams past) f) f (board s streams past) (complete_law {X = X} s streams past h)
