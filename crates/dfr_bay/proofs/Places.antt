-- A place more on the line of a stream: what waits, which scans are complete, and what they hold.
use Rattle.std.proofs.Common.{◌≡◌, ◌∙◌, sym, ap, subst, refl, ℕ, zero, suc, ◌+◌, ◌-◌, ◌<◌, ◌≤◌, Bool, true, false, cond, ◌&&◌, ◌||◌, List, [], ◌∷◌, ◌++◌, length, map, take, drop, set, get_or, Option, Some, None, arith, add-one, append_assoc}
use Rattle.std.specs.Prelude.{nat_lt, nat_le, replicate}
use Rattle.std.specs.List.{list_all, list_any}
use Rattle.std.proofs.lemmas.List.{append-nil, length-append, length-replicate, length-drop, drop-drop, drop-append-le, drop_at, drop_all, get_or_append_left, get_or-append_right, get_or-replicate, get_or_past, get_or-drop, set-get_or, map-set}
use Rattle.std.proofs.lemmas.Grind.{common_steps}
use Rattle.std.proofs.lemmas.Bool.Decides.{nat_tests}
use borrow.Author.Tests.{leb-true, leb-false, ltb-true, ltb-false}
use Rattle.circular_buffer.specs.Buffer.{Buffer, buffer}
use Rattle.dfr_bay.specs.Lines.{Board, line_at, is_complete, filled, with_place, scan, scans, source}
use Rattle.dfr_bay.specs.Waiting.{queue, queue_at, pushed, popped, head, all_wait, one_waits_long, is_ready, entered, finished}

-- a lost sample
abbrev gone : {X : Type 0} → Option X
gone = None

-- a line at an index, by a function of it
pub at_map : {X Y : Type 0} (f : X → Y) (xs : List X) (i : ℕ) (d : X) → get_or (map f xs) i (f d) ≡ f (get_or xs i d)
at_map f [] i d = refl
at_map f (x ∷ xs) zero d = refl
at_map f (x ∷ xs) (suc i) d = at_map f xs i d

pub drop_none : {X : Type 0} (n : ℕ) → drop {A = X} n [] ≡ []
drop_none zero = refl
drop_none (suc n) = refl

-- a line that is long enough is filled already
filled_long : {X : Type 0} (n : ℕ) (line : List (Option X)) → n ≤ length line → filled n line ≡ line
filled_long {X = X} n line h =
    let none : n - length line ≡ 0 = omega arith in
    ap (λ m. line ++ replicate m (gone {X = X})) none ∙ append-nil line

filled_length : {X : Type 0} (n : ℕ) (line : List (Option X)) → length line ≤ n → length (filled n line) ≡ n
filled_length {X = X} n line h =
    let parts = length-append line (replicate (n - length line) (gone {X = X})) in
    let rest = length-replicate (n - length line) (gone {X = X}) in
    omega (arith, parts, rest)

filled_least : {X : Type 0} (n : ℕ) (line : List (Option X)) → n ≤ length (filled n line)
filled_least {X = X} n line =
    let parts = length-append line (replicate (n - length line) (gone {X = X})) in
    let rest = length-replicate (n - length line) (gone {X = X}) in
    omega (arith, parts, rest)

-- what waits of a line gets the sample at its end
waits_more_by : {X : Type 0} (n : ℕ) (line : List (Option X)) (x : Option X) (long : Bool) → nat_le n (length line) ≡ long → drop n (filled n line ++ x ∷ []) ≡ drop n line ++ x ∷ []
waits_more_by {X = X} n line x true e =
    let h = leb-true n (length line) e in
    ap (λ (l : List (Option X)). drop n (l ++ x ∷ [])) (filled_long n line h) ∙ drop-append-le n line (x ∷ []) h
waits_more_by {X = X} n line x false e =
    let h = leb-false n (length line) e in
    let short : length line ≤ n = omega (arith, h) in
    drop_at (filled n line) (x ∷ []) n (filled_length n line short) ∙ ap (λ (l : List (Option X)). l ++ x ∷ []) (sym (drop_all n line short))

waits_more : {X : Type 0} (n : ℕ) (line : List (Option X)) (x : Option X) → drop n (filled n line ++ x ∷ []) ≡ drop n line ++ x ∷ []
waits_more n line x = waits_more_by n line x _ refl

-- the queues of the lines with a place more
pub same_queues : {X : Type 0} (limit done stream : ℕ) (x : Option X) (lines : List (List (Option X)))
    → map (queue limit done) (set lines stream (filled done (line_at lines stream) ++ x ∷ [])) ≡ entered limit stream x (map (queue limit done) lines)
same_queues {X = X} limit done stream x lines =
    let empty : queue limit done [] ≡ buffer [] (limit + 1) = ap (λ (l : List (Option X)). buffer l (limit + 1)) (drop_none done) in
    let here : queue_at limit (map (queue limit done) lines) stream ≡ queue limit done (line_at lines stream) =
    ap (get_or (map (queue limit done) lines) stream) (sym empty) ∙ at_map (queue limit done) lines stream [] in
    map-set (queue limit done) lines stream (filled done (line_at lines stream) ++ x ∷ [])
    ∙ ap (λ (l : List (Option X)). set (map (queue limit done) lines) stream (buffer l (limit + 1))) (waits_more done (line_at lines stream) x)
    ∙ ap (λ (q : Buffer (Option X)). set (map (queue limit done) lines) stream (pushed x q)) (sym here)

-- a line goes beyond a scan if something waits of it
beyond : (n k limit : ℕ) → nat_lt (n + limit) k ≡ nat_lt limit (k - n)
beyond n k limit = grind (arith, nat_tests)

beyond_now : (n k : ℕ) → nat_lt n k ≡ nat_lt 0 (k - n)
beyond_now n k = grind (arith, nat_tests)

same_all : {X : Type 0} (limit done : ℕ) (lines : List (List (Option X))) → list_all (λ line. nat_lt done (length line)) lines ≡ all_wait (map (queue limit done) lines)
same_all limit done [] = refl
same_all limit done (line ∷ lines) =
    ap (λ b. b && list_all (λ l. nat_lt done (length l)) lines) (beyond_now done (length line) ∙ ap (nat_lt 0) (sym (length-drop done line)))
    ∙ ap (λ b. nat_lt 0 (length (drop done line)) && b) (same_all limit done lines)

same_any : {X : Type 0} (limit done : ℕ) (lines : List (List (Option X))) → list_any (λ line. nat_lt (done + limit) (length line)) lines ≡ one_waits_long limit (map (queue limit done) lines)
same_any limit done [] = refl
same_any limit done (line ∷ lines) =
    ap (λ b. b || list_any (λ l. nat_lt (done + limit) (length l)) lines) (beyond done (length line) limit ∙ ap (nat_lt limit) (sym (length-drop done line)))
    ∙ ap (λ b. nat_lt limit (length (drop done line)) || b) (same_any limit done lines)

pub same_ready : {X : Type 0} (limit done : ℕ) (lines : List (List (Option X))) → is_complete limit done lines ≡ is_ready limit (map (queue limit done) lines)
same_ready limit done lines =
    ap (λ b. b || list_any (λ l. nat_lt (done + limit) (length l)) lines) (same_all limit done lines)
    ∙ ap (λ b. all_wait (map (queue limit done) lines) || b) (same_any limit done lines)

-- the queues after the first scan
queue_more : {X : Type 0} (limit done : ℕ) (line : List (Option X)) → queue limit (suc done) line ≡ popped (queue limit done line)
queue_more {X = X} limit done line = ap (λ (l : List (Option X)). buffer l (limit + 1)) (ap (λ n. drop n line) (let e : suc done ≡ done + 1 = omega arith in e) ∙ sym (drop-drop 1 done line))

pub queues_more : {X : Type 0} (limit done : ℕ) (lines : List (List (Option X))) → map (queue limit (suc done)) lines ≡ map popped (map (queue limit done) lines)
queues_more limit done [] = refl
queues_more limit done (line ∷ lines) =
    ap (λ (q : Buffer (Option _)). q ∷ map (queue limit (suc done)) lines) (queue_more limit done line) ∙ ap (λ (qs : List (Buffer (Option _))). popped (queue limit done line) ∷ qs) (queues_more limit done lines)

-- the first scan that waits
head_is : {X : Type 0} (limit done : ℕ) (line : List (Option X)) → head (queue limit done line) ≡ get_or line done None
head_is {X = X} limit done line = get_or-drop done line 0 None ∙ ap (λ n. get_or line n (gone {X = X})) (let e : done + 0 ≡ done = omega arith in e)

pub heads_are : {X : Type 0} (limit done : ℕ) (lines : List (List (Option X))) → map head (map (queue limit done) lines) ≡ scan lines done
heads_are limit done [] = refl
heads_are {X = X} limit done (line ∷ lines) =
    ap (λ (x : Option X). x ∷ map head (map (queue limit done) lines)) (head_is limit done line) ∙ ap (λ (xs : List (Option X)). get_or line done None ∷ xs) (heads_are limit done lines)

-- what is complete stays as it is
filled_same : {X : Type 0} (n k : ℕ) (line : List (Option X)) (long : Bool) → nat_lt k (length line) ≡ long → k < n → get_or (filled n line) k None ≡ get_or line k None
filled_same {X = X} n k line true e h = get_or_append_left line (replicate (n - length line) None) None k (ltb-true k (length line) e)
filled_same {X = X} n k line false e h =
    let past = ltb-false k (length line) e in
    get_or-append_right line (replicate (n - length line) None) (length line) k None refl past
    ∙ get_or-replicate (n - length line) (k - length line) None None (omega (arith, past, h))
    ∙ sym (get_or_past line k None past)

cell_same : {X : Type 0} (n k : ℕ) (line : List (Option X)) (x : Option X) → k < n → get_or (filled n line ++ x ∷ []) k None ≡ get_or line k None
cell_same n k line x h =
    let least = filled_least n line in
    get_or_append_left (filled n line) (x ∷ []) None k (omega (arith, least, h)) ∙ filled_same n k line _ refl h

scan_same : {X : Type 0} (n k stream : ℕ) (x : Option X) (lines : List (List (Option X))) → k < n → scan (set lines stream (filled n (line_at lines stream) ++ x ∷ [])) k ≡ scan lines k
scan_same {X = X} n k stream x lines h =
    map-set (λ (line : List (Option X)). get_or line k None) lines stream (filled n (line_at lines stream) ++ x ∷ [])
    ∙ ap (set (scan lines k) stream) (cell_same n k (line_at lines stream) x h ∙ sym (at_map (λ (line : List (Option X)). get_or line k None) lines stream []))
    ∙ set-get_or (scan lines k) stream None

pub scans_same : {X : Type 0} (n k stream : ℕ) (x : Option X) (lines : List (List (Option X))) → k ≤ n → scans (set lines stream (filled n (line_at lines stream) ++ x ∷ [])) k ≡ scans lines k
scans_same n zero stream x lines h = refl
scans_same {X = X} n (suc k) stream x lines h =
    ap (λ (xs : List (Option X)). xs ++ scan (set lines stream (filled n (line_at lines stream) ++ x ∷ [])) k) (scans_same n k stream x lines (omega (arith, h)))
    ∙ ap (λ (xs : List (Option X)). scans lines k ++ xs) (scan_same n k stream x lines (omega (arith, h)))
