-- The scans of a bay, one after the other.
use Rattle.std.proofs.Common.{◌≡◌, ◌∙◌, sym, ap, refl, ℕ, zero, suc, ◌+◌, ◌-◌, ◌*◌, ◌<◌, ◌≤◌, Bool, true, false, inl, inr, List, [], ◌∷◌, ◌++◌, length, take, drop, map, set, Option, None, Some, arith, append_assoc, append-nil}
use Rattle.std.specs.Prelude.{nat_lt, replicate, slice_index_or, slice_set, if◌then◌else◌}
use Rattle.std.proofs.lemmas.Bool.{cases_Bool}
use Rattle.std.proofs.lemmas.List.{length-append, length-map, length-set, length-drop, length-replicate, take-append-le, drop-append-le, drop-drop}
use borrow.Author.Tests.{ltb-true, ltb-false}
use Rattle.std.proofs.lemmas.Bool.Decides.{nat_tests}
use Rattle.dfr_bay.specs.declared.settings.Settings.{Settings}
use Rattle.dfr_bay.specs.declared.arrival.Arrival.{Arrival}
use Rattle.dfr_bay.specs.declared.arrival.Arrival.TheVariants.{Taken, Restarted, Repeated, Late, Astray, Invalid}
use Rattle.dfr_bay.specs.Lines.{Frame, Board, with_place, with_lost, with_frame, arrival, after_arrival, board, scan, scans, source, filled, line_at, first_count}
use Rattle.dfr_bay.specs.Waiting.{Kept, kept, queue}
use Rattle.dfr_capture.specs.Rows.{of_scans, each_scan}

short : (a b : ℕ) → a < b → nat_lt a b ≡ true
short a b h = grind (arith, nat_tests)

long : (a b : ℕ) → b ≤ a → nat_lt a b ≡ false
long a b h = grind (arith, nat_tests)

-- a scan less than whole gives nothing
pub none_left : {X Y : Type 0} (f : List X → List Y) (n left : ℕ) (xs : List X) → length xs < n → of_scans f n left xs ≡ []
unfolding of_scans
none_left f n zero xs h = refl
none_left f n (suc left) xs h = rw (short (length xs) n h) refl

-- what is left is enough, however much it is
pub enough : {X Y : Type 0} (f : List X → List Y) (n left right : ℕ) (xs : List X) → 1 ≤ n → length xs ≤ left → length xs ≤ right
    → of_scans f n left xs ≡ of_scans f n right xs
unfolding of_scans
enough f n zero right xs some a b = sym (none_left f n right xs (omega arith))
enough f n (suc left) zero xs some a b = none_left f n (suc left) xs (omega arith)
enough f n (suc left) (suc right) xs some a b =
    let l = length-drop n xs in
    ap (λ ys. if nat_lt (length xs) n then [] else f (take n xs) ++ ys) (enough f n left right (drop n xs) some (omega arith) (omega arith))

-- the first scan, and the others
pub each_more : {X Y : Type 0} (f : List X → List Y) (n : ℕ) (xs : List X) → 1 ≤ n → n ≤ length xs
    → each_scan f n xs ≡ f (take n xs) ++ each_scan f n (drop n xs)
unfolding of_scans
each_more f n xs some h =
    let l = length-drop n xs in
    let k : length xs ≡ suc (length xs - 1) = omega arith in
    enough f n (length xs) (suc (length xs - 1)) xs some (omega arith) (omega arith)
    ∙ rw (long (length xs) n h) (ap (λ ys. f (take n xs) ++ ys) (enough f n (length xs - 1) (length (drop n xs)) (drop n xs) some (omega arith) (omega arith)))

each_none : {X Y : Type 0} (f : List X → List Y) (n : ℕ) → each_scan f n [] ≡ []
unfolding of_scans
each_none f n = refl

-- k times n
abbrev pub times : (k n : ℕ) → ℕ
times zero n = 0
times (suc k) n = n + times k n

-- whole scans, and then others
pub each_append : {X Y : Type 0} (f : List X → List Y) (n k : ℕ) (xs ys : List X) → 1 ≤ n → length xs ≡ times k n
    → each_scan f n (xs ++ ys) ≡ each_scan f n xs ++ each_scan f n ys
each_append f n zero [] ys some h = ap (λ zs. zs ++ each_scan f n ys) (sym (each_none f n))
each_append f n zero (x ∷ xs) ys some h = absurd (omega arith)
each_append {X = X} {Y = Y} f n (suc k) xs ys some h =
    let l : n ≤ length xs = omega arith in
    let d = length-drop n xs in
    let a = length-append xs ys in
    let first = ap (λ (zs : List X). f zs ++ each_scan f n (drop n (xs ++ ys))) (take-append-le n xs ys l) in
    let others = ap (λ (zs : List X). f (take n xs) ++ each_scan f n zs) (drop-append-le n xs ys l) in
    each_more f n (xs ++ ys) some (omega arith)
    ∙ first
    ∙ others
    ∙ ap (λ (zs : List Y). f (take n xs) ++ zs) (each_append f n k (drop n xs) ys some (omega arith))
    ∙ sym (append_assoc (f (take n xs)) (each_scan f n (drop n xs)) (each_scan f n ys))
    ∙ ap (λ (zs : List Y). zs ++ each_scan f n ys) (sym (each_more f n xs some l))

-- a board keeps its lines
place_lines : {X : Type 0} (limit stream : ℕ) (x : Option X) (b : Board X) → length (with_place limit stream x b).lines ≡ length b.lines
place_lines limit stream x b = length-set b.lines stream (filled b.done (line_at b.lines stream) ++ x ∷ [])

lost_lines : {X : Type 0} (limit stream lost : ℕ) (b : Board X) → length (with_lost limit stream lost b).lines ≡ length b.lines
lost_lines limit stream zero b = refl
lost_lines limit stream (suc lost) b = place_lines limit stream None (with_lost limit stream lost b) ∙ lost_lines limit stream lost b

abbrev begun_by : {X : Type 0} → Frame X → Board X → Board X
begun_by f b = record b { first = first_count b.first f.count; newest = slice_set b.newest f.stream (Some f.count); strays = 0 }

frame_lines : {X : Type 0} (s : Settings) (f : Frame X) (lost : ℕ) (b : Board X) → length (with_frame s f lost b).lines ≡ length b.lines
frame_lines s f lost b =
    place_lines s.limit f.stream (Some f.content) (with_lost s.limit f.stream lost (begun_by f b)) ∙ lost_lines s.limit f.stream lost (begun_by f b)

arrival_lines : {X : Type 0} (s : Settings) (a : Arrival) (f : Frame X) (b : Board X) → length (after_arrival s a f b).lines ≡ length b.lines
arrival_lines s (Taken lost) f b = frame_lines s f lost b
arrival_lines s (Restarted lost) f b = frame_lines s f lost b
arrival_lines s Repeated f b = refl
arrival_lines s Late f b = refl
arrival_lines s Astray f b = refl
arrival_lines s Invalid f b = refl

pub board_lines : {X : Type 0} (s : Settings) (n : ℕ) (us : List (Frame X)) → length (board s n us).lines ≡ n
board_lines {X = X} s n [] = length-replicate {A = List (Option X)} n []
board_lines s n (f ∷ us) = arrival_lines s (arrival s (board s n us) f) f (board s n us) ∙ board_lines s n us

scan_long : {X : Type 0} (lines : List (List (Option X))) (k : ℕ) → length (scan lines k) ≡ length lines
scan_long {X = X} lines k = length-map lines (λ (line : List (Option X)). slice_index_or line k None)

scans_long : {X : Type 0} (lines : List (List (Option X))) (k : ℕ) → length (scans lines k) ≡ times k (length lines)
scans_long lines zero = refl
scans_long lines (suc k) =
    let a = length-append (scans lines k) (scan lines k) in
    let m = scan_long lines k in
    let e = scans_long lines k in
    omega (arith, a, m, e)

-- so the scans of a board are whole
pub source_long : {X : Type 0} (s : Settings) (n : ℕ) (us : List (Frame X)) → length (source (board s n us)) ≡ times (board s n us).done n
source_long s n us = scans_long (board s n us).lines (board s n us).done ∙ ap (λ (k : ℕ). times (board s n us).done k) (board_lines s n us)

-- and a bay that keeps them has so many streams
pub kept_streams : {X : Type 0} (s : Settings) (n : ℕ) (us : List (Frame X)) (bay : Kept X) → kept s (board s n us) ≡ bay → length bay.queues ≡ n
kept_streams {X = X} s n us bay h =
    ap (λ (k : Kept X). length k.queues) (sym h) ∙ length-map (board s n us).lines (queue s.limit (board s n us).done) ∙ board_lines s n us

-- one scan more of a list
pub scan_more : {X Y : Type 0} (f : List X → List Y) (n at : ℕ) (xs part : List X) (before after : List Y) → 1 ≤ n → at + n ≤ length xs
    → part ≡ take n (drop at xs) → after ≡ before ++ f part → after ++ each_scan f n (drop (at + n) xs) ≡ before ++ each_scan f n (drop at xs)
scan_more {X = X} {Y = Y} f n at xs part before after some h is put =
    let l = length-drop at xs in
    let rest = each_scan f n (drop (at + n) xs) in
    let now : after ≡ before ++ f (take n (drop at xs)) = put ∙ ap (λ (p : List X). before ++ f p) is in
    ap (λ (zs : List Y). zs ++ rest) now
    ∙ append_assoc before (f (take n (drop at xs))) rest
    ∙ ap (λ (ys : List X). before ++ (f (take n (drop at xs)) ++ each_scan f n ys)) (sym (drop-drop n at xs))
    ∙ ap (λ (zs : List Y). before ++ zs) (sym (each_more f n (drop at xs) some (omega arith)))

-- no whole scan is left
pub scan_end : {X Y : Type 0} (f : List X → List Y) (n at : ℕ) (xs : List X) (out : List Y) → length xs - at < n → out ++ each_scan f n (drop at xs) ≡ out
scan_end {Y = Y} f n at xs out h =
    let l = length-drop at xs in
    ap (λ (zs : List Y). out ++ zs) (none_left f n (length (drop at xs)) (drop at xs) (omega arith)) ∙ append-nil out
