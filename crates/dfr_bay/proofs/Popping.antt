-- The oldest samples leave, queue after queue.
use Rattle.std.proofs.Common.{◌≡◌, ◌∙◌, sym, ap, ℕ, ◌+◌, ◌<◌, List, [], ◌∷◌, ◌++◌, length, map, take, drop, set, get_or, Option, arith, append_assoc}
use Rattle.std.proofs.lemmas.List.{map-append, length-map, length-take-le, take_more, drop_more, get_or_at, set_at}
use Rattle.circular_buffer.specs.Buffer.{Buffer}
use Rattle.dfr_bay.specs.Waiting.{head, popped}

front_long : {X : Type 0} (old : List (Buffer (Option X))) (i : ℕ) → i < length old → length (map popped (take i old)) ≡ i
front_long old i lt = length-map (take i old) popped ∙ length-take-le i old (omega arith)

opened : {X : Type 0} (old new : List (Buffer (Option X))) (i : ℕ) (q : Buffer (Option X)) → i < length old → new ≡ map popped (take i old) ++ drop i old
    → new ≡ map popped (take i old) ++ (get_or old i q ∷ drop (i + 1) old)
opened {X = X} old new i q lt is = is ∙ ap (λ (us : List (Buffer (Option X))). map popped (take i old) ++ us) (drop_more old i q lt)

same_queue : {X : Type 0} (old new : List (Buffer (Option X))) (i : ℕ) (q : Buffer (Option X)) → i < length old → new ≡ map popped (take i old) ++ drop i old → get_or new i q ≡ get_or old i q
same_queue {X = X} old new i q lt is =
    ap (λ (us : List (Buffer (Option X))). get_or us i q) (opened old new i q lt is) ∙ get_or_at (map popped (take i old)) (get_or old i q) (drop (i + 1) old) q i (front_long old i lt)

pub queues_more : {X : Type 0} (old new : List (Buffer (Option X))) (i : ℕ) (q r : Buffer (Option X))
    → i < length old → new ≡ map popped (take i old) ++ drop i old → r ≡ popped (get_or new i q)
    → set new i r ≡ map popped (take (i + 1) old) ++ drop (i + 1) old
queues_more {X = X} old new i q r lt is leaves =
    let front = map popped (take i old) in
    let y = get_or old i q in
    let rest = drop (i + 1) old in
    ap (λ (us : List (Buffer (Option X))). set us i r) (opened old new i q lt is)
    ∙ set_at front y rest r i (front_long old i lt)
    ∙ ap (λ (b : Buffer (Option X)). front ++ b ∷ rest) (leaves ∙ ap popped (same_queue old new i q lt is))
    ∙ sym (append_assoc front (popped y ∷ []) rest)
    ∙ ap (λ (us : List (Buffer (Option X))). us ++ rest) (sym (map-append popped (take i old) (y ∷ [])))
    ∙ ap (λ (us : List (Buffer (Option X))). map popped us ++ rest) (sym (take_more old i q lt))

pub heads_more : {X : Type 0} (old new : List (Buffer (Option X))) (i : ℕ) (q : Buffer (Option X)) (before scans after : List (Option X)) (x : Option X)
    → i < length old → new ≡ map popped (take i old) ++ drop i old → x ≡ head (get_or new i q)
    → scans ≡ before ++ map head (take i old) → after ≡ scans ++ x ∷ [] → after ≡ before ++ map head (take (i + 1) old)
heads_more {X = X} old new i q before scans after x lt is leaves so push =
    let y = get_or old i q in
    push
    ∙ ap (λ (v : Option X). scans ++ v ∷ []) (leaves ∙ ap head (same_queue old new i q lt is))
    ∙ ap (λ (us : List (Option X)). us ++ head y ∷ []) so
    ∙ append_assoc before (map head (take i old)) (head y ∷ [])
    ∙ ap (λ (us : List (Option X)). before ++ us) (sym (map-append head (take i old) (y ∷ [])))
    ∙ ap (λ (us : List (Buffer (Option X))). before ++ map head us) (sym (take_more old i q lt))
