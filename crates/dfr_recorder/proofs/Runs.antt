-- A run goes on by one step.
use Rattle.std.proofs.Common.{ℕ, zero, suc, ◌≡◌, ◌<◌, refl, sym, ap, ◌∙◌, List, [], ◌∷◌, ◌++◌, length, map, take, drop, arith}
use Rattle.std.specs.Prelude.{option_to_list, Some, None, Result, Ok, Err, is_err, OnOk, OnErr, true, false}
use Rattle.dfr_recorder.specs.Steps.{StepParts}
use Rattle.dfr_recorder.specs.Answers.{AnswerParts}
use Rattle.dfr_recorder.specs.History.{Opening}
use Rattle.dfr_recorder.specs.Kept.{Kept, kept, reply, IsStep}
use Rattle.dfr_recorder.specs.Run.{followed_by, replies, IsRun}

pub followed_by-push : (h ss : List StepParts) (s : StepParts) → followed_by h (ss ++ s ∷ []) ≡ s ∷ followed_by h ss
followed_by-push h [] s = refl
followed_by-push h (x ∷ ss) s = followed_by-push (x ∷ h) ss s

pub replies-push : (o : Opening) (h ss : List StepParts) (s : StepParts) → replies o h (ss ++ s ∷ []) ≡ replies o h ss ++ reply o (followed_by h ss) s ∷ []
replies-push o h [] s = refl
replies-push o h (x ∷ ss) s = ap (λ l. reply o h x ∷ l) (replies-push o (x ∷ h) ss s)

pub run_more : (old mid new : Kept) (ss : List StepParts) (answers : List AnswerParts) (s : StepParts) (a : AnswerParts) → IsRun old ss answers mid → IsStep mid s a new → IsRun old (ss ++ s ∷ []) (answers ++ a ∷ []) new
run_more old mid new ss answers s a r t o h e =
    let before = r o h e in
    let now = t o (followed_by h ss) before.1 in
    (replies-push o h ss s ∙ ap (λ l. l ++ reply o (followed_by h ss) s ∷ []) before.0 ∙ ap (λ x. answers ++ x ∷ []) now.0, ap (λ g. kept o g) (followed_by-push h ss s) ∙ now.1)

pub take_next : {X : Type 0} (n : ℕ) (xs : List X) (y : X) (ys : List X) → drop n xs ≡ y ∷ ys → take (suc n) xs ≡ take n xs ++ y ∷ []
take_next zero [] y ys e = cc
take_next zero (x ∷ xs) y ys e = cc
take_next (suc n) [] y ys e = cc
take_next (suc n) (x ∷ xs) y ys e = ap (λ l. x ∷ l) (take_next n xs y ys e)

pub drop_next : {X : Type 0} (n : ℕ) (xs : List X) (y : X) (ys : List X) → drop n xs ≡ y ∷ ys → drop (suc n) xs ≡ ys
drop_next zero [] y ys e = cc
drop_next zero (x ∷ xs) y ys e = cc
drop_next (suc n) [] y ys e = cc
drop_next (suc n) (x ∷ xs) y ys e = drop_next n xs y ys e

pub room_next : {X : Type 0} (n : ℕ) (xs : List X) (y : X) (ys : List X) → drop n xs ≡ y ∷ ys → n < length xs
room_next zero [] y ys e = absurd (cc)
room_next zero (x ∷ xs) y ys e = omega arith
room_next (suc n) [] y ys e = absurd (cc)
room_next (suc n) (x ∷ xs) y ys e = let h = room_next n xs y ys e in omega arith

pub map_push : {X Y : Type 0} (f : X → Y) (xs : List X) (x : X) → map f (xs ++ x ∷ []) ≡ map f xs ++ f x ∷ []
map_push f [] x = refl
map_push f (y ∷ xs) x = ap (λ l. f y ∷ l) (map_push f xs x)

pub take_then : {X : Type 0} (n : ℕ) (xs : List X) (y : X) (ys : List X) → drop n xs ≡ y ∷ ys → take n xs ++ option_to_list (Some y) ++ ys ≡ xs
take_then zero xs y ys e = sym e
take_then (suc n) [] y ys e = cc
take_then (suc n) (x ∷ xs) y ys e = ap (λ l. x ∷ l) (take_then n xs y ys e)

pub ok_gives : {X Y P : Type 0} (r : Result X Y) → is_err r ≡ false → OnOk r P → P
ok_gives (Ok x) e h = h
ok_gives (Err y) e h = absurd (cc)

pub err_gives : {X Y P : Type 0} (r : Result X Y) → is_err r ≡ true → OnErr r P → P
err_gives (Ok x) e h = absurd (cc)
err_gives (Err y) e h = h

pub nothing_in : {X : Type 0} (xs : List X) → length xs ≡ 0 → xs ≡ []
nothing_in [] e = refl
nothing_in (x ∷ xs) e = absurd (omega (arith, e))

pub run_none : (k : Kept) → IsRun k [] [] k
run_none k o h e = (refl, e)

pub take_rest : {X : Type 0} (n : ℕ) (xs rest : List X) → rest ≡ drop n xs → take n xs ++ option_to_list {X = X} None ++ rest ≡ xs
take_rest zero xs rest e = e
take_rest (suc n) [] rest e = e
take_rest (suc n) (x ∷ xs) rest e = ap (λ l. x ∷ l) (take_rest n xs rest e)
