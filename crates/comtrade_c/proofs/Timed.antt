-- The times of rows, one after the other.
use Rattle.std.proofs.Common.{◌≡◌, ℕ, ◌+◌, ◌<◌, ◌≤◌, zero, suc, List, [], ◌∷◌, ◌++◌, length, get_or, take, drop, set, refl, sym, ap, ◌∙◌, append_assoc, arith, Option, pos, ℤ}
use Rattle.std.proofs.lemmas.Grind.{common_steps}
use Rattle.std.proofs.lemmas.List.{length-take, set_at, drop_more, take_more, get_or_default}
use Rattle.comtrade_c.specs.Times.{time_in, times_by}
use Rattle.comtrade_c.specs.Writing.{stamp_in}

pub long : (taken : ℕ → Option ℕ → Option ℕ) (row : ℕ) (stamps : List ℕ) → length (times_by taken row stamps) ≡ length stamps
long taken row [] = refl
long taken row (stamp ∷ more) = ap suc (long taken (row + 1) more)

-- the time at a place is that of the row
pub at_row :
    (taken : ℕ → Option ℕ → Option ℕ) (row k : ℕ) (stamps : List ℕ) → k < length stamps
    → get_or (times_by taken row stamps) k (pos 0) ≡ time_in (taken (row + k) (stamp_in (get_or stamps k 0)))
at_row taken row k [] below = absurd (omega arith)
at_row taken row zero (stamp ∷ more) below = ap (λ n. time_in (taken n (stamp_in stamp))) (omega arith)
at_row taken row (suc k) (stamp ∷ more) below =
    at_row taken (row + 1) k more (omega arith) ∙ ap (λ n. time_in (taken n (stamp_in (get_or more k 0)))) (omega arith)

-- by what says the same of every row
pub same_times :
    (taken other : ℕ → Option ℕ → Option ℕ) → ((row : ℕ) (stamp : Option ℕ) → taken row stamp ≡ other row stamp) → (row : ℕ) (stamps : List ℕ)
    → times_by taken row stamps ≡ times_by other row stamps
same_times taken other same row [] = refl
same_times taken other same row (stamp ∷ more) =
    ap (λ t. time_in t ∷ times_by taken (row + 1) more) (same row (stamp_in stamp))
    ∙ ap (λ ts. time_in (other row (stamp_in stamp)) ∷ ts) (same_times taken other same (row + 1) more)

-- a list that is laid over another has one item more of it
pub laid_next : {A : Type 0} (xs vs ws : List A) (i : ℕ) (y : A) → i < length xs → length ws ≡ length xs
    → vs ≡ take i xs ++ drop i ws → y ≡ get_or xs i y → set vs i y ≡ take (i + 1) xs ++ drop (i + 1) ws
laid_next xs vs ws i y below same laid is =
    let long : length (take i xs) ≡ i = omega (arith, length-take i xs) in
    let within : i < length ws = omega (arith, same) in
    ap (λ l. set l i y) (laid ∙ ap (λ l. take i xs ++ l) (drop_more ws i y within)) ∙ set_at (take i xs) _ _ y i long
    ∙ sym (append_assoc (take i xs) (y ∷ []) _)
    ∙ ap (λ l. l ++ drop (i + 1) ws) (ap (λ v. take i xs ++ v ∷ []) is ∙ sym (take_more xs i y below))

-- the time of one row more
pub timed_more :
    (taken : ℕ → Option ℕ → Option ℕ) (stamps : List ℕ) (vs ws : List ℤ) (k : ℕ) (y : ℤ) → k < length stamps → length ws ≡ length stamps
    → vs ≡ take k (times_by taken 0 stamps) ++ drop k ws → y ≡ time_in (taken k (stamp_in (get_or stamps k 0)))
    → set vs k y ≡ take (k + 1) (times_by taken 0 stamps) ++ drop (k + 1) ws
timed_more taken stamps vs ws k y below same laid is =
    let all = times_by taken 0 stamps in
    let within : k < length all = omega (arith, long taken 0 stamps, below) in
    let item : y ≡ get_or all k y =
    is ∙ ap (λ n. time_in (taken n (stamp_in (get_or stamps k 0)))) (omega arith) ∙ sym (at_row taken 0 k stamps below)
    ∙ get_or_default all k (pos 0) y within in
    laid_next all vs ws k y within (same ∙ sym (long taken 0 stamps)) laid item

-- no row is left
pub all_timed :
    (taken : ℕ → Option ℕ → Option ℕ) (stamps : List ℕ) (vs ws : List ℤ) (k : ℕ) → length stamps ≤ k → length ws ≡ length stamps
    → vs ≡ take k (times_by taken 0 stamps) ++ drop k ws → vs ≡ times_by taken 0 stamps
all_timed taken stamps vs ws k past same laid = grind (arith, common_steps, long taken 0 stamps)
