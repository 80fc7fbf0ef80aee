-- Courses that have ended, one after the other.
use Rattle.std.proofs.Common.{◌≡◌, ◌≢◌, ◌∙◌, sym, ap, ℕ, ◌+◌, ◌<◌, ◌≤◌, true, false, refl, List, [], ◌∷◌, drop, length, Some, None, arith, inl, inr}
use Rattle.std.specs.Prelude.{nat_le, ◌==◌, slice_get}
use Rattle.std.proofs.lemmas.List.{drop_more}
use Rattle.std.proofs.lemmas.Option.{slice_get_cases, slice_get_within, get_or_from_slice_get}
use Rattle.std.proofs.lemmas.Bool.Decides.{nat_tests}
use Rattle.dfr_clock.specs.Courses.{course_at}
use Rattle.dfr_clock.specs.Dating.{oldest_of_run}
use Rattle.dfr_clock.specs.declared.course.Course.{Course}

-- a course in force hides the older ones
pub course_here : (c : Course) (older : List Course) (q : ℕ) → c.at ≤ q → course_at c older q ≡ c
course_here c [] q h = refl
course_here c (d ∷ older) q h = let t : nat_le c.at q ≡ true = grind (arith, nat_tests) in rw t refl

course_next : (c d : Course) (older : List Course) (q : ℕ) → q < c.at → course_at c (d ∷ older) q ≡ course_at d older q
course_next c d older q h = let t : nat_le c.at q ≡ false = grind (arith, nat_tests) in rw t refl

-- the rest of a list, from an item on
rest_from : (past : List Course) (i : ℕ) (d : Course) → slice_get past i ≡ Some d → drop i past ≡ d ∷ drop (i + 1) past
rest_from past i d e = drop_more past i d (slice_get_within past i d e) ∙ ap (λ (x : Course). x ∷ drop (i + 1) past) (get_or_from_slice_get past i d d e)

pub course_older : (c d : Course) (past : List Course) (i q : ℕ) → q < c.at → slice_get past i ≡ Some d → course_at d (drop (i + 1) past) q ≡ course_at c (drop i past) q
course_older c d past i q h e = sym (ap (λ (rest : List Course). course_at c rest q) (rest_from past i d e) ∙ course_next c d (drop (i + 1) past) q h)

-- the same of the courses of a run
pub run_here : (c d : Course) (past : List Course) (i : ℕ) → d.run ≢ c.run → slice_get past i ≡ Some d → oldest_of_run c (drop i past) ≡ c
run_here c d past i h e =
    let t : (d.run == c.run) ≡ false = grind (arith, nat_tests) in
    ap (λ (rest : List Course). oldest_of_run c rest) (rest_from past i d e) ∙ rw t refl

pub run_older : (c d : Course) (past : List Course) (i : ℕ) → d.run ≡ c.run → slice_get past i ≡ Some d → oldest_of_run d (drop (i + 1) past) ≡ oldest_of_run c (drop i past)
run_older c d past i h e =
    let t : (d.run == c.run) ≡ true = grind (arith, nat_tests) in
    let next : oldest_of_run c (d ∷ drop (i + 1) past) ≡ oldest_of_run d (drop (i + 1) past) = rw t refl in
    sym (ap (λ (rest : List Course). oldest_of_run c rest) (rest_from past i d e) ∙ next)

-- an item that is inside is there
pub none_inside : (past : List Course) (i : ℕ) → slice_get past i ≡ None → i < length past → ⊥
none_inside past i e h =
    elim (slice_get_cases past i).1 [
      | inl w ↦ absurd (cc (w.2, e))
      | inr w ↦ omega (arith, w.0)
    ]
