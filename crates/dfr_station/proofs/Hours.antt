-- So many pairs of each hour.
use Rattle.std.proofs.Common.{◌≡◌, ◌≢◌, ℕ, ◌+◌, ◌<◌, true, false, refl, sym, ap, ◌∙◌, List, [], ◌∷◌, arith, inl, inr}
use Rattle.std.specs.Prelude.{◌==◌, nat_lt}
use Rattle.std.proofs.lemmas.Bool.Decides.{nat_tests, eqb_tells}
use Rattle.dfr_station.specs.Storms.{row, NoneAfter, InOrder, pairs_of, MostLaw}

same_hour : (hour newest : ℕ) (hours : List ℕ) → newest ≡ hour → pairs_of hour (newest ∷ hours) ≡ pairs_of hour hours + 1
same_hour hour newest hours e = let t : (newest == hour) ≡ true = grind (arith, nat_tests) in rw t refl

other_hour : (hour newest : ℕ) (hours : List ℕ) → newest ≢ hour → pairs_of hour (newest ∷ hours) ≡ pairs_of hour hours
other_hour hour newest hours e = let t : (newest == hour) ≡ false = grind (arith, nat_tests) in rw t refl

same_row : (hour newest : ℕ) (hours : List ℕ) → newest ≡ hour → row hour (newest ∷ hours) ≡ row hour hours + 1
same_row hour newest hours e = let t : (newest == hour) ≡ true = grind (arith, nat_tests) in rw t refl

-- an hour after all of them has no pair
later_none : (hour last : ℕ) (hours : List ℕ) → last < hour → NoneAfter last hours → pairs_of hour hours ≡ 0
later_none hour last [] less none = refl
later_none hour last (newest ∷ hours) less none =
    other_hour hour newest hours (λ e. omega (arith, none.0)) ∙ later_none hour last hours less none.1

-- the pairs of the last hour are those in a row
in_a_row : (hour : ℕ) (hours : List ℕ) → NoneAfter hour hours → InOrder hours → pairs_of hour hours ≡ row hour hours
in_a_row hour [] none order = refl
in_a_row hour (newest ∷ hours) none order =
    elim (eqb_tells newest hour) [
      | inl is ↦ same_hour hour newest hours is.1 ∙ ap (λ n. n + 1) (in_a_row hour hours none.1 order.1) ∙ sym (same_row hour newest hours is.1)
      | inr not ↦
          let t : (newest == hour) ≡ false = grind (arith, nat_tests) in
          other_hour hour newest hours not.1 ∙ later_none hour newest hours (omega (arith, none.0, not.1)) order.0 ∙ rw t refl
    ]

below : (most n : ℕ) → nat_lt n most ≡ true → n < most
below most n e = grind (arith, nat_tests)

pub most_law : MostLaw
most_law most [] admitted order hour = omega arith
most_law most (newest ∷ hours) admitted order hour =
    elim (eqb_tells newest hour) [
      | inl is ↦
          let few : row newest hours < most = below most (row newest hours) admitted.0 in
          let all : pairs_of newest hours ≡ row newest hours = in_a_row newest hours order.0 order.1 in
          rw (same_hour hour newest hours is.1, ← is.1) (omega (arith, few, all))
      | inr not ↦ rw (other_hour hour newest hours not.1) (most_law most hours admitted.1 order.1 hour)
    ]
