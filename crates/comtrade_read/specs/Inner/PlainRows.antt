-- What a row in the writers' spelling says of its fields.
use Rattle.std.specs.Prelude.{◌≡◌, ℕ, List, ◌∷◌, ◌++◌, length, map, Option, Some}

-- the first field reads as x, and these stand after it
pub record IsNext {A : Type 0} (read : List ℕ → Option A) (fs : List (List ℕ)) (x : A) (behind : List (List ℕ)) : Type 0 where
  pub first : List ℕ
  pub cut : fs ≡ first ∷ behind
  pub says : read first ≡ Some x

-- the first fields, so many, read as the items, and these stand after them
pub record AreNext {A : Type 0} (read : List ℕ → Option A) (fs : List (List ℕ)) (count : ℕ) (items : List A) (behind : List (List ℕ)) : Type 0 where
  pub front : List (List ℕ)
  pub cut : fs ≡ front ++ behind
  pub says : map read front ≡ map (λ x. Some x) items
  pub many : length items ≡ count
