-- Lists whose items are numbered from n.
use Rattle.std.specs.Prelude.{ℕ, ◌+◌, Option, None, List, [], ◌∷◌}
use Rattle.comtrade_values.specs.Faults.{◌or◌}

-- the first answer that f gives of an item and its number, counted from n
abbrev pub first_from : {X F : Type 0} → (ℕ → X → Option F) → ℕ → List X → Option F
first_from f n [] = None
first_from f n (x ∷ xs) = f n x or first_from f (n + 1) xs

-- each item with its number, counted from n, as f makes it
abbrev pub numbered : {X Y : Type 0} → (ℕ → X → Y) → ℕ → List X → List Y
numbered f n [] = []
numbered f n (x ∷ xs) = f n x ∷ numbered f (n + 1) xs
