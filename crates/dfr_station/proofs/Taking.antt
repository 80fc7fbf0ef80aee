-- Which losses are taken.
use Rattle.std.proofs.Common.{◌≡◌, true, false, List, [], ◌∷◌, Option, Some, None, refl}
use Rattle.std.specs.Prelude.{is_some}
use Rattle.dfr_station.specs.declared.losses.Losses.{Losses}
use Rattle.dfr_station.specs.Reported.{Takes}

pub none_there : (o : Option Losses) (xs : List (Option Losses)) (r : Option Losses) (ys : List (Option Losses)) → is_some o ≡ false → Takes xs r ys → Takes (o ∷ xs) r (o ∷ ys)
none_there None xs r ys none rest = (ys, refl, rest)
none_there (Some l) xs r ys none rest = absurd (cc none)

pub some_there : (o : Option Losses) (xs : List (Option Losses)) (r p : Option Losses) → is_some o ≡ true → r ≡ o → p ≡ None → Takes (o ∷ xs) r (p ∷ xs)
some_there None xs r p some is gone = absurd (cc some)
some_there (Some l) xs r p some is gone = (is, rw gone refl)

pub last_there : (o r p : Option Losses) → r ≡ o → p ≡ None → Takes (o ∷ []) r (p ∷ [])
last_there None r p is gone = ([], rw gone refl, (is, refl))
last_there (Some l) r p is gone = (is, rw gone refl)
