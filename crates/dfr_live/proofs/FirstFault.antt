-- The first fault of several outcomes, found of two at a time.
use Rattle.std.proofs.Common.{◌≡◌, ◌≤◌, ◌⊎◌, List, [], ◌∷◌, ◌++◌, Result, Ok, Err, refl, sym, subst, inl, inr, arith}
use Rattle.std.specs.Prelude.{All, Contains, IsOk}
use Rattle.std.proofs.lemmas.List.Elements.{All-append, All-cons, All-contains, All-head, All-nil, All-tail, All-weaker, Contains-append_cases, Contains-append_left, Contains-append_right}
use Rattle.dfr_live.specs.declared.report.LiveFault.{LiveFault}
use Rattle.dfr_live.specs.Station.{Outcome, rank, IsNotBefore, GivesFirst}

abbrev IsFine : Outcome → Type 0
IsFine o = IsOk o

abbrev Has : List Outcome → LiveFault → Type 0
Has os f = Contains {X = Outcome} os (Err f)

no_fault : (f : LiveFault) → IsFine (Err f) → ⊥
no_fault f h = cc

not_before_fine : (f : LiveFault) (o : Outcome) → IsFine o → IsNotBefore f o
not_before_fine f (Ok done) h = tt
not_before_fine f (Err g) h = absurd (no_fault g h)

not_before_either : (f g : LiveFault) → rank f ≤ rank g → (o : Outcome) → IsNotBefore g o → IsNotBefore f o
not_before_either f g l (Ok done) h = tt
not_before_either f g l (Err e) h = omega arith

-- what a list of one has is that one
alone : (o : Outcome) (f : LiveFault) → Has (o ∷ []) f → Err f ≡ o
alone o f h = All-contains (λ (x : Outcome). x ≡ o) (o ∷ []) (Err f) (All-cons (λ (x : Outcome). x ≡ o) o [] refl (All-nil (λ (x : Outcome). x ≡ o))) h

found_in : (xs rest : List Outcome) (f g : LiveFault) → Has xs f → (Has (Err f ∷ []) g ⊎ Has rest g) → Has (xs ++ rest) g
found_in xs rest f g h (inl at) =
    Contains-append_left xs rest (Err g) (subst (λ (o : Outcome). Contains xs o) (sym (alone (Err f) g at)) h)
found_in xs rest f g h (inr at) = Contains-append_right xs rest (Err g) at

found_after : (xs rest : List Outcome) (o : Outcome) (g : LiveFault) → IsFine o → (Has (o ∷ []) g ⊎ Has rest g) → Has (xs ++ rest) g
found_after xs rest o g h (inl at) = absurd (no_fault g (subst IsFine (sym (alone o g at)) h))
found_after xs rest o g h (inr at) = Contains-append_right xs rest (Err g) at

-- the first of some, and then the first of it and others, is the first of all
pub first_of_all : (xs rest : List Outcome) (r s : Outcome) → GivesFirst xs r → GivesFirst (r ∷ rest) s → GivesFirst (xs ++ rest) s
first_of_all xs rest (Ok d) (Ok e) a b = All-append IsFine xs rest a (All-tail IsFine (Ok d) rest b)
first_of_all xs rest (Err f) (Ok e) a b = absurd (no_fault f (All-head IsFine (Err f) rest b))
first_of_all xs rest (Ok d) (Err g) a b = (
  found_after xs rest (Ok d) g refl (Contains-append_cases {X = Outcome} (Ok d ∷ []) rest (Err g) b.0),
  All-append (IsNotBefore g) xs rest
      (All-weaker IsFine (IsNotBefore g) (not_before_fine g) xs a)
      (All-tail (IsNotBefore g) (Ok d) rest b.1),
)
first_of_all xs rest (Err f) (Err g) a b = (
  found_in xs rest f g a.0 (Contains-append_cases {X = Outcome} (Err f ∷ []) rest (Err g) b.0),
  All-append (IsNotBefore g) xs rest
      (All-weaker (IsNotBefore f) (IsNotBefore g) (not_before_either g f (All-head (IsNotBefore g) (Err f) rest b.1)) xs a.1)
      (All-tail (IsNotBefore g) (Err f) rest b.1),
)
