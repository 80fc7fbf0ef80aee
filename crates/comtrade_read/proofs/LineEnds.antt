-- The carriage return at the end of a line.
use Rattle.std.proofs.Common.{◌≡◌, ℕ, ◌+◌, ◌-◌, Bool, true, false, eqb, get_or, length-append, List, [], ◌∷◌, ◌++◌, length, map, refl, ap, ◌∙◌, arith}
use Rattle.std.specs.Prelude.{◌≢◌}
use Rattle.std.specs.List.{join_with_byte}
use Rattle.std.proofs.lemmas.List.{take_at, append-nil, get_or_at, get_or-append-add}
use Rattle.std.proofs.lemmas.List.Elements.{All-from_recursion}
use Rattle.comtrade_values.specs.Lines.{without_cr}
use Rattle.comtrade_read.specs.Joined.{HasNone, field_bytes, Line, carriage_return}

-- the last byte, if there is one, isn't a carriage return
abbrev pub HasNoReturn : List ℕ → Type 0
HasNoReturn xs = eqb (get_or xs (length xs - 1) 0) 13 ≡ false

-- the same of the last field
abbrev pub EndsPlain : List (List ℕ) → Type 0
EndsPlain [] = Unit {0}
EndsPlain (f ∷ []) = HasNoReturn f
EndsPlain (f ∷ g ∷ fs) = EndsPlain (g ∷ fs)

-- the last line isn't one empty field
abbrev pub EndsFull : List (List (List ℕ)) → Type 0
EndsFull [] = Unit {0}
EndsFull (l ∷ []) = l ≢ [] ∷ []
EndsFull (l ∷ k ∷ ls) = EndsFull (k ∷ ls)

abbrev pub Bodies : List Line → List (List ℕ)
Bodies ls = map (λ l. join_with_byte 44 (map field_bytes (l.first ∷ l.rest))) ls

pub return_none : (xs : List ℕ) → HasNone 13 xs → HasNoReturn xs
return_none [] h = refl
return_none (x ∷ xs) h = All-from_recursion (λ b. eqb b 13 ≡ false) (x ∷ xs) h (length (x ∷ xs) - 1) 0 (omega arith)

-- the last byte of ys, where it has one, is that of xs ++ ys
pub return-back : (xs : List ℕ) (c : ℕ) (ys : List ℕ) → HasNoReturn (c ∷ ys) → HasNoReturn (xs ++ c ∷ ys)
return-back xs c ys h =
    let at : length (xs ++ c ∷ ys) - 1 ≡ length xs + (length (c ∷ ys) - 1) = omega (arith, length-append xs (c ∷ ys)) in
    rw (at, get_or-append-add xs (c ∷ ys) (length (c ∷ ys) - 1) 0) h

pub return-append : (xs ys : List ℕ) → HasNoReturn xs → HasNoReturn ys → HasNoReturn (xs ++ ys)
return-append xs [] h k = rw append-nil h
return-append xs (y ∷ ys) h k = return-back xs y ys k

pub end_off : (xs : List ℕ) (cr : Bool) → HasNoReturn xs → without_cr (xs ++ carriage_return cr) ≡ xs
end_off xs true h =
    let at : length (xs ++ 13 ∷ []) - 1 ≡ length xs = omega (arith, length-append xs (13 ∷ [])) in
    rw (at, get_or_at xs 13 [] 0 (length xs) refl) (take_at xs (13 ∷ []) (length xs) refl)
end_off xs false h = ap without_cr (append-nil xs) ∙ rw h refl
