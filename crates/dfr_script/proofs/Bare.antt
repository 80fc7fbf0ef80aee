-- A text whose first byte is no blank isn't bare.
use Rattle.std.proofs.Common.{◌≡◌, ℕ, ◌<◌, ◌≤◌, get_or, Bool, true, false, List, [], ◌∷◌, length, reverse, ne_eqb, refl, arith}
use Rattle.std.proofs.lemmas.List.{length-reverse}
use mathlib.Core.List.{reverse_aux}
use Rattle.comtrade_values.specs.Spelling.{is_blank, trim_start}
use Rattle.comtrade_values.specs.Lines.{is_blank_line}

more : (t : Bool) (x : ℕ) (acc : List ℕ) → is_blank x ≡ t → 0 < length (trim_start acc) → 0 < length (trim_start (x ∷ acc))
more true x acc e some = rw e some
more false x acc e some = rw e (omega arith)

-- what is left of a text stays, whatever stands before it
kept : (xs acc : List ℕ) → 0 < length (trim_start acc) → 0 < length (trim_start (reverse_aux xs acc))
kept [] acc some = some
kept (x ∷ xs) acc some = kept xs (x ∷ acc) (more (is_blank x) x acc refl some)

first_stays : (b : ℕ) (bs : List ℕ) → is_blank b ≡ false → is_blank_line (b ∷ bs) ≡ false
first_stays b bs solid =
    let one : 0 < length (trim_start (b ∷ [])) = rw solid (omega arith) in
    let some : 0 < length (trim_start (reverse (b ∷ bs))) = kept bs (b ∷ []) one in
    rw (solid, length-reverse (trim_start (reverse (b ∷ bs)))) (ne_eqb (length (trim_start (reverse (b ∷ bs)))) 0 (λ e. omega (arith, some, e)))

pub solid_first : (text : List ℕ) → 1 ≤ length text → is_blank (get_or text 0 0) ≡ false → is_blank_line text ≡ false
solid_first [] some solid = absurd (omega arith)
solid_first (b ∷ bs) some solid = first_stays b bs solid
