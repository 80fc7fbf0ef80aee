-- What is written of tables.
use Rattle.std.proofs.Common.{◌≡◌, ℕ, ◌+◌, ◌<◌, List, [], ◌∷◌, ◌++◌, length, get_or, take, drop, refl, sym, ap, ◌∙◌, append_assoc}
use Rattle.std.specs.Prelude.{ℤ}
use Rattle.std.proofs.lemmas.List.{at_drop_more}
use Rattle.comtrade_format.specs.declared.file.Rate.{Rate}
use Rattle.comtrade_format.specs.Parts.{RowParts}
use Rattle.comtrade_c.specs.Writing.{row, rows_from, ending}

-- the rows of what is left of the stamps are one row and the rows of the rest
pub next_row :
    (k m n i : ℕ) (rows : List RowParts) (stamps : List ℕ) (samples : List ℤ) (bits : List ℕ) → i < length stamps
    → (rows ++ row n (get_or stamps i 0) (take k samples) (take m bits) ∷ []) ++ rows_from k m (n + 1) (drop (i + 1) stamps) (drop k samples) (drop m bits)
    ≡ rows ++ rows_from k m n (drop i stamps) samples bits
next_row k m n i rows stamps samples bits below =
    append_assoc rows (row n (get_or stamps i 0) (take k samples) (take m bits) ∷ []) (rows_from k m (n + 1) (drop (i + 1) stamps) (drop k samples) (drop m bits))
    ∙ ap (λ more. rows ++ more) (sym (at_drop_more (λ ts. rows_from k m n ts samples bits) stamps i 0 below))

pub last_ends : (n : ℕ) (before : List Rate) (last : Rate) → ending n (before ++ last ∷ []) ≡ before ++ record last { endsamp = n } ∷ []
last_ends n [] last = refl
last_ends n (r ∷ []) last = refl
last_ends n (r ∷ s ∷ rs) last = ap (λ rates. r ∷ rates) (last_ends n (s ∷ rs) last)
