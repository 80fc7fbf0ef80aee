-- Bytes that are put behind others.
use Rattle.std.proofs.Common.{◌≡◌, ℕ, ◌+◌, ◌-◌, ◌≤◌, List, ◌++◌, length, take, drop, sym, ap, ◌∙◌, append_assoc, arith, length-append}
use Rattle.std.proofs.lemmas.List.{take_at, take-append-drop, length-take-le}

-- the first bytes that were put behind others
pub put_behind : (m n : ℕ) (front room after : List ℕ) → length front ≡ m → n ≤ length room → take (m + n - 0) (front ++ (room ++ after)) ≡ front ++ take n room
put_behind m n front room after all few =
    ap (λ r. take (m + n - 0) (front ++ (r ++ after))) (sym (take-append-drop n room))
    ∙ ap (λ r. take (m + n - 0) (front ++ r)) (append_assoc (take n room) (drop n room) after)
    ∙ ap (take (m + n - 0)) (sym (append_assoc front (take n room) (drop n room ++ after)))
    ∙ take_at (front ++ take n room) (drop n room ++ after) (m + n - 0) (omega (arith, length-append front (take n room), length-take-le n room few))
