-- Five lists behind another, one by one.
use Rattle.std.proofs.Common.{◌≡◌, ◌∙◌, ℕ, List, ◌++◌, ap, append_assoc}

five : (xs a b c d e : List ℕ) → xs ++ a ++ b ++ c ++ d ++ e ≡ xs ++ (a ++ b ++ c ++ d ++ e)
five xs a b c d e =
    ap (λ (l : List ℕ). l ++ c ++ d ++ e) (append_assoc xs a b)
    ∙ ap (λ (l : List ℕ). l ++ d ++ e) (append_assoc xs (a ++ b) c)
    ∙ ap (λ (l : List ℕ). l ++ e) (append_assoc xs (a ++ b ++ c) d)
    ∙ append_assoc xs (a ++ b ++ c ++ d) e

pub written : (xs a b c d e p q r s t : List ℕ) → p ≡ xs ++ a → q ≡ p ++ b → r ≡ q ++ c → s ≡ r ++ d → t ≡ s ++ e → t ≡ xs ++ (a ++ b ++ c ++ d ++ e)
written xs a b c d e p q r s t hp hq hr hs ht =
    let two : q ≡ xs ++ a ++ b = hq ∙ ap (λ (l : List ℕ). l ++ b) hp in
    let three : r ≡ xs ++ a ++ b ++ c = hr ∙ ap (λ (l : List ℕ). l ++ c) two in
    let four : s ≡ xs ++ a ++ b ++ c ++ d = hs ∙ ap (λ (l : List ℕ). l ++ d) three in
    ht ∙ ap (λ (l : List ℕ). l ++ e) four ∙ five xs a b c d e
