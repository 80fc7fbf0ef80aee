-- Rows in the writers' spelling are rows by the full rule.
use Rattle.std.proofs.Common.{◌≡◌, ℕ, suc, ◌+◌, ◌<◌, List, [], ◌∷◌, ◌++◌, length, take, drop, Bool, true, false, cond, eqb, ltb, Option, Some, refl, sym, ap, ◌∙◌, arith, append_assoc, length-append, ◌*◌, ◌⊎◌, ⊎_elim, set, slice_index}
use Rattle.std.specs.Prelude.{◌==◌, Ok, ℤ, pos, negsuc, option_map}
use Rattle.std.proofs.lemmas.Bool.{lt-ltb, ltb-true, ltb-false}
use Rattle.std.proofs.lemmas.List.{append-nil, map-append, drop_more, drop_all, take_all, take_more_set}
use Rattle.std.proofs.lemmas.Bool.Decides.{nat_tests}
use Rattle.comtrade_values.specs.Spelling.{whole_number}
use Rattle.comtrade_values.specs.Lines.{fields}
use Rattle.comtrade_values.specs.PlainNumbers.{Begins, fields_behind}
use Rattle.comtrade_values.specs.PlainBits.{AreBits}
use Rattle.comtrade_values.proofs.PlainBits.{bit_digit, bits_from, next_bit}
use Rattle.dfr_channels.specs.declared.scan.Reading.{Reading}
use Rattle.comtrade_values.specs.Fields.{within, up_to, bit}
use Rattle.comtrade_read.specs.Fields.{natural, small}
use Rattle.comtrade_read.specs.Ascii.{stamp, value, reading, row_line}
use Rattle.comtrade_read.specs.Inner.PlainRows.{IsNext, AreNext}
use Rattle.comtrade_read.proofs.RowLine.{row_made}

pub none_yet : {A : Type 0} (read : List ℕ → Option A) (fs : List (List ℕ)) → AreNext read fs 0 [] fs
none_yet read fs = record { front = []; cut = refl; says = refl; many = refl }

pub one_more : {A : Type 0} (read : List ℕ → Option A) (fs : List (List ℕ)) (i : ℕ) (items : List A) (behind : List (List ℕ)) (x : A) (left : List (List ℕ)) → AreNext read fs i items behind → IsNext read behind x left
    → AreNext read fs (i + 1) (items ++ x ∷ []) left
one_more read fs i items behind x left a n = record {
  front = a.front ++ n.first ∷ [];
  cut = a.cut ∙ ap (λ (l : List (List ℕ)). a.front ++ l) n.cut ∙ sym (append_assoc a.front (n.first ∷ []) left);
  says = map-append read a.front (n.first ∷ []) ∙ rw (a.says, n.says) (sym (map-append (λ y. Some y) items (x ∷ [])));
  many = omega (arith, length-append items (x ∷ []), a.many);
}

some : (n : ℕ) → eqb (suc n) 0 ≡ false
some n = grind (arith, nat_tests)

pub stamp_read : (fs : List (List ℕ)) (n : ℕ) (left : List (List ℕ)) → IsNext (natural 9999999999) fs n left → IsNext stamp fs (Some n) left
unfolding stamp natural
stamp_read fs n left r = record { first = r.first; cut = r.cut; says = says r.first r.says }
  where
    says : (f : List ℕ) → natural 9999999999 f ≡ Some n → stamp f ≡ Some (Some n)
    says [] e = absurd cc
    says (b ∷ bs) e = rw (some (length bs), e) refl

pub natural_read : (text : List ℕ) (z : ℤ) (n : ℕ) (behind : Option (List ℕ)) → Begins text z behind → up_to 9999999999 (Some z) ≡ Some n → IsNext (natural 9999999999) (fields text) n (fields_behind behind)
unfolding natural
natural_read text z n behind b e = record { first = b.field; cut = b.cut; says = rw b.says e }

pub value_read : (text : List ℕ) (z : ℤ) (x : Reading) (behind : Option (List ℕ)) → Begins text z behind → option_map reading (within (negsuc 99998) (pos 99999) (Some z)) ≡ Some x
    → IsNext value (fields text) x (fields_behind behind)
unfolding value small
value_read text z x behind b e = record { first = b.field; cut = b.cut; says = says b.field b.says }
  where
    says : (f : List ℕ) → whole_number f ≡ Some z → value f ≡ Some x
    says [] h = absurd cc
    says (c ∷ cs) h = rw (some (length cs), h) e

module _ (text : List ℕ) (n : ℕ) (are : AreBits text n) (exact : length text + 1 ≡ 2 * n) where
  pub first_bit : (slot : List Bool) → AreNext bit (fields text) 0 (take 0 slot) (bits_from text n 0)
  first_bit slot = rw (lt-ltb 0 n (omega arith)) (none_yet bit (fields text))

  -- one bit more is written
  pub written : (slot : List Bool) (i : ℕ) → i < length slot → i < n → AreNext bit (fields text) i (take i slot) (bits_from text n i)
      → AreNext bit (fields text) (i + 1) (take (i + 1) (set slot i (slice_index text (2 * i) == 49))) (bits_from text n (i + 1))
  written slot i room less before =
      let b : Bool = slice_index text (2 * i) == 49 in
      let next : IsNext bit (bits_from text n i) b (bits_from text n (i + 1)) = record { first = slice_index text (2 * i) ∷ []; cut = next_bit text n are exact i less; says = bit_digit (slice_index text (2 * i)) (are.digits i less) } in
      rw (take_more_set slot i b room) (one_more bit (fields text) i (take i slot) (bits_from text n i) b (bits_from text n (i + 1)) before next)

  pub last_bit : (slot : List Bool) → length slot ≡ n → AreNext bit (fields text) n (take n slot) (bits_from text n n) → AreNext bit (fields text) n slot []
  last_bit slot len read = rw (lt-leb-no n, take_all n slot (omega (arith, len))) at read
    where
      lt-leb-no : (k : ℕ) → ltb k k ≡ false
      lt-leb-no k = grind (arith, nat_tests)

pub row_of_fields : (fs gs hs ks : List (List ℕ)) (k m number stamped : ℕ) (values : List Reading) (bits : List Bool)
    → IsNext (natural 9999999999) fs number gs → IsNext stamp gs (Some stamped) hs → AreNext value hs k values ks → AreNext bit ks m bits []
    → row_line k m fs ≡ Ok (record { number = number; stamp = Some stamped; values = values; bits = bits })
row_of_fields fs gs hs ks k m number stamped values bits a b v c =
    let rest : hs ≡ v.front ++ c.front = v.cut ∙ ap (λ (l : List (List ℕ)). v.front ++ l) (c.cut ∙ append-nil c.front) in
    let is : fs ≡ a.first ∷ b.first ∷ (v.front ++ c.front) = a.cut ∙ ap (λ (l : List (List ℕ)). a.first ∷ l) (b.cut ∙ ap (λ (l : List (List ℕ)). b.first ∷ l) rest) in
    rw (is, ← v.many, ← c.many) (row_made a.first b.first v.front c.front (record { number = number; stamp = Some stamped; values = values; bits = bits }) a.says b.says v.says c.says)
