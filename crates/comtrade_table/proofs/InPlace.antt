-- A place of a list that is made place by place.
use Rattle.std.proofs.Common.{◌≡◌, ℕ, ◌+◌, ◌-◌, ◌*◌, ◌<◌, ◌≤◌, List, [], ◌∷◌, map, length, take, drop, drop-drop, Some, None, slice_get, zero, suc, refl, ap, sym, ◌∙◌, get_or, true, eqb, arith}
use Rattle.std.specs.List.{range_with_len}
use Rattle.std.proofs.lemmas.List.FromFn.{length-map-range_with_len, get_or-map-range_with_len}
use Rattle.std.specs.Prelude.{Ok}
use Rattle.comtrade_read.specs.Reads.{row_size}
use Rattle.comtrade_read.specs.Inner.BinaryRows.{row_at, rows_at, stamp_at}
use Rattle.byteorder.specs.Endian.{little_number}
use Rattle.std.proofs.lemmas.Bool.Decides.{nat_tests}
use Rattle.comtrade_format.specs.declared.file.Kind.TheVariants.{Binary}
use Rattle.comtrade_format.specs.Parts.{HeadParts, RowParts}
use Rattle.comtrade_read.specs.Head.{last_sample}
use Rattle.comtrade_read.specs.Reads.{ReadsRows}
use Rattle.comtrade_read.specs.Inner.RowValues.{rows_under}
use Rattle.comtrade_read.proofs.Outcomes.{part_is}
use Rattle.comtrade_read.proofs.BinaryNumbers.{AllBytes}
use Rattle.comtrade_read.proofs.OneFile.{rows_spelled}
use Rattle.comtrade_format.specs.Packed.{value_at, values_at, bit_of, bits_at}

there : {X : Type 0} (xs : List X) (k : ℕ) (d : X) → k < length xs → slice_get xs k ≡ Some (get_or xs k d)
there [] k d lt = absurd (omega arith)
there (x ∷ xs) zero d lt = refl
there (x ∷ xs) (suc k) d lt = there xs k d (omega arith)

pub past_end : {X : Type 0} (xs : List X) (k : ℕ) → length xs ≤ k → slice_get xs k ≡ None
past_end [] k le = refl
past_end (x ∷ xs) zero le = absurd (omega arith)
past_end (x ∷ xs) (suc k) le = past_end xs k (omega arith)

module _ {X : Type 0} (f : ℕ → X) where
  pub made_there : (n i : ℕ) → i < n → slice_get (map f (range_with_len 0 n)) i ≡ Some (f i)
  made_there n i lt =
      there (map f (range_with_len 0 n)) i (f i) (omega (arith, length-map-range_with_len f 0 n))
      ∙ ap Some (get_or-map-range_with_len f 0 n i i (f i) lt (omega arith))

  pub made_none : (n i : ℕ) → n ≤ i → slice_get (map f (range_with_len 0 n)) i ≡ None
  made_none n i le = past_end (map f (range_with_len 0 n)) i (omega (arith, length-map-range_with_len f 0 n))

-- a row by its parts
abbrev pub in_parts : ℕ → ℕ → List ℕ → RowParts
in_parts k m bytes = record {
  number = little_number 4 bytes;
  stamp = stamp_at (drop 4 bytes);
  values = values_at k (drop 8 bytes);
  bits = bits_at m (drop (8 + 2 * k) bytes);
}

the_parts : (k m : ℕ) (bytes : List ℕ) → row_at k m bytes ≡ in_parts k m bytes
unfolding row_at
the_parts k m bytes = refl

-- row by row, where the rows are known as `now`
module _ (k m : ℕ) (dat : List ℕ) (count size : ℕ) (now : List RowParts) (view : rows_at k m dat count ≡ now) (sized : size ≡ row_size k m) (row : ℕ) where
  pub row_there : row < count → slice_get now row ≡ Some (in_parts k m (drop (row * size) dat))
  row_there lt =
      ap (λ l. slice_get l row) (sym view) ∙ made_there (λ i. row_at k m (drop (i * row_size k m) dat)) count row lt
      ∙ ap (λ s. Some (row_at k m (drop (row * s) dat))) (sym sized) ∙ ap Some (the_parts k m (drop (row * size) dat))

  pub row_none : count ≤ row → slice_get now row ≡ None
  row_none le = ap (λ l. slice_get l row) (sym view) ∙ made_none (λ i. row_at k m (drop (i * row_size k m) dat)) count row le

module _ (count : ℕ) (bytes : List ℕ) (place : ℕ) where
  pub value_there : place < count → slice_get (values_at count bytes) place ≡ Some (value_at (drop (2 * place) bytes))
  value_there lt = made_there (λ i. value_at (drop (2 * i) bytes)) count place lt

  pub value_none : count ≤ place → slice_get (values_at count bytes) place ≡ None
  value_none le = made_none (λ i. value_at (drop (2 * i) bytes)) count place le

  pub bit_there : place < count → slice_get (bits_at count bytes) place ≡ Some (bit_of bytes place)
  bit_there lt = made_there (bit_of bytes) count place lt

  pub bit_none : count ≤ place → slice_get (bits_at count bytes) place ≡ None
  bit_none le = made_none (bit_of bytes) count place le

-- the bytes from a place on
pub behind : (n a b : ℕ) (dat : List ℕ) → n ≡ a + b → take (length dat - n) (drop n dat) ≡ drop b (drop a dat)
behind n a b dat e = part_is n dat ∙ ap (λ p. drop p dat) e ∙ sym (drop-drop b a dat)

pub behind_both : (n a b c : ℕ) (dat : List ℕ) → n ≡ a + b + c → take (length dat - n) (drop n dat) ≡ drop c (drop b (drop a dat))
behind_both n a b c dat e = behind n (a + b) c dat e ∙ ap (drop c) (sym (drop-drop b a dat))

-- bytes that are as long as their rows read to these rows
pub read_in_place : (h : HeadParts) (dat : List ℕ) → AllBytes dat → h.kind ≡ Binary → length dat ≡ last_sample h.rates * row_size (length h.analog) (length h.status)
    → ReadsRows h dat (rows_at (length h.analog) (length h.status) dat (last_sample h.rates))
read_in_place h dat b k all =
    let whole : eqb (length dat) (last_sample h.rates * row_size (length h.analog) (length h.status)) ≡ true = grind (arith, nat_tests) in
    let said : rows_under h dat ≡ Ok (rows_at (length h.analog) (length h.status) dat (last_sample h.rates)) = rw (k, whole) refl in
    rows_spelled h dat _ b said
