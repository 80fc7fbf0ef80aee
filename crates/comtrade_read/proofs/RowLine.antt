-- A row of ASCII data: what its fields say, how it ends, and how a loop reads it.
use Rattle.std.proofs.Common.{◌≡◌, ℕ, zero, suc, ◌+◌, true, eqb, List, [], ◌∷◌, ◌++◌, length, map, get_or, drop, Option, Some, None, refl, sym, ap, ◌∙◌, arith, append_assoc, length-append}
use Rattle.std.specs.Prelude.{◌≢◌, Bool, Result, Ok, Err}
use Rattle.std.proofs.Math.Seq.{drop-append_seam}
use Rattle.std.proofs.lemmas.Bool.Decides.{nat_tests}
use Rattle.std.proofs.lemmas.List.{append-nil, drop-drop, get_or-drop, length-map}
use Rattle.comtrade_values.specs.Lines.{field}
use Rattle.comtrade_values.specs.Fields.{bit}
use Rattle.dfr_channels.specs.declared.scan.Reading.{Reading}
use Rattle.comtrade_format.specs.Parts.{RowParts}
use Rattle.comtrade_read.specs.Line.{Fault, number, need_each}
use Rattle.comtrade_read.specs.Fields.{natural}
use Rattle.comtrade_read.specs.Ascii.{stamp, value, row_line}
use Rattle.comtrade_read.proofs.LineEnds.{EndsPlain}
use Rattle.comtrade_read.proofs.HeadSays.{many_said, need_said}
use Rattle.comtrade_read.proofs.NoReturn.{no_return, bit_plain, stamp_plain, value_plain}

-- what follows in a row from its bits, and from its values
abbrev pub with_bits : ℕ → Option ℕ → List Reading → List Bool → Result RowParts Fault
with_bits n t values bits = Ok (record { number = n; stamp = t; values = values; bits = bits })

abbrev pub with_values : ℕ → ℕ → List (List ℕ) → ℕ → Option ℕ → List Reading → Result RowParts Fault
with_values k m fs n t values = need_each bit (2 + k) m [] fs (with_bits n t values)

-- ---- fields of one kind

pub starts : (k m : ℕ) (fs : List (List ℕ)) (n : ℕ) (t : Option ℕ) → length fs ≡ 2 + k + m → natural 9999999999 (field fs 0) ≡ Some n → stamp (field fs 1) ≡ Some t
    → row_line k m fs ≡ need_each value 2 k [] fs (with_values k m fs n t)
unfolding row_line
starts k m fs n t len h s =
    let many : eqb (length fs) (2 + k + m) ≡ true = grind (arith, nat_tests) in
    rw (many, h, s) refl

pub no_number : (k m : ℕ) (fs : List (List ℕ)) → length fs ≡ 2 + k + m → natural 9999999999 (field fs 0) ≡ None → row_line k m fs ≡ Err (number 1)
unfolding row_line
no_number k m fs len h =
    let many : eqb (length fs) (2 + k + m) ≡ true = grind (arith, nat_tests) in
    rw (many, h) refl

pub no_stamp : (k m : ℕ) (fs : List (List ℕ)) (n : ℕ) → length fs ≡ 2 + k + m → natural 9999999999 (field fs 0) ≡ Some n → stamp (field fs 1) ≡ None → row_line k m fs ≡ Err (number 2)
unfolding row_line
no_stamp k m fs n len h s =
    let many : eqb (length fs) (2 + k + m) ≡ true = grind (arith, nat_tests) in
    rw (many, h, s) refl

pub goes_on : {A B : Type 0} (read : List ℕ → Option A) (fs : List (List ℕ)) (i n n' : ℕ) (before : List A) (more : List A → Result B Fault) (x : A) → n ≡ suc n' → read (field fs i) ≡ Some x
    → need_each read i n before fs more ≡ need_each read (i + 1) n' (before ++ x ∷ []) fs more
goes_on read fs i n n' before more x e h = rw (e, h) refl

pub stops : {A B : Type 0} (read : List ℕ → Option A) (fs : List (List ℕ)) (i n n' : ℕ) (before : List A) (more : List A → Result B Fault) → n ≡ suc n' → read (field fs i) ≡ None
    → need_each read i n before fs more ≡ Err (number (i + 1))
stops read fs i n n' before more e h = rw (e, h) refl

-- ---- a row by its fields

head_at : (fs : List (List ℕ)) (i : ℕ) (f : List ℕ) (rest : List (List ℕ)) → drop i fs ≡ f ∷ rest → (field fs i ≡ f) × (drop (i + 1) fs ≡ rest)
head_at fs i f rest e =
    let z : i + 0 ≡ i = omega arith in (
      ap (λ (j : ℕ). get_or fs j []) (sym z) ∙ sym (get_or-drop i fs 0 []) ∙ ap (λ (xs : List (List ℕ)). get_or xs 0 []) e,
      sym (drop-drop 1 i fs) ∙ ap (λ (xs : List (List ℕ)). drop 1 xs) e,
    )

each_read : {A B : Type 0} (read : List ℕ → Option A) (fs front behind : List (List ℕ)) (items before : List A) (i : ℕ) (more : List A → Result B Fault) → drop i fs ≡ front ++ behind
    → map read front ≡ map (λ x. Some x) items → need_each read i (length items) before fs more ≡ more (before ++ items)
each_read read fs [] behind [] before i more e s = ap more (sym (append-nil before))
each_read read fs [] behind (x ∷ items) before i more e s = absurd cc
each_read read fs (f ∷ front) behind [] before i more e s = absurd cc
each_read read fs (f ∷ front) behind (x ∷ items) before i more e s =
    let h = head_at fs i f (front ++ behind) e in
    let here : read f ≡ Some x = cc in
    let says : read (field fs i) ≡ Some x = ap read h.0 ∙ here in
    let rest : map read front ≡ map (λ x. Some x) items = cc in
    rw says (each_read read fs front behind items (before ++ x ∷ []) (i + 1) more h.1 rest ∙ ap more (append_assoc before (x ∷ []) items))

pub row_made : (a b : List ℕ) (vf bf : List (List ℕ)) (r : RowParts) → natural 9999999999 a ≡ Some r.number → stamp b ≡ Some r.stamp → map value vf ≡ map (λ x. Some x) r.values → map bit bf ≡ map (λ x. Some x) r.bits
    → row_line (length r.values) (length r.bits) (a ∷ b ∷ (vf ++ bf)) ≡ Ok r
row_made a b vf bf r n s v w =
    let fs = a ∷ b ∷ (vf ++ bf) in
    let k = length r.values in
    let m = length r.bits in
    let values : length vf ≡ k = sym (length-map vf value) ∙ ap length v ∙ length-map r.values (λ x. Some x) in
    let bits : length bf ≡ m = sym (length-map bf bit) ∙ ap length w ∙ length-map r.bits (λ x. Some x) in
    let behind : drop (2 + k) fs ≡ bf ++ [] = rw (← values) (sym (drop-drop (length vf) 2 fs) ∙ drop-append_seam vf bf ∙ sym (append-nil bf)) in
    starts k m fs r.number r.stamp (omega (arith, length-append vf bf)) n s
    ∙ each_read value fs vf bf r.values [] 2 (with_values k m fs r.number r.stamp) refl v
    ∙ each_read bit fs bf [] r.bits [] (2 + k) (with_bits r.number r.stamp r.values) behind w

-- ---- how a row ends

each_through : {A B : Type 0} (read : List ℕ → Option A) (fs : List (List ℕ)) (n i : ℕ) (before : List A) (more : List A → Result B Fault) (y : B) → need_each read i n before fs more ≡ Ok y → (xs : List A) × (more xs ≡ Ok y)
each_through read fs zero i before more y e = (before, e)
each_through read fs (suc n) i before more y e =
    let a = need_said (read (field fs i)) (number (i + 1)) _ y e in
    each_through read fs n (i + 1) (before ++ a.0 ∷ []) more y a.2

each_last : {A B : Type 0} (read : List ℕ → Option A) (fs : List (List ℕ)) (n i : ℕ) (before : List A) (more : List A → Result B Fault) (y : B) → need_each read i (suc n) before fs more ≡ Ok y
    → (x : A) × (read (field fs (i + n)) ≡ Some x)
each_last read fs zero i before more y e =
    let a = need_said (read (field fs i)) (number (i + 1)) _ y e in
    let z : i + 0 ≡ i = omega arith in
    rw z (a.0, a.1)
each_last read fs (suc n) i before more y e =
    let a = need_said (read (field fs i)) (number (i + 1)) _ y e in
    let s : i + suc n ≡ i + 1 + n = omega arith in
    rw s (each_last read fs n (i + 1) (before ++ a.0 ∷ []) more y a.2)

plain : (k m : ℕ) (fs : List (List ℕ)) (n : ℕ) (t : Option ℕ) (r : RowParts) → length fs ≡ 2 + k + m → stamp (field fs 1) ≡ Some t → need_each value 2 k [] fs (with_values k m fs n t) ≡ Ok r → EndsPlain fs
plain k (suc m) fs n t r len s e =
    let v = each_through value fs k 2 [] (with_values k (suc m) fs n t) r e in
    let b = each_last bit fs m (2 + k) [] (with_bits n t v.0) r v.1 in
    no_return fs (2 + k + m) (len ∙ omega arith) (bit_plain (field fs (2 + k + m)) b.0 b.1)
plain (suc k) zero fs n t r len s e =
    let v = each_last value fs k 2 [] (with_values (suc k) zero fs n t) r e in
    no_return fs (2 + k) (len ∙ omega arith) (value_plain (field fs (2 + k)) v.0 v.1)
plain zero zero fs n t r len s e = no_return fs 1 len (stamp_plain (field fs 1) t s)

pub row_ends : (k m : ℕ) (fs : List (List ℕ)) (r : RowParts) → row_line k m fs ≡ Ok r → EndsPlain fs × (fs ≢ [] ∷ [])
unfolding row_line
row_ends k m fs r e =
    let a = many_said (2 + k + m) fs _ r e in
    let b = need_said (natural 9999999999 (field fs 0)) (number 1) _ r a.1 in
    let c = need_said (stamp (field fs 1)) (number 2) _ r b.2 in
    (plain k m fs b.0 c.0 r a.0 c.1 c.2, λ is. let one : length fs ≡ 1 = ap length is in absurd (omega (arith, a.0)))
