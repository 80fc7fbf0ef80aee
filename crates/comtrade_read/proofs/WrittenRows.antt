-- Rows that are written are read.
use Rattle.std.proofs.Common.{◌≡◌, ℕ, zero, suc, ◌+◌, ◌-◌, ◌*◌, ◌/◌, ◌<◌, ◌≤◌, ◌^◌, Bool, true, false, cond, ltb, leb, eqb, List, [], ◌∷◌, ◌++◌, length, map, get_or, take, drop, replicate, Option, Some, None, refl, sym, ap, ◌∙◌, arith, append_assoc, length-append}
use Rattle.std.specs.Prelude.{ℤ, pos, negsuc, neg_ℤ, ◌≤ℤ◌, int_le, unsigned_abs, Result, Ok}
use Rattle.std.specs.List.{range_with_len, flat_map, concat, list_all, before_first, AllByRecursion, AllZip}
use Rattle.std.specs.Fmt.{decimal}
use Rattle.std.proofs.lemmas.List.{append-nil, get_or-take, get_or-drop, length-take, length-replicate, take_at}
use Rattle.std.proofs.lemmas.Int.{ints}
use Rattle.std.proofs.lemmas.Bool.{leb-true, eqb-true, and_parts}
use Rattle.std.proofs.lemmas.Bool.Decides.{nat_tests}
use Rattle.byteorder.specs.Endian.{little_bytes}
use Rattle.dfr_channels.specs.declared.scan.Reading.{Reading}
use Rattle.dfr_channels.specs.declared.scan.Reading.TheVariants.{Value, Missing}
use Rattle.comtrade_format.specs.declared.bounds.Bounds.{Bounds}
use Rattle.comtrade_format.specs.Parts.{RowParts}
use Rattle.comtrade_format.specs.Lines.{line, bit_text}
use Rattle.comtrade_format.specs.Ascii.{reading_text, stamp_text, fields_line, row_line, ascii}
use Rattle.comtrade_format.specs.Binary.{reading_number, stamp_number, bits_number, group_bytes, status_bytes, row_bytes, binary}
use Rattle.comtrade_format.specs.Shape.{row_shaped}
use Rattle.comtrade_format.specs.Refusals.{ascii_bounds, binary_bounds, takes_reading, takes_stamp, takes_times, values_from, rows_from, stamps_from}
use Rattle.comtrade_values.specs.Fields.{bit}
use Rattle.comtrade_values.proofs.Comparing.{int_le-so}
use Rattle.comtrade_read.specs.declared.fault.ReadFault.{ReadFault}
use Rattle.comtrade_read.specs.Line.{Left, taken, next, each, end}
use Rattle.comtrade_read.specs.Ascii.{stamp, value, is_end_mark, row_line as read_line, rows}
use Rattle.comtrade_read.specs.Reads.{IsPresent, IsStamp, IsRowOf, ReadsBinary, ReadsAscii}
use Rattle.comtrade_read.proofs.AllOf.{All-append}
use Rattle.comtrade_read.proofs.Numerals.{place_at}
use Rattle.comtrade_read.proofs.RowLine.{row_made}
use Rattle.comtrade_read.proofs.WrittenFields.{IsClean, Printed, clean_printed, natural_written, value_written, missing_written, stamp_written, no_stamp_written, bit_written, printed_decimal, printed_signed, printed_missing, printed_bit}
use Rattle.comtrade_read.proofs.WrittenLines.{IsCleanLine, written_joined, lines_no_end}
use Rattle.dfr_channels.proofs.Lawful.{or-none, unless-none}

-- ---- what the writers' refusals leave

-- a row that the writer of these bounds takes
pub record RowTaken (b : Bounds) (k m : ℕ) (r : RowParts) : Type 0 where
  pub value_count : length r.values ≡ k
  pub bit_count : length r.bits ≡ m
  pub values : AllByRecursion (λ v. takes_reading b v ≡ true) r.values
  pub number : leb r.number b.number ≡ true
  pub stamp : takes_stamp b r.stamp ≡ true

values_taken : (b : Bounds) (row n : ℕ) (vs : List Reading) → values_from b row n vs ≡ None → AllByRecursion (λ v. takes_reading b v ≡ true) vs
unfolding values_from
values_taken b row n [] h = tt
values_taken b row n (v ∷ vs) h =
    let p = or-none _ _ h in
    (unless-none (takes_reading b v) _ p.0, values_taken b row (n + 1) vs p.1)

pub rows_taken : (b : Bounds) (k m n : ℕ) (rows : List RowParts) → list_all (row_shaped k m) rows ≡ true → rows_from b n rows ≡ None → stamps_from b n rows ≡ None → AllByRecursion (RowTaken b k m) rows
unfolding rows_from stamps_from
rows_taken b k m n [] s v t = tt
rows_taken b k m n (r ∷ rs) s v t =
    let shaped = and_parts (row_shaped k m r) (list_all (row_shaped k m) rs) s in
    let counts = and_parts (eqb (length r.values) k) (eqb (length r.bits) m) shaped.0 in
    let p = or-none _ _ v in
    let q = or-none _ _ t in
    let times = and_parts (leb r.number b.number) (takes_stamp b r.stamp) (unless-none (takes_times b r) _ q.0) in (
      record {
        value_count = eqb-true (length r.values) k counts.0;
        bit_count = eqb-true (length r.bits) m counts.1;
        values = values_taken b n 1 r.values p.0;
        number = times.0;
        stamp = times.1;
      },
      rows_taken b k m (n + 1) rs shaped.1 p.1 q.1,
    )

-- ---- BINARY rows

bits_same : (xs ys : List Bool) → ((i : ℕ) → get_or xs i false ≡ get_or ys i false) → bits_number xs ≡ bits_number ys
unfolding bits_number
bits_same [] [] h = refl
bits_same [] (true ∷ ys) h = let e : false ≡ true = h 0 in absurd cc
bits_same [] (false ∷ ys) h = let e : 0 ≡ bits_number ys = bits_same [] ys (λ i. h (suc i)) in omega arith
bits_same (true ∷ xs) [] h = let e : true ≡ false = h 0 in absurd cc
bits_same (false ∷ xs) [] h = let e : bits_number xs ≡ 0 = bits_same xs [] (λ i. h (suc i)) in omega arith
bits_same (true ∷ xs) (true ∷ ys) h = ap (λ (n : ℕ). 1 + 2 * n) (bits_same xs ys (λ i. h (suc i)))
bits_same (false ∷ xs) (false ∷ ys) h = ap (λ (n : ℕ). 2 * n) (bits_same xs ys (λ i. h (suc i)))
bits_same (true ∷ xs) (false ∷ ys) h = let e : true ≡ false = h 0 in absurd cc
bits_same (false ∷ xs) (true ∷ ys) h = let e : false ≡ true = h 0 in absurd cc

clear_at : (n i : ℕ) → get_or (replicate n false) i false ≡ false
clear_at zero i = refl
clear_at (suc n) zero = refl
clear_at (suc n) (suc i) = clear_at n i

filled_at : (xs : List Bool) (n i : ℕ) → get_or (xs ++ replicate n false) i false ≡ get_or xs i false
filled_at [] n i = clear_at n i
filled_at (x ∷ xs) n zero = refl
filled_at (x ∷ xs) n (suc i) = filled_at xs n i

beyond : (xs : List Bool) (i : ℕ) → length xs ≤ i → get_or xs i false ≡ false
beyond [] i le = refl
beyond (x ∷ xs) zero le = absurd (omega arith)
beyond (x ∷ xs) (suc i) le = beyond xs i (omega arith)

group_at : (zs : List Bool) (n i : ℕ) → get_or (take 16 (drop n zs)) i false ≡ cond (ltb i 16) (get_or zs (n + i) false) false
group_at zs n i = with_test (ltb i 16) refl
  where
    with_test : (b : Bool) → ltb i 16 ≡ b → get_or (take 16 (drop n zs)) i false ≡ cond b (get_or zs (n + i) false) false
    with_test true t = get_or-take 16 (drop n zs) i false (grind (arith, nat_tests)) ∙ get_or-drop n zs i false
    with_test false t = let ge : 16 ≤ i = grind (arith, nat_tests) in beyond (take 16 (drop n zs)) i (omega (arith, length-take 16 (drop n zs)))

group_same : (bits : List Bool) (n g : ℕ) → group_bytes (bits ++ replicate n false) g ≡ group_bytes bits g
unfolding group_bytes
group_same bits n g =
    ap (little_bytes 2) (bits_same (take 16 (drop (16 * g) (bits ++ replicate n false))) (take 16 (drop (16 * g) bits))
    (λ i. group_at (bits ++ replicate n false) (16 * g) i ∙ ap (λ (b : Bool). cond (ltb i 16) b false) (filled_at bits n (16 * g + i)) ∙ sym (group_at bits (16 * g) i)))

flat_same : (f g : ℕ → List ℕ) (ns : List ℕ) → ((n : ℕ) → f n ≡ g n) → flat_map f ns ≡ flat_map g ns
flat_same f g [] h = refl
flat_same f g (n ∷ ns) h = rw (h n, flat_same f g ns h) refl

status_same : (m : ℕ) (bits : List Bool) → length bits ≡ m → status_bytes (bits ++ replicate (16 * ((m + 15) / 16) - m) false) ≡ status_bytes bits
unfolding status_bytes
status_same m bits e =
    let n = 16 * ((m + 15) / 16) - m in
    let many : (length (bits ++ replicate n false) + 15) / 16 ≡ (length bits + 15) / 16 = omega (arith, length-append bits (replicate n false), length-replicate n false) in
    ap (λ (c : ℕ). flat_map (group_bytes (bits ++ replicate n false)) (range_with_len 0 c)) many
    ∙ flat_same (group_bytes (bits ++ replicate n false)) (group_bytes bits) (range_with_len 0 ((length bits + 15) / 16)) (group_same bits n)

present : (v : Reading) → takes_reading binary_bounds v ≡ true → IsPresent v
present Missing h = tt
present (Value x) h = let p = and_parts (int_le (neg_ℤ (pos 32767)) x) (int_le x (pos 32767)) h in (int_le-so (neg_ℤ (pos 32767)) x p.0, int_le-so x (pos 32767) p.1)

all_present : (vs : List Reading) → AllByRecursion (λ v. takes_reading binary_bounds v ≡ true) vs → AllByRecursion IsPresent vs
all_present [] h = tt
all_present (v ∷ vs) h = (present v h.0, all_present vs h.1)

stamp_fits : (s : Option ℕ) → takes_stamp binary_bounds s ≡ true → IsStamp s
stamp_fits None h = tt
stamp_fits (Some t) h = let le : t ≤ 4294967294 = leb-true t 4294967294 h in omega arith

row_of : (k m : ℕ) (r : RowParts) → RowTaken binary_bounds k m r → IsRowOf k m (row_bytes r) r
unfolding row_bytes
row_of k m r t =
    let n = 16 * ((m + 15) / 16) - m in
    let le : r.number ≤ 4294967295 = leb-true r.number 4294967295 t.number in
    record {
      spare = replicate n false;
      spare_count = length-replicate n false;
      written = ap (λ (s : List ℕ). little_bytes 4 r.number ++ (little_bytes 4 (stamp_number r.stamp) ++ (flat_map (λ v. little_bytes 2 (reading_number v)) r.values ++ s))) (sym (status_same m r.bits t.bit_count));
      number = omega arith;
      stamp = stamp_fits r.stamp t.stamp;
      value_count = t.value_count;
      values = all_present r.values t.values;
      bit_count = t.bit_count;
    }

concat_rows : (rows : List RowParts) → concat (map row_bytes rows) ≡ flat_map row_bytes rows
concat_rows [] = refl
concat_rows (r ∷ rs) = ap (λ (ys : List ℕ). row_bytes r ++ ys) (concat_rows rs)

each_row : (k m : ℕ) (rows : List RowParts) → AllByRecursion (RowTaken binary_bounds k m) rows → AllZip (IsRowOf k m) (map row_bytes rows) rows
each_row k m [] h = tt
each_row k m (r ∷ rs) h = (row_of k m r h.0, each_row k m rs h.1)

pub binary_written : (k m : ℕ) (rows : List RowParts) → AllByRecursion (RowTaken binary_bounds k m) rows → ReadsBinary k m (binary rows) rows
unfolding binary
binary_written k m rows h = record { parts = map row_bytes rows; bytes = sym (concat_rows rows); each = each_row k m rows h }

-- ---- ASCII rows

row_fields : RowParts → List (List ℕ)
row_fields r = decimal r.number ∷ stamp_text r.stamp ∷ (map reading_text r.values ++ map bit_text r.bits)

value_again : (v : Reading) → takes_reading ascii_bounds v ≡ true → value (reading_text v) ≡ Some v
value_again Missing h = missing_written
value_again (Value x) h = let p = and_parts (int_le (neg_ℤ (pos 99999)) x) (int_le x (pos 99998)) h in value_written x (int_le-so (neg_ℤ (pos 99999)) x p.0) (int_le-so x (pos 99998) p.1)

stamp_again : (s : Option ℕ) → takes_stamp ascii_bounds s ≡ true → stamp (stamp_text s) ≡ Some s
stamp_again None h = no_stamp_written
stamp_again (Some t) h = stamp_written t (leb-true t 9999999999 h)

values_again : (vs : List Reading) → AllByRecursion (λ v. takes_reading ascii_bounds v ≡ true) vs → map value (map reading_text vs) ≡ map (λ v. Some v) vs
values_again [] h = refl
values_again (v ∷ vs) h = rw (value_again v h.0, values_again vs h.1) refl

bits_again : (bs : List Bool) → map bit (map bit_text bs) ≡ map (λ b. Some b) bs
bits_again [] = refl
bits_again (b ∷ bs) = rw (bit_written b, bits_again bs) refl

row_again : (k m : ℕ) (r : RowParts) → RowTaken ascii_bounds k m r → read_line k m (row_fields r) ≡ Ok r
unfolding row_fields
row_again k m r t =
    let le : r.number ≤ 9999999999 = leb-true r.number 9999999999 t.number in
    rw (← t.value_count, ← t.bit_count)
    (row_made (decimal r.number) (stamp_text r.stamp) (map reading_text r.values) (map bit_text r.bits) r (natural_written 9999999999 r.number le (omega arith)) (stamp_again r.stamp t.stamp) (values_again r.values t.values) (bits_again r.bits))

abbrev all_read : List RowParts → ℕ → Result (List RowParts × Left) ReadFault
all_read rs line = Ok (rs, record { line = line; lines = [] })

rows_again : (k m : ℕ) (before rs : List RowParts) (line : ℕ) → AllByRecursion (RowTaken ascii_bounds k m) rs → each (λ xs. read_line k m) (length rs) before (record { line = line; lines = map row_fields rs }) ≡ all_read (before ++ rs) (line + length rs)
unfolding each next taken
rows_again k m before [] line h = let z : line + 0 ≡ line = omega arith in rw (append-nil before, z) refl
rows_again k m before (r ∷ rs) line h =
    let s : line + 1 + length rs ≡ line + suc (length rs) = omega arith in
    let moved : (before ++ r ∷ []) ++ rs ≡ before ++ r ∷ rs = append_assoc before (r ∷ []) rs in
    rw (row_again k m r h.0) (rw (s, moved) at (rows_again k m (before ++ r ∷ []) rs (line + 1) h.1))

printed_values : (vs : List Reading) → AllByRecursion (λ v. takes_reading ascii_bounds v ≡ true) vs → AllByRecursion Printed (map reading_text vs)
printed_values [] h = tt
printed_values (Missing ∷ vs) h = (printed_missing, printed_values vs h.1)
printed_values (Value x ∷ vs) h =
    let p = and_parts (int_le (neg_ℤ (pos 99999)) x) (int_le x (pos 99998)) h.0 in
    (printed_signed x (few x (int_le-so (neg_ℤ (pos 99999)) x p.0) (int_le-so x (pos 99998) p.1)), printed_values vs h.1)
  where
    few : (z : ℤ) → neg_ℤ (pos 99999) ≤ℤ z → z ≤ℤ pos 99998 → unsigned_abs z < 10 ^ 64
    few (pos n) a b = omega (arith, ints)
    few (negsuc n) a b = omega (arith, ints)

printed_bits : (bs : List Bool) → AllByRecursion Printed (map bit_text bs)
printed_bits [] = tt
printed_bits (b ∷ bs) = (printed_bit b, printed_bits bs)

printed_stamp : (s : Option ℕ) → takes_stamp ascii_bounds s ≡ true → Printed (stamp_text s)
printed_stamp None h = tt
printed_stamp (Some t) h = let le : t ≤ 9999999999 = leb-true t 9999999999 h in printed_decimal t (omega arith)

printed_row : (k m : ℕ) (r : RowParts) → RowTaken ascii_bounds k m r → AllByRecursion Printed (row_fields r)
unfolding row_fields
printed_row k m r t =
    let le : r.number ≤ 9999999999 = leb-true r.number 9999999999 t.number in
    (printed_decimal r.number (omega arith), (printed_stamp r.stamp t.stamp, All-append Printed (map reading_text r.values) (map bit_text r.bits) (printed_values r.values t.values) (printed_bits r.bits)))

clean_all : (fs : List (List ℕ)) → AllByRecursion Printed fs → AllByRecursion IsClean fs
clean_all [] h = tt
clean_all (f ∷ fs) h = (clean_printed f h.0, clean_all fs h.1)

clean_row : (k m : ℕ) (r : RowParts) → RowTaken ascii_bounds k m r → IsCleanLine (row_fields r)
unfolding row_fields
clean_row k m r t = clean_all (decimal r.number ∷ stamp_text r.stamp ∷ (map reading_text r.values ++ map bit_text r.bits)) (printed_row k m r t)

clean_rows : (k m : ℕ) (rows : List RowParts) → AllByRecursion (RowTaken ascii_bounds k m) rows → AllByRecursion IsCleanLine (map row_fields rows)
clean_rows k m [] h = tt
clean_rows k m (r ∷ rs) h = (clean_row k m r h.0, clean_rows k m rs h.1)

printed_rows : (k m : ℕ) (rows : List RowParts) → AllByRecursion (RowTaken ascii_bounds k m) rows → AllByRecursion (AllByRecursion Printed) (map row_fields rows)
printed_rows k m [] h = tt
printed_rows k m (r ∷ rs) h = (printed_row k m r h.0, printed_rows k m rs h.1)

rows_lines : (rows : List RowParts) → flat_map row_line rows ≡ flat_map line (map row_fields rows)
unfolding fields_line row_fields
rows_lines [] = refl
rows_lines (r ∷ rs) = ap (λ (ys : List ℕ). row_line r ++ ys) (rows_lines rs)

pub ascii_written : (k m : ℕ) (rs : List RowParts) → AllByRecursion (RowTaken ascii_bounds k m) rs → ReadsAscii k m (ascii rs) rs
unfolding ascii rows end
ascii_written k m rs h =
    let ls = map row_fields rs in
    let text = flat_map line ls in
    let n = place_at is_end_mark text 26 [] (lines_no_end ls (printed_rows k m rs h)) refl in
    let front : before_first is_end_mark (text ++ 26 ∷ []) ≡ text = rw n (take_at text (26 ∷ []) (length text) refl) in
    let whole : before_first is_end_mark (ascii rs) ≡ text = ap (λ (t : List ℕ). before_first is_end_mark (t ++ 26 ∷ [])) (rows_lines rs) ∙ front in
    record { lines = ls; joined = rw whole (written_joined ls (clean_rows k m rs h)); rows = rw (rows_again k m [] rs 1 h) refl }
