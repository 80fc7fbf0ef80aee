-- The rows of BINARY data as tables.
use Rattle.std.proofs.Common.{◌≡◌, ℕ, zero, suc, ◌+◌, ◌-◌, ◌*◌, ◌<◌, ◌≤◌, true, false, eqb, List, ◌++◌, length, get_or, take, drop, map, refl, sym, ap, ◌∙◌, ⊎_elim, inl, inr, arith, length-append, length-drop}
use Rattle.std.specs.Prelude.{ℤ, pos, ◌≢◌, ◌⊎◌}
use Rattle.std.specs.List.{range_with_len, flat_map}
use Rattle.std.specs.Int.{bit_at}
use borrow.Rule.Slice.PartMut.{put_mid}
use Rattle.std.proofs.Math.Nat.{suc-mul, zero-mul}
use Rattle.std.proofs.lemmas.Bool.Decides.{nat_tests}
use Rattle.std.proofs.lemmas.List.FromFn.{length-map-range_with_len, get_or-map-range_with_len}
use Rattle.dfr_channels.specs.declared.scan.Reading.TheVariants.{Value}
use Rattle.comtrade_format.specs.Parts.{HeadParts, RowParts}
use Rattle.comtrade_format.specs.Packed.{value_at, values_at, bits_at, group_bits}
use Rattle.comtrade_read.specs.Inner.BinaryRows.{stamp_at, row_at, rows_at}
use Rattle.comtrade_format.specs.Packed.{bit_of as spec_bit}
use Rattle.std.proofs.lemmas.List.{length-map, map-append, length-take, drop-drop}
use Rattle.byteorder.specs.Endian.{little_number}
use Rattle.comtrade_format.specs.declared.file.Kind.TheVariants.{Binary}
use Rattle.comtrade_read.specs.declared.fault.ReadFault.TheVariants.{Length}
use Rattle.comtrade_read.specs.Head.{last_sample}
use Rattle.comtrade_read.proofs.BinaryNumbers.{AllBytes}
use Rattle.comtrade_format.proofs.PackedGroups.{group_behind}
use Rattle.comtrade_read.proofs.OneFile.{rows_spelled, data_faulty}
use Rattle.comtrade_read.proofs.Outcomes.{part_is}
use Rattle.comtrade_c.proofs.Filled.{Filled, in_table, row_filled, all_filled, mid_laid}
use Rattle.comtrade_c.specs.Tables.{sample_of, bit_of, stamp_of, row_samples, row_bits, RowsLackRoom}
use Rattle.comtrade_read.specs.Reads.{ReadsRows, Nothing, row_size}

-- value k of so many
pub value_there : (bytes : List ℕ) (n k : ℕ) → k < n → get_or (values_at n bytes) k (Value (pos 0)) ≡ value_at (drop (2 * k) bytes)
value_there bytes n k lt = get_or-map-range_with_len (λ (i : ℕ). value_at (drop (2 * i) bytes)) 0 n k k (Value (pos 0)) lt (omega arith)

pub values_long : (bytes : List ℕ) (n : ℕ) → length (values_at n bytes) ≡ n
values_long bytes n = length-map-range_with_len (λ (i : ℕ). value_at (drop (2 * i) bytes)) 0 n

-- row i of so many
pub row_there : (k m : ℕ) (dat : List ℕ) (n i : ℕ) (d : RowParts) → i < n → get_or (rows_at k m dat n) i d ≡ row_at k m (drop (i * row_size k m) dat)
row_there k m dat n i d lt = get_or-map-range_with_len (λ (j : ℕ). row_at k m (drop (j * row_size k m) dat)) 0 n i i d lt (omega arith)

pub rows_long : (k m : ℕ) (dat : List ℕ) (n : ℕ) → length (rows_at k m dat n) ≡ n
rows_long k m dat n = length-map-range_with_len (λ (j : ℕ). row_at k m (drop (j * row_size k m) dat)) 0 n

-- rows of one length each
each_long : {A B : Type 0} (f : A → List B) (g : ℕ → A) (c a n : ℕ) → ((i : ℕ) → length (f (g i)) ≡ c) → length (flat_map f (map g (range_with_len a n))) ≡ n * c
each_long f g c a zero h = sym (zero-mul c)
each_long f g c a (suc n) h =
    omega (arith, length-append (f (g a)) (flat_map f (map g (range_with_len (a + 1) n))), h a, each_long f g c (a + 1) n h, suc-mul n c)

pub samples_count : (k m : ℕ) (bytes : List ℕ) → length (row_samples (row_at k m bytes)) ≡ k
unfolding row_at
samples_count k m bytes = length-map (values_at k (drop 8 bytes)) sample_of ∙ values_long (drop 8 bytes) k

pub bits_count : (k m : ℕ) (bytes : List ℕ) → length (row_bits (row_at k m bytes)) ≡ m
unfolding row_at
bits_count k m bytes =
    let from = drop (8 + 2 * k) bytes in
    length-map (bits_at m from) bit_of ∙ length-map-range_with_len (spec_bit from) 0 m

-- how long the tables of so many rows are
all_long :
    {B : Type 0} (f : RowParts → List B) (k m : ℕ) (dat : List ℕ) (n c : ℕ) → ((bytes : List ℕ) → length (f (row_at k m bytes)) ≡ c)
    → length (flat_map f (rows_at k m dat n)) ≡ n * c
all_long f k m dat n c each = each_long f (λ i. row_at k m (drop (i * row_size k m) dat)) c 0 n (λ i. each (drop (i * row_size k m) dat))

pub all_samples : (k m : ℕ) (dat : List ℕ) (n : ℕ) → length (flat_map row_samples (rows_at k m dat n)) ≡ n * k
all_samples k m dat n = all_long row_samples k m dat n k (samples_count k m)

pub all_bits : (k m : ℕ) (dat : List ℕ) (n : ℕ) → length (flat_map row_bits (rows_at k m dat n)) ≡ n * m
all_bits k m dat n = all_long row_bits k m dat n m (bits_count k m)

-- row i of n ends within a table with so many items of each
pub row_within :
    {B : Type 0} (f : RowParts → List B) (k m : ℕ) (dat : List ℕ) (n i c : ℕ) (vs ws : List B) (at : ℕ)
    → ((bytes : List ℕ) → length (f (row_at k m bytes)) ≡ c) → i < n → Filled f (rows_at k m dat n) i vs ws at → length vs ≡ n * c
    → at + c ≤ length vs
row_within f k m dat n i c vs ws at each below filled long =
    let row = row_at k m (drop (i * row_size k m) dat) in
    in_table f (rows_at k m dat n) i row vs ws at c (omega (arith, rows_long k m dat n, below)) (sym (row_there k m dat n i row below))
    filled (sym (each (drop (i * row_size k m) dat))) (long ∙ sym (all_long f k m dat n c each))

-- its items laid over the table, after those of the rows before it
pub row_over :
    {B : Type 0} (f : RowParts → List B) (k m : ℕ) (dat : List ℕ) (n i c : ℕ) (vs ws ys : List B) (at : ℕ)
    → ((bytes : List ℕ) → length (f (row_at k m bytes)) ≡ c) → i < n → Filled f (rows_at k m dat n) i vs ws at → length vs ≡ n * c
    → ys ≡ f (row_at k m (drop (i * row_size k m) dat)) → Filled f (rows_at k m dat n) (i + 1) (put_mid at (at + c - at) vs ys) ws (at + c)
row_over f k m dat n i c vs ws ys at each below filled long written =
    let row = row_at k m (drop (i * row_size k m) dat) in
    row_filled f (rows_at k m dat n) i row vs ws ys at c (omega (arith, rows_long k m dat n, below)) (sym (row_there k m dat n i row below))
    filled (sym (each (drop (i * row_size k m) dat))) (long ∙ sym (all_long f k m dat n c each)) written

-- no row is left
pub all_over :
    {B : Type 0} (f : RowParts → List B) (k m : ℕ) (dat : List ℕ) (n i c : ℕ) (vs ws : List B) (at : ℕ)
    → ((bytes : List ℕ) → length (f (row_at k m bytes)) ≡ c) → n ≤ i → Filled f (rows_at k m dat n) i vs ws at → length ws ≡ n * c
    → vs ≡ flat_map f (rows_at k m dat n)
all_over f k m dat n i c vs ws at each past filled long =
    all_filled f (rows_at k m dat n) vs ws i at (omega (arith, rows_long k m dat n, past)) filled (long ∙ sym (all_long f k m dat n c each))

-- what is said of one row
pub row_samples_are : (k m : ℕ) (bytes : List ℕ) → map sample_of (values_at k (drop 8 bytes)) ≡ row_samples (row_at k m bytes)
unfolding row_at
row_samples_are k m bytes = refl

pub row_bits_are : (k m : ℕ) (bytes : List ℕ) → map bit_of (bits_at m (drop (8 + 2 * k) bytes)) ≡ row_bits (row_at k m bytes)
unfolding row_at
row_bits_are k m bytes = refl

pub row_stamp_is : (k m : ℕ) (bytes : List ℕ) → stamp_of (stamp_at (drop 4 bytes)) ≡ stamp_of ((row_at k m bytes).stamp)
unfolding row_at
row_stamp_is k m bytes = refl

-- a bit of a group as a byte
pub one_bit : (b : ℕ) → b < 2 → b ≡ bit_of (eqb b 1)
one_bit zero lt = refl
one_bit (suc zero) lt = refl
one_bit (suc (suc n)) lt = absurd (omega arith)

pub group_long : (n group : ℕ) → length (group_bits n group) ≡ n
group_long n group = length-map-range_with_len (λ (i : ℕ). eqb (bit_at group i) 1) 0 n

pub group_there : (n group k : ℕ) → k < n → get_or (group_bits n group) k false ≡ eqb (bit_at group k) 1
group_there n group k lt = get_or-map-range_with_len (λ (i : ℕ). eqb (bit_at group i) 1) 0 n k k false lt (omega arith)

-- a group's bits laid over those of a row, behind the groups before it
pub group_laid :
    (bytes vs ws ys : List ℕ) (g d k : ℕ) → d ≤ 16 → k ≡ d → 16 * g ≤ length vs
    → vs ≡ map bit_of (bits_at (16 * g) bytes) ++ drop (16 * g) ws
    → ys ≡ map bit_of (group_bits d (little_number 2 (drop (2 * g) bytes)))
    → put_mid (16 * g) k vs ys ≡ map bit_of (bits_at (16 * g + d) bytes) ++ drop (16 * g + d) ws
group_laid bytes vs ws ys g d k few same within laid written =
    let before = bits_at (16 * g) bytes in
    let group = group_bits d (little_number 2 (drop (2 * g) bytes)) in
    let front : 16 * g ≡ length (map bit_of before) = sym (length-map before bit_of ∙ length-map-range_with_len (spec_bit bytes) 0 (16 * g)) in
    let long : length ys ≡ d = ap length written ∙ length-map group bit_of ∙ group_long d (little_number 2 (drop (2 * g) bytes)) in
    mid_laid (map bit_of before) ys vs ws (16 * g) d k same front long within laid
    ∙ ap (λ l. l ++ drop (16 * g + d) ws) (ap (λ l. map bit_of before ++ l) written ∙ sym (map-append bit_of before group) ∙ ap (map bit_of) (group_behind bytes g d few))

-- what stands in a part of a row's bytes
pub part_behind : (i from s size : ℕ) (dat : List ℕ) → s ≡ size → take (length dat - (i * s + from)) (drop (i * s + from) dat) ≡ drop from (drop (i * size) dat)
part_behind i from s size dat is = part_is (i * s + from) dat ∙ ap (λ z. drop (i * z + from) dat) is ∙ sym (drop-drop from (i * size) dat)

pub part_long : {A : Type 0} (at count : ℕ) (xs : List A) → at + count ≤ length xs → length (take (at + count - at) (drop at xs)) ≡ count
part_long at count xs within = omega (arith, length-take (at + count - at) (drop at xs), length-drop at xs)

-- the rows that BINARY data say under their head
pub rows_read : (h : HeadParts) (dat : List ℕ) → AllBytes dat → h.kind ≡ Binary → length dat ≡ last_sample h.rates * row_size (length h.analog) (length h.status)
    → ReadsRows h dat (rows_at (length h.analog) (length h.status) dat (last_sample h.rates))
rows_read h dat bytes kind whole =
    let long : eqb (length dat) (last_sample h.rates * row_size (length h.analog) (length h.status)) ≡ true = grind (arith, nat_tests) in
    rows_spelled h dat _ bytes (rw (kind, long) refl)

pub no_rows_read : (h : HeadParts) (dat : List ℕ) → h.kind ≡ Binary → (length dat ≢ last_sample h.rates * row_size (length h.analog) (length h.status))
    → Nothing (ReadsRows h dat)
no_rows_read h dat kind other =
    let differ : eqb (length dat) (last_sample h.rates * row_size (length h.analog) (length h.status)) ≡ false = grind (arith, nat_tests) in
    (data_faulty h dat Length (rw (kind, differ) refl)).1

-- tables that aren't as long as those rows
pub lacks : (h : HeadParts) (dat stamps : List ℕ) (samples : List ℤ) (bits : List ℕ) → AllBytes dat → h.kind ≡ Binary
    → length dat ≡ last_sample h.rates * row_size (length h.analog) (length h.status)
    → (length stamps ≢ last_sample h.rates) ⊎ (length samples ≢ last_sample h.rates * length h.analog) ⊎ (length bits ≢ last_sample h.rates * length h.status)
    → RowsLackRoom h dat stamps samples bits
lacks h dat stamps samples bits bytes kind whole short =
    let k = length h.analog in
    let m = length h.status in
    let n = last_sample h.rates in
    let rows = rows_at k m dat n in
    let many : length (map (λ r. stamp_of r.stamp) rows) ≡ n = length-map rows (λ r. stamp_of r.stamp) ∙ rows_long k m dat n in
    record {
      rows = rows;
      reads = rows_read h dat bytes kind whole;
      lengths =
          ⊎_elim (λ x. inl (λ e. x (e ∙ many)))
          (⊎_elim (λ x. inr (inl (λ e. x (e ∙ all_samples k m dat n)))) (λ x. inr (inr (λ e. x (e ∙ all_bits k m dat n))))) short;
    }
