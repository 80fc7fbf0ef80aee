-- The bytes of binary rows: what is written is read, and what is read is written.
use Rattle.std.proofs.Common.{◌≡◌, ℕ, zero, suc, ◌+◌, ◌-◌, ◌*◌, ◌/◌, ◌%◌, ◌^◌, ◌<◌, ◌≤◌, Bool, false, eqb, get_or, take, drop, List, [], ◌∷◌, ◌++◌, length, map, refl, sym, ap, ◌∙◌, arith, append_assoc, length-append, length-drop}
use Rattle.std.specs.Int.{bit_at}
use Rattle.std.specs.List.{range_with_len, flat_map, concat, AllByRecursion, AllZip}
use Rattle.std.proofs.Math.Seq.{take-add, drop-append_seam}
use Rattle.std.proofs.Math.ListN.{get_or-append}
use Rattle.std.proofs.Math.Nat.{pow-le-pow_right, suc-mul, add-mul, mul-add, mul-suc, mul-zero, zero-mul, mul_comm}
use Rattle.std.proofs.lemmas.List.{drop-drop, take_all, get_or-take, get_or-drop, take-append-drop, length-take}
use Rattle.std.proofs.lemmas.List.FromFn.{length-map-range_with_len, take-map-range_with_len}
use Rattle.byteorder.specs.Endian.{little_number, little_bytes}
use Rattle.byteorder.specs.Numbers.{little_number-reads_back, length-bytes_low_first}
use Rattle.dfr_channels.specs.declared.scan.Reading.{Reading}
use Rattle.comtrade_format.specs.Parts.{RowParts}
use Rattle.comtrade_format.specs.Binary.{reading_number, stamp_number, bits_number, group_bytes, status_bytes, row_bytes}
use Rattle.comtrade_format.specs.Packed.{value_at, values_at, bit_of, bits_at}
use Rattle.comtrade_read.specs.Inner.BinaryRows.{stamp_at, row_at, rows_at}
use Rattle.comtrade_read.specs.Reads.{row_size}
use Rattle.comtrade_read.specs.Reads.{IsPresent, IsRowOf, ReadsBinary}
use Rattle.comtrade_read.proofs.BinaryNumbers.{AllBytes, two_bytes, four_bytes, two_fit, four_fit, number_again, present_number, reading_again, small_number, stamp_again, small_stamp, stamp_back, stamp_is, bits_fit, bit_is, bits_again}

abbrev value_bytes : Reading → List ℕ
value_bytes v = little_bytes 2 (reading_number v)

-- ---- a row that was written is read

-- after a part
past : (n : ℕ) (xs ys zs : List ℕ) → length xs ≡ n → zs ≡ xs ++ ys → drop n zs ≡ ys
past n xs ys zs e is = rw (is, ← e) (drop-append_seam xs ys)

further : (n m : ℕ) (xs ys zs : List ℕ) → drop n zs ≡ xs ++ ys → length xs ≡ m → drop (n + m) zs ≡ ys
further n m xs ys zs e l = sym (drop-drop m n zs) ∙ past m xs ys (drop n zs) l e

two_long : (x : ℕ) → length (little_bytes 2 x) ≡ 2
two_long x = length-bytes_low_first 0 2 x

four_long : (x : ℕ) → length (little_bytes 4 x) ≡ 4
four_long x = length-bytes_low_first 0 4 x

values_long : (vs : List Reading) → length (flat_map value_bytes vs) ≡ 2 * length vs
values_long [] = refl
values_long (v ∷ vs) = omega (arith, length-append (value_bytes v) (flat_map value_bytes vs), two_long (reading_number v), values_long vs)

values_each : (xs : List ℕ) (n : ℕ) (vs : List Reading) (rest : List ℕ) → drop (2 * n) xs ≡ flat_map value_bytes vs ++ rest → AllByRecursion IsPresent vs
    → vs ≡ map (λ j. value_at (drop (2 * j) xs)) (range_with_len n (length vs))
values_each xs n [] rest e h = refl
values_each xs n (v ∷ vs) rest e h =
    let more = flat_map value_bytes vs ++ rest in
    let here : drop (2 * n) xs ≡ value_bytes v ++ more = e ∙ append_assoc (value_bytes v) (flat_map value_bytes vs) rest in
    let number : little_number 2 (drop (2 * n) xs) ≡ reading_number v = ap (little_number 2) here ∙ little_number-reads_back 2 (reading_number v) more (small_number v h.0) in
    let next : drop (2 * (n + 1)) xs ≡ more = ap (λ (k : ℕ). drop k xs) (omega arith) ∙ further (2 * n) 2 (value_bytes v) more xs here (two_long (reading_number v)) in
    let first : v ≡ value_at (drop (2 * n) xs) = rw number (sym (reading_again v h.0)) in
    ap (λ (y : Reading). y ∷ vs) first ∙ ap (λ (ys : List Reading). value_at (drop (2 * n) xs) ∷ ys) (values_each xs (n + 1) vs rest next h.1)

-- ---- groups of sixteen bits

group_long : (bs : List Bool) (g : ℕ) → length (group_bytes bs g) ≡ 2
unfolding group_bytes
group_long bs g = two_long (bits_number (take 16 (drop (16 * g) bs)))

group_number : (bs : List Bool) (g : ℕ) (rest : List ℕ) → little_number 2 (group_bytes bs g ++ rest) ≡ bits_number (take 16 (drop (16 * g) bs))
unfolding group_bytes
group_number bs g rest =
    let group = take 16 (drop (16 * g) bs) in
    let long : length group ≤ 16 = omega (arith, length-take 16 (drop (16 * g) bs)) in
    let most : 2 ^ length group ≤ 2 ^ 16 = pow-le-pow_right {n = 2} (omega arith) {i = length group} {j = 16} long in
    let fits : bits_number group < 65536 = omega (arith, bits_fit group) in
    little_number-reads_back 2 (bits_number group) rest fits

groups_long : (bs : List Bool) (a c : ℕ) → length (flat_map (group_bytes bs) (range_with_len a c)) ≡ 2 * c
groups_long bs a zero = refl
groups_long bs a (suc c) = omega (arith, length-append (group_bytes bs a) (flat_map (group_bytes bs) (range_with_len (a + 1) c)), group_long bs a, groups_long bs (a + 1) c)

-- group g of those from a on
group_at : (bs : List Bool) (a c g : ℕ) (rest : List ℕ) → g < c
    → little_number 2 (drop (2 * g) (flat_map (group_bytes bs) (range_with_len a c) ++ rest)) ≡ bits_number (take 16 (drop (16 * (a + g)) bs))
group_at bs a zero g rest lt = absurd (omega arith)
group_at bs a (suc c) zero rest lt =
    let z : a + 0 ≡ a = omega arith in
    let more = flat_map (group_bytes bs) (range_with_len (a + 1) c) in
    rw (z, append_assoc (group_bytes bs a) more rest) (group_number bs a (more ++ rest))
group_at bs a (suc c) (suc g) rest lt =
    let s : a + suc g ≡ a + 1 + g = omega arith in
    let more = flat_map (group_bytes bs) (range_with_len (a + 1) c) in
    let d : drop (2 * suc g) ((group_bytes bs a ++ more) ++ rest) ≡ drop (2 * g) (more ++ rest) =
    ap (λ (k : ℕ). drop k ((group_bytes bs a ++ more) ++ rest)) (omega arith)
    ∙ sym (drop-drop (2 * g) 2 ((group_bytes bs a ++ more) ++ rest))
    ∙ ap (drop (2 * g)) (past 2 (group_bytes bs a) (more ++ rest) ((group_bytes bs a ++ more) ++ rest) (group_long bs a) (append_assoc (group_bytes bs a) more rest)) in
    rw (d, s) (group_at bs (a + 1) c g rest (omega arith))

-- a bit of so many groups
bit_read : (bs : List Bool) (c j : ℕ) (rest : List ℕ) → j < 16 * c → bit_of (flat_map (group_bytes bs) (range_with_len 0 c) ++ rest) j ≡ get_or bs j false
bit_read bs c j rest lt =
    let g = j / 16 in
    let group = take 16 (drop (16 * (0 + g)) bs) in
    let low : j % 16 < 16 = omega arith in
    let whole : 16 * (0 + g) + j % 16 ≡ j = omega arith in
    ap (λ (n : ℕ). eqb (bit_at n (j % 16)) 1) (group_at bs 0 c g rest (omega arith))
    ∙ bit_is group (j % 16)
    ∙ get_or-take 16 (drop (16 * (0 + g)) bs) (j % 16) false low
    ∙ get_or-drop (16 * (0 + g)) bs (j % 16) false
    ∙ ap (λ (i : ℕ). get_or bs i false) whole

each_by_index : (f : ℕ → Bool) (n : ℕ) (xs : List Bool) → ((j : ℕ) → j < length xs → f (n + j) ≡ get_or xs j false) → xs ≡ map f (range_with_len n (length xs))
each_by_index f n [] h = refl
each_by_index f n (x ∷ xs) h =
    let z : n + 0 ≡ n = omega arith in
    let here : f n ≡ x = ap f (sym z) ∙ h 0 (omega arith) in
    ap (λ (b : Bool). b ∷ xs) (sym here) ∙ ap (λ (bs : List Bool). f n ∷ bs) (each_by_index f (n + 1) xs (λ j lt. ap f (omega arith) ∙ h (suc j) (omega arith)))

bits_each : (bits spare : List Bool) (c : ℕ) (rest : List ℕ) → length bits ≤ 16 * c → bits ≡ bits_at (length bits) (flat_map (group_bytes (bits ++ spare)) (range_with_len 0 c) ++ rest)
bits_each bits spare c rest le =
    each_by_index (bit_of (flat_map (group_bytes (bits ++ spare)) (range_with_len 0 c) ++ rest)) 0 bits (λ j lt.
    let z : 0 + j ≡ j = omega arith in
    rw z (bit_read (bits ++ spare) c j rest (omega arith) ∙ get_or-append bits spare false j lt))

-- ---- a whole row

-- so many groups for m bits and what fills the last
abbrev groups : ℕ → ℕ
groups m = (m + 15) / 16

status_is : (k m : ℕ) (bytes : List ℕ) (r : RowParts) (x : IsRowOf k m bytes r) → status_bytes (r.bits ++ x.spare) ≡ flat_map (group_bytes (r.bits ++ x.spare)) (range_with_len 0 (groups m))
unfolding status_bytes
status_is k m bytes r x =
    let many : (length (r.bits ++ x.spare) + 15) / 16 ≡ groups m = omega (arith, length-append r.bits x.spare, x.bit_count, x.spare_count) in
    ap (λ (c : ℕ). flat_map (group_bytes (r.bits ++ x.spare)) (range_with_len 0 c)) many

-- the parts of a row's bytes
pub record RowRead (k m : ℕ) (bytes : List ℕ) (r : RowParts) : Type 0 where
  pub long : length bytes ≡ row_size k m
  pub reads : (rest : List ℕ) → row_at k m (bytes ++ rest) ≡ r

pub row_read : (k m : ℕ) (bytes : List ℕ) (r : RowParts) → IsRowOf k m bytes r → RowRead k m bytes r
unfolding row_bytes row_at
row_read k m bytes r x =
    let a = little_bytes 4 r.number in
    let b = little_bytes 4 (stamp_number r.stamp) in
    let v = flat_map value_bytes r.values in
    let s = flat_map (group_bytes (r.bits ++ x.spare)) (range_with_len 0 (groups m)) in
    let is : bytes ≡ a ++ (b ++ (v ++ s)) = x.written ∙ ap (λ (ys : List ℕ). a ++ (b ++ (v ++ ys))) (status_is k m bytes r x) in
    let v_long : length v ≡ 2 * k = values_long r.values ∙ ap (λ (n : ℕ). 2 * n) x.value_count in
    let s_long : length s ≡ 2 * groups m = groups_long (r.bits ++ x.spare) 0 (groups m) in
    record {
      long = ap length is ∙ omega (arith, length-append a (b ++ (v ++ s)), length-append b (v ++ s), length-append v s, four_long r.number, four_long (stamp_number r.stamp), v_long, s_long);
      reads = λ rest.
          let xs = bytes ++ rest in
          let e0 : xs ≡ a ++ (b ++ (v ++ (s ++ rest))) = ap (λ (ys : List ℕ). ys ++ rest) is ∙ simp append_assoc in
          let e1 : drop 4 xs ≡ b ++ (v ++ (s ++ rest)) = past 4 a (b ++ (v ++ (s ++ rest))) xs (four_long r.number) e0 in
          let e2 : drop 8 xs ≡ v ++ (s ++ rest) = further 4 4 b (v ++ (s ++ rest)) xs e1 (four_long (stamp_number r.stamp)) in
          let e3 : drop (8 + 2 * k) xs ≡ s ++ rest = further 8 (2 * k) v (s ++ rest) xs e2 v_long in
          let number : little_number 4 xs ≡ r.number = ap (little_number 4) e0 ∙ little_number-reads_back 4 r.number (b ++ (v ++ (s ++ rest))) x.number in
          let stamp_number_is : little_number 4 (drop 4 xs) ≡ stamp_number r.stamp = ap (little_number 4) e1 ∙ little_number-reads_back 4 (stamp_number r.stamp) (v ++ (s ++ rest)) (small_stamp r.stamp x.stamp) in
          let stamp : stamp_at (drop 4 xs) ≡ r.stamp = rw stamp_number_is (stamp_again r.stamp x.stamp) in
          let z : drop (2 * 0) (drop 8 xs) ≡ v ++ (s ++ rest) = e2 in
          let values : r.values ≡ values_at k (drop 8 xs) =
          values_each (drop 8 xs) 0 r.values (s ++ rest) z x.values ∙ ap (λ (n : ℕ). values_at n (drop 8 xs)) x.value_count in
          let fits : length r.bits ≤ 16 * groups m = omega (arith, x.bit_count) in
          let bits : r.bits ≡ bits_at m (s ++ rest) =
          bits_each r.bits x.spare (groups m) rest fits ∙ ap (λ (n : ℕ). bits_at n (s ++ rest)) x.bit_count in
          rw (number, stamp, ← values, e3, ← bits) refl;
    }

-- ---- rows that were written are read

rows_long : (k m : ℕ) (parts : List (List ℕ)) (rows : List RowParts) → AllZip (IsRowOf k m) parts rows → length (concat parts) ≡ length rows * row_size k m
rows_long k m [] [] h = sym (zero-mul (row_size k m))
rows_long k m [] (r ∷ rs) h = absurd h
rows_long k m (p ∷ ps) [] h = absurd h
rows_long k m (p ∷ ps) (r ∷ rs) h =
    let one = row_read k m p r h.0 in
    let more = rows_long k m ps rs h.1 in
    let next : suc (length rs) * row_size k m ≡ row_size k m + length rs * row_size k m = suc-mul (length rs) (row_size k m) ∙ omega arith in
    omega (arith, length-append p (concat ps), one.long)

rows_each : (k m : ℕ) (dat : List ℕ) (n : ℕ) (parts : List (List ℕ)) (rows : List RowParts) → drop (n * row_size k m) dat ≡ concat parts → AllZip (IsRowOf k m) parts rows
    → rows ≡ map (λ i. row_at k m (drop (i * row_size k m) dat)) (range_with_len n (length rows))
rows_each k m dat n [] [] e h = refl
rows_each k m dat n [] (r ∷ rs) e h = absurd h
rows_each k m dat n (p ∷ ps) [] e h = absurd h
rows_each k m dat n (p ∷ ps) (r ∷ rs) e h =
    let size = row_size k m in
    let one = row_read k m p r h.0 in
    let place : (n + 1) * size ≡ n * size + size = add-mul n 1 size ∙ omega arith in
    let next : drop ((n + 1) * size) dat ≡ concat ps = ap (λ (o : ℕ). drop o dat) place ∙ further (n * size) size p (concat ps) dat e one.long in
    let first : r ≡ row_at k m (drop (n * size) dat) = rw e (sym (one.reads (concat ps))) in
    ap (λ (y : RowParts). y ∷ rs) first ∙ ap (λ (ys : List RowParts). row_at k m (drop (n * size) dat) ∷ ys) (rows_each k m dat (n + 1) ps rs next h.1)

pub binary_only : (k m : ℕ) (dat : List ℕ) (rows : List RowParts) → ReadsBinary k m dat rows → (length dat ≡ length rows * row_size k m) × (rows ≡ rows_at k m dat (length rows))
binary_only k m dat rows r =
    let z : drop (0 * row_size k m) dat ≡ concat r.parts = ap (λ (o : ℕ). drop o dat) (zero-mul (row_size k m)) ∙ r.bytes in
    (ap length r.bytes ∙ rows_long k m r.parts rows r.each, rows_each k m dat 0 r.parts rows z r.each)

-- ---- a row that was read was written

drop_bytes : (n : ℕ) (xs : List ℕ) → AllBytes xs → AllBytes (drop n xs)
drop_bytes n xs h i = rw (get_or-drop n xs i 0) (h (n + i))

-- one part after the other
parts_joined : (size : ℕ) (xs : List ℕ) (f : ℕ → List ℕ) (a c : ℕ) → ((g : ℕ) → a ≤ g → g < a + c → f g ≡ take size (drop (size * g) xs)) → flat_map f (range_with_len a c) ≡ take (size * c) (drop (size * a) xs)
parts_joined size xs f a zero h = ap (λ (n : ℕ). take n (drop (size * a) xs)) (sym (mul-zero size))
parts_joined size xs f a (suc c) h =
    let more = parts_joined size xs f (a + 1) c (λ g le lt. h g (omega arith) (omega arith)) in
    let here : f a ≡ take size (drop (size * a) xs) = h a (omega arith) (omega arith) in
    let place : size * (a + 1) ≡ size * a + size = mul-add size a 1 ∙ omega arith in
    let n : size * suc c ≡ size + size * c = mul-suc size c ∙ omega arith in
    rw (here, more, place, n) (ap (λ (ys : List ℕ). take size (drop (size * a) xs) ++ take (size * c) ys) (sym (drop-drop size (size * a) xs)) ∙ sym (take-add size (size * c) (drop (size * a) xs)))

flat_of_map : (f : Reading → List ℕ) (g : ℕ → Reading) (xs : List ℕ) → flat_map f (map g xs) ≡ flat_map (λ x. f (g x)) xs
flat_of_map f g [] = refl
flat_of_map f g (x ∷ xs) = ap (λ (ys : List ℕ). f (g x) ++ ys) (flat_of_map f g xs)

values_written : (k : ℕ) (xs : List ℕ) → 2 * k ≤ length xs → AllBytes xs → flat_map value_bytes (values_at k xs) ≡ take (2 * k) xs
values_written k xs le h =
    flat_of_map value_bytes (λ (i : ℕ). value_at (drop (2 * i) xs)) (range_with_len 0 k)
    ∙ parts_joined 2 xs (λ i. value_bytes (value_at (drop (2 * i) xs))) 0 k (λ g ge lt.
    let ys = drop (2 * g) xs in
    let fits = drop_bytes (2 * g) xs h in
    ap (little_bytes 2) (number_again (little_number 2 ys) (two_fit ys fits)) ∙ two_bytes ys (omega (arith, length-drop (2 * g) xs)) fits)

values_present : (k : ℕ) (xs : List ℕ) (n : ℕ) → AllBytes xs → AllByRecursion IsPresent (map (λ i. value_at (drop (2 * i) xs)) (range_with_len n k))
values_present zero xs n h = tt
values_present (suc k) xs n h = (present_number (little_number 2 (drop (2 * n) xs)) (two_fit (drop (2 * n) xs) (drop_bytes (2 * n) xs h)), values_present k xs (n + 1) h)

map_range_drop : (f : ℕ → Bool) (a n d : ℕ) → d ≤ n → drop d (map f (range_with_len a n)) ≡ map f (range_with_len (a + d) (n - d))
map_range_drop f a n zero le = let z : a + 0 ≡ a = omega arith in let y : n - 0 ≡ n = omega arith in rw (z, y) refl
map_range_drop f a zero (suc d) le = absurd (omega arith)
map_range_drop f a (suc n) (suc d) le =
    let z : a + suc d ≡ a + 1 + d = omega arith in
    let y : suc n - suc d ≡ n - d = omega arith in
    rw (z, y) (map_range_drop f (a + 1) n d (omega arith))

group_written : (c : ℕ) (xs : List ℕ) (g : ℕ) → g < c → 2 * c ≤ length xs → AllBytes xs → group_bytes (map (bit_of xs) (range_with_len 0 (16 * c))) g ≡ take 2 (drop (2 * g) xs)
unfolding group_bytes
group_written c xs g lt le h =
    let all = map (bit_of xs) (range_with_len 0 (16 * c)) in
    let ys = drop (2 * g) xs in
    let x = little_number 2 ys in
    let fits = drop_bytes (2 * g) xs h in
    let part : take 16 (drop (16 * g) all) ≡ map (bit_of xs) (range_with_len (0 + 16 * g) 16) =
    ap (take 16) (map_range_drop (bit_of xs) 0 (16 * c) (16 * g) (omega arith)) ∙ take-map-range_with_len (bit_of xs) (0 + 16 * g) (16 * c - 16 * g) 16 (omega arith) in
    let number : bits_number (map (bit_of xs) (range_with_len (0 + 16 * g) 16)) ≡ x = bits_again (bit_of xs) 16 x (0 + 16 * g) (λ j jl.
    let q : (0 + 16 * g + j) / 16 ≡ g = omega arith in
    let r : (0 + 16 * g + j) % 16 ≡ j = omega arith in
    rw (q, r) refl) (two_fit ys fits) in
    ap (λ (bs : List Bool). little_bytes 2 (bits_number bs)) part ∙ ap (little_bytes 2) number ∙ two_bytes ys (omega (arith, length-drop (2 * g) xs)) fits

bits_written : (c : ℕ) (xs : List ℕ) → 2 * c ≤ length xs → AllBytes xs → flat_map (group_bytes (map (bit_of xs) (range_with_len 0 (16 * c)))) (range_with_len 0 c) ≡ take (2 * c) xs
bits_written c xs le h = parts_joined 2 xs (group_bytes (map (bit_of xs) (range_with_len 0 (16 * c)))) 0 c (λ g ge lt. group_written c xs g (omega arith) le h)

status_written : (m : ℕ) (xs : List ℕ) → 2 * groups m ≤ length xs → AllBytes xs
    → status_bytes (bits_at m xs ++ map (bit_of xs) (range_with_len m (16 * groups m - m))) ≡ take (2 * groups m) xs
unfolding status_bytes
status_written m xs le h =
    let c = groups m in
    let ys = map (bit_of xs) (range_with_len 0 (16 * c)) in
    let z : 0 + m ≡ m = omega arith in
    let front : bits_at m xs ≡ take m ys = sym (take-map-range_with_len (bit_of xs) 0 (16 * c) m (omega arith)) in
    let back : map (bit_of xs) (range_with_len m (16 * c - m)) ≡ drop m ys =
    sym (map_range_drop (bit_of xs) 0 (16 * c) m (omega arith) ∙ ap (λ (a : ℕ). map (bit_of xs) (range_with_len a (16 * c - m))) z) in
    let all : bits_at m xs ++ map (bit_of xs) (range_with_len m (16 * c - m)) ≡ ys = rw (front, back) (take-append-drop m ys) in
    let many : (length ys + 15) / 16 ≡ c = rw (length-map-range_with_len (bit_of xs) 0 (16 * c)) (omega arith) in
    ap status_bytes all ∙ ap (λ (n : ℕ). flat_map (group_bytes ys) (range_with_len 0 n)) many ∙ bits_written c xs le h

four_parts : {a a' b b' c c' d d' : List ℕ} → a ≡ a' → b ≡ b' → c ≡ c' → d ≡ d' → a ++ (b ++ (c ++ d)) ≡ a' ++ (b' ++ (c' ++ d'))
four_parts p q r s = rw (p, q, r, s) refl

pub row_written : (k m : ℕ) (xs : List ℕ) → row_size k m ≤ length xs → AllBytes xs → IsRowOf k m (take (row_size k m) xs) (row_at k m xs)
unfolding row_bytes row_at
row_written k m xs le h =
    let c = groups m in
    let ws = drop 8 xs in
    let zs = drop (8 + 2 * k) xs in
    let spare : List Bool = map (bit_of zs) (range_with_len m (16 * c - m)) in
    let number : little_bytes 4 (little_number 4 xs) ≡ take 4 xs = four_bytes xs (omega arith) h in
    let stamp : little_bytes 4 (stamp_number (stamp_at (drop 4 xs))) ≡ take 4 (drop 4 xs) =
    ap (little_bytes 4) (stamp_back (drop 4 xs)) ∙ four_bytes (drop 4 xs) (omega (arith, length-drop 4 xs)) (drop_bytes 4 xs h) in
    let values : flat_map value_bytes (values_at k ws) ≡ take (2 * k) ws = values_written k ws (omega (arith, length-drop 8 xs)) (drop_bytes 8 xs h) in
    let bits : status_bytes (bits_at m zs ++ spare) ≡ take (2 * c) zs = status_written m zs (omega (arith, length-drop (8 + 2 * k) xs)) (drop_bytes (8 + 2 * k) xs h) in
    let d8 : drop 4 (drop 4 xs) ≡ ws = drop-drop 4 4 xs in
    let dk : drop (2 * k) ws ≡ zs = drop-drop (2 * k) 8 xs in
    let whole : take (row_size k m) xs ≡ take 4 xs ++ (take 4 (drop 4 xs) ++ (take (2 * k) ws ++ take (2 * c) zs)) =
    ap (λ (n : ℕ). take n xs) (omega arith)
    ∙ take-add 4 (4 + (2 * k + 2 * c)) xs
    ∙ ap (λ (ys : List ℕ). take 4 xs ++ ys) (take-add 4 (2 * k + 2 * c) (drop 4 xs)
    ∙ ap (λ (ys : List ℕ). take 4 (drop 4 xs) ++ ys) (ap (take (2 * k + 2 * c)) d8 ∙ take-add (2 * k) (2 * c) ws ∙ ap (λ (ys : List ℕ). take (2 * k) ws ++ take (2 * c) ys) dk)) in
    record {
      spare = spare;
      spare_count = length-map-range_with_len (bit_of zs) m (16 * c - m);
      written = whole ∙ sym (four_parts number stamp values bits);
      number = four_fit xs h;
      stamp = stamp_is (drop 4 xs) (four_fit (drop 4 xs) (drop_bytes 4 xs h));
      value_count = length-map-range_with_len (λ (i : ℕ). value_at (drop (2 * i) ws)) 0 k;
      values = values_present k ws 0 (drop_bytes 8 xs h);
      bit_count = length-map-range_with_len (bit_of zs) 0 m;
    }

-- the bytes of row i and of those after it
rows_written : (k m : ℕ) (dat : List ℕ) (a n : ℕ) → length dat ≡ (a + n) * row_size k m → AllBytes dat
    → AllZip (IsRowOf k m) (map (λ i. take (row_size k m) (drop (i * row_size k m) dat)) (range_with_len a n)) (map (λ i. row_at k m (drop (i * row_size k m) dat)) (range_with_len a n))
rows_written k m dat a zero e h = tt
rows_written k m dat a (suc n) e h =
    let size = row_size k m in
    let next : a + suc n ≡ a + 1 + n = omega arith in
    let e' : length dat ≡ (a + 1 + n) * size = rw next at e in
    let place : (a + 1 + n) * size ≡ a * size + size + n * size = add-mul (a + 1) n size ∙ ap (λ (x : ℕ). x + n * size) (add-mul a 1 size) ∙ omega arith in
    (row_written k m (drop (a * size) dat) (omega (arith, length-drop (a * size) dat)) (drop_bytes (a * size) dat h), rows_written k m dat (a + 1) n e' h)

concat_of : (f : ℕ → List ℕ) (ns : List ℕ) → concat (map f ns) ≡ flat_map f ns
concat_of f [] = refl
concat_of f (n ∷ ns) = ap (λ (ys : List ℕ). f n ++ ys) (concat_of f ns)

pub binary_spelled : (k m n : ℕ) (dat : List ℕ) (rows : List RowParts) → AllBytes dat → length dat ≡ n * row_size k m → rows ≡ rows_at k m dat n → (length rows ≡ n) × ReadsBinary k m dat rows
binary_spelled k m n dat rows h e is =
    let size = row_size k m in
    let f : ℕ → List ℕ = λ i. take size (drop (i * size) dat) in
    let z : 0 + n ≡ n = omega arith in
    let e' : length dat ≡ (0 + n) * size = rw z e in
    let joined : flat_map f (range_with_len 0 n) ≡ take (size * n) (drop (size * 0) dat) =
    parts_joined size dat f 0 n (λ g ge lt. ap (λ (o : ℕ). take size (drop o dat)) (mul_comm g size)) in
    let zero_place : drop (size * 0) dat ≡ dat = ap (λ (o : ℕ). drop o dat) (mul-zero size) in
    let all : take (size * n) dat ≡ dat = take_all (size * n) dat (omega (arith, mul_comm n size)) in (
      ap length is ∙ length-map-range_with_len (λ (i : ℕ). row_at k m (drop (i * size) dat)) 0 n,
      record {
        parts = map f (range_with_len 0 n);
        bytes = sym (concat_of f (range_with_len 0 n) ∙ joined ∙ ap (take (size * n)) zero_place ∙ all);
        each = rw is (rows_written k m dat 0 n e' h);
      },
    )
