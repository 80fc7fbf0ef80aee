-- Going on by one item in a numbered list.
use Rattle.std.proofs.Common.{◌≡◌, ℕ, zero, suc, ◌+◌, ◌<◌, Option, Some, None, Bool, true, false, List, [], ◌∷◌, ◌++◌, length, get_or, take, drop, ◌&&◌, ◌≤◌, refl, sym, ap, ◌∙◌, arith, add-one, append_assoc, true≢false}
use Rattle.std.proofs.Math.Seq.{drop-cons}
use Rattle.std.proofs.lemmas.List.{drop_all}
use Rattle.std.proofs.lemmas.Bool.{and_parts, and_from}
use Rattle.dfr_channels.proofs.Lawful.{or-none, unless-none}
use Rattle.dfr_channels.specs.declared.scan.Reading.{Reading}
use Rattle.comtrade_format.specs.Parts.{RowParts}
use Rattle.comtrade_format.specs.declared.fault.WriteFault.{WriteFault}
use Rattle.comtrade_format.specs.declared.fault.WriteFault.TheVariants as faults
use Rattle.comtrade_values.specs.Faults.{◌or◌, fault_unless}
use Rattle.comtrade_format.specs.Numbered.{first_from, numbered}
use Rattle.comtrade_format.specs.Refusals.{takes_reading, takes_times, takes_row, rows_refusal, WritesTaken, values_from, rows_from, stamps_from, values_refusal, value_refusal, stamp_refusal}
use Rattle.comtrade_format.specs.declared.bounds.Bounds.{Bounds}
use Rattle.std.specs.List.{list_all, flat_map}

pub first_from-step : {X F : Type 0} (f : ℕ → X → Option F) (n : ℕ) (xs : List X) (i : ℕ) (d : X) → i < length xs → first_from f (n + i) (drop i xs) ≡ (f (n + i) (get_or xs i d) or first_from f (n + (i + 1)) (drop (i + 1) xs))
first_from-step f n xs i d h =
    let e = drop-cons xs i d h in
    let s : n + i + 1 ≡ n + (i + 1) = omega arith in
    rw (e, s, add-one) refl

-- where nothing is found, f finds nothing at any item
pub first_from-none : {X F : Type 0} (f : ℕ → X → Option F) (n : ℕ) (xs : List X) (i : ℕ) (d : X) → i < length xs → first_from f n xs ≡ None → f (n + i) (get_or xs i d) ≡ None
first_from-none f n [] i d h e = absurd (omega arith)
first_from-none f n (x ∷ xs) zero d h e =
    let p = or-none (f n x) (first_from f (n + 1) xs) e in
    let s : n + 0 ≡ n = omega arith in
    rw s p.0
first_from-none f n (x ∷ xs) (suc i) d h e =
    let p = or-none (f n x) (first_from f (n + 1) xs) e in
    let s : n + suc i ≡ n + 1 + i = omega arith in
    rw s (first_from-none f (n + 1) xs i d (omega arith) p.1)

pub reading_taken : (m : Bounds) (row : ℕ) (values : List Reading) (i : ℕ) (d : Reading) → i < length values → values_refusal m row values ≡ None → takes_reading m (get_or values i d) ≡ true
unfolding values_from
reading_taken m row values i d h e =
    unless-none _ _ (first_from-none (λ channel v. fault_unless (takes_reading m v) (faults.Value row channel)) 1 values i d h e)

pub values_taken : (m : Bounds) (rows : List RowParts) (i : ℕ) (d : RowParts) → i < length rows → value_refusal m rows ≡ None → values_refusal m (1 + i) (get_or rows i d).values ≡ None
unfolding rows_from
values_taken m rows i d h e = first_from-none (λ row r. values_refusal m row r.values) 1 rows i d h e

pub times_taken : (m : Bounds) (rows : List RowParts) (i : ℕ) (d : RowParts) → i < length rows → stamp_refusal m rows ≡ None → takes_times m (get_or rows i d) ≡ true
unfolding stamps_from
times_taken m rows i d h e =
    unless-none _ _ (first_from-none (λ row r. fault_unless (takes_times m r) (faults.Stamp row)) 1 rows i d h e)

none_left : {X F : Type 0} (f : ℕ → X → Option F) (n i : ℕ) (xs : List X) → length xs ≤ i → first_from f n (drop i xs) ≡ None
none_left f n i xs h = rw (drop_all i xs h) refl

pub values_from-pass : (m : Bounds) (row : ℕ) (values : List Reading) (i : ℕ) (d : Reading) → i < length values → takes_reading m (get_or values i d) ≡ true → values_from m row (1 + (i + 1)) (drop (i + 1) values) ≡ values_from m row (1 + i) (drop i values)
unfolding values_from
values_from-pass m row values i d h e =
    let step = first_from-step (λ channel v. fault_unless (takes_reading m v) (faults.Value row channel)) 1 values i d h in
    sym (rw e at step)

pub values_from-stop : (m : Bounds) (row : ℕ) (values : List Reading) (i : ℕ) (d : Reading) → i < length values → takes_reading m (get_or values i d) ≡ false → values_from m row (1 + i) (drop i values) ≡ Some (faults.Value row (1 + i))
unfolding values_from
values_from-stop m row values i d h e =
    let step = first_from-step (λ channel v. fault_unless (takes_reading m v) (faults.Value row channel)) 1 values i d h in
    rw e at step

pub values_from-end : (m : Bounds) (row n i : ℕ) (values : List Reading) → length values ≤ i → values_from m row n (drop i values) ≡ None
unfolding values_from
values_from-end m row n i values h = none_left (λ channel v. fault_unless (takes_reading m v) (faults.Value row channel)) n i values h

-- a row whose values are all taken
pub values_from-all : (m : Bounds) (row n : ℕ) (values : List Reading) → list_all (takes_reading m) values ≡ true → values_from m row n values ≡ None
unfolding values_from
values_from-all m row n [] e = refl
values_from-all m row n (v ∷ values) e =
    let p = and_parts (takes_reading m v) (list_all (takes_reading m) values) e in
    let rest = values_from-all m row (n + 1) values p.1 in
    rw (p.0) rest

pub all_at : {X : Type 0} (test : X → Bool) (xs : List X) (i : ℕ) (d : X) → i < length xs → list_all test xs ≡ true → test (get_or xs i d) ≡ true
all_at test [] i d h e = absurd (omega arith)
all_at test (x ∷ xs) zero d h e = grind arith
all_at test (x ∷ xs) (suc i) d h e = let ih = all_at test xs i d (omega arith) in grind (arith, ih)

and_false : (b : Bool) → (b && false) ≡ false
and_false true = refl
and_false false = refl

-- one item that fails, and one more item that passes
pub not_all : {X : Type 0} (test : X → Bool) (xs : List X) (i : ℕ) (d : X) → i < length xs → test (get_or xs i d) ≡ false → list_all test xs ≡ false
not_all test [] i d h e = absurd (omega arith)
not_all test (x ∷ xs) zero d h e = rw e refl
not_all test (x ∷ xs) (suc i) d h e = let ih = not_all test xs i d (omega arith) e in rw ih (and_false (test x))

pub all_more : {X : Type 0} (test : X → Bool) (xs : List X) (i : ℕ) (d : X) → i < length xs → test (get_or xs i d) ≡ true → list_all test (take i xs) ≡ true → list_all test (take (i + 1) xs) ≡ true
all_more test [] i d h e before = absurd (omega arith)
all_more test (x ∷ xs) zero d h e before = rw e refl
all_more test (x ∷ xs) (suc i) d h e before =
    let p = and_parts (test x) (list_all test (take i xs)) before in
    let ih = all_more test xs i d (omega arith) e p.1 in
    let s : suc i + 1 ≡ suc (i + 1) = omega arith in
    rw (s, p.0) ih

-- going on where an item answers nothing, and stopping where it answers
pub first_from-pass : {X F : Type 0} (f : ℕ → X → Option F) (n : ℕ) (xs : List X) (i : ℕ) (d : X) → i < length xs → f (n + i) (get_or xs i d) ≡ None → first_from f (n + (i + 1)) (drop (i + 1) xs) ≡ first_from f (n + i) (drop i xs)
first_from-pass f n xs i d h e = let step = first_from-step f n xs i d h in sym (rw e at step)

pub first_from-stop : {X F : Type 0} (f : ℕ → X → Option F) (n : ℕ) (xs : List X) (i : ℕ) (d : X) (x : F) → i < length xs → f (n + i) (get_or xs i d) ≡ Some x → first_from f (n + i) (drop i xs) ≡ Some x
first_from-stop f n xs i d x h e = let step = first_from-step f n xs i d h in rw e at step

pub first_from-end : {X F : Type 0} (f : ℕ → X → Option F) (n i : ℕ) (xs : List X) → length xs ≤ i → first_from f n (drop i xs) ≡ None
first_from-end f n i xs h = none_left f n i xs h

or-assoc : {F : Type 0} (a b c : Option F) → ((a or b) or c) ≡ (a or b or c)
or-assoc None b c = refl
or-assoc (Some x) b c = refl

-- one more row passed: its stamp's fault joins the first one so far
pub rows_pass : (m : Bounds) (rows : List RowParts) (i : ℕ) (d : RowParts) (late : Option WriteFault) → i < length rows → values_refusal m (1 + i) (get_or rows i d).values ≡ None → (rows_from m (1 + (i + 1)) (drop (i + 1) rows) or (late or fault_unless (takes_times m (get_or rows i d)) (faults.Stamp (1 + i))) or stamps_from m (1 + (i + 1)) (drop (i + 1) rows)) ≡ (rows_from m (1 + i) (drop i rows) or late or stamps_from m (1 + i) (drop i rows))
unfolding rows_from stamps_from
rows_pass m rows i d late h e =
    let v = first_from-step (λ row r. values_refusal m row r.values) 1 rows i d h in
    let s = first_from-step (λ row r. fault_unless (takes_times m r) (faults.Stamp row)) 1 rows i d h in
    rw (v, s, e, or-assoc) refl

pub rows_stop : (m : Bounds) (rows : List RowParts) (i : ℕ) (d : RowParts) (late : Option WriteFault) (x : WriteFault) → i < length rows → values_refusal m (1 + i) (get_or rows i d).values ≡ Some x → (rows_from m (1 + i) (drop i rows) or late or stamps_from m (1 + i) (drop i rows)) ≡ Some x
unfolding rows_from
rows_stop m rows i d late x h e =
    let v = first_from-stop (λ row r. values_refusal m row r.values) 1 rows i d x h e in
    rw v refl

pub rows_end : (m : Bounds) (n i : ℕ) (rows : List RowParts) (late : Option WriteFault) → length rows ≤ i → (rows_from m n (drop i rows) or late or stamps_from m n (drop i rows)) ≡ late
unfolding rows_from stamps_from
rows_end m n i rows None h = rw (drop_all i rows h) refl
rows_end m n i rows (Some x) h = rw (drop_all i rows h) refl

numbered-step : {X Y : Type 0} (f : ℕ → X → Y) (n : ℕ) (xs : List X) (i : ℕ) (d : X) → i < length xs → numbered f (n + i) (drop i xs) ≡ f (n + i) (get_or xs i d) ∷ numbered f (n + (i + 1)) (drop (i + 1) xs)
numbered-step f n xs i d h =
    let e = drop-cons xs i d h in
    let s : n + i + 1 ≡ n + (i + 1) = omega arith in
    rw (e, s, add-one) refl

pub numbered-more : {X Y : Type 0} (f : ℕ → X → Y) (n : ℕ) (xs : List X) (i k : ℕ) (x : X) (y : Y) (out new total : List Y) → k ≡ n + i → i < length xs → x ≡ get_or xs i x → y ≡ f k x → new ≡ out ++ y ∷ [] → out ++ numbered f (n + i) (drop i xs) ≡ total → new ++ numbered f (n + (i + 1)) (drop (i + 1) xs) ≡ total
numbered-more {X} {Y} f n xs i k x y out new total number lt item made written so_far =
    let step = numbered-step f n xs i x lt in
    let here : y ≡ f (n + i) (get_or xs i x) = made ∙ ap (λ (j : ℕ). f j x) number ∙ ap (f (n + i)) item in
    ap (λ (r : List Y). r ++ numbered f (n + (i + 1)) (drop (i + 1) xs)) (written ∙ ap (λ (z : Y). out ++ z ∷ []) here)
    ∙ append_assoc out (f (n + i) (get_or xs i x) ∷ []) (numbered f (n + (i + 1)) (drop (i + 1) xs))
    ∙ ap (λ (r : List Y). out ++ r) (sym step) ∙ so_far

-- one more item is written
pub numbered-written : {X Y A : Type 0} (g : Y → List A) (f : ℕ → X → Y) (n : ℕ) (xs : List X) (i k : ℕ) (x : X) (out new total : List A) → k ≡ n + i → i < length xs → x ≡ get_or xs i x → new ≡ out ++ g (f k x) → out ++ flat_map g (numbered f (n + i) (drop i xs)) ≡ total → new ++ flat_map g (numbered f (n + (i + 1)) (drop (i + 1) xs)) ≡ total
numbered-written {X} {Y} {A} g f n xs i k x out new total number lt item written so_far =
    let rest = flat_map g (numbered f (n + (i + 1)) (drop (i + 1) xs)) in
    let step : flat_map g (numbered f (n + i) (drop i xs)) ≡ g (f (n + i) (get_or xs i x)) ++ rest = ap (flat_map g) (numbered-step f n xs i x lt) in
    let here : g (f k x) ≡ g (f (n + i) (get_or xs i x)) = ap (λ (j : ℕ). g (f j x)) number ∙ ap (λ (y : X). g (f (n + i) y)) item in
    ap (λ (r : List A). r ++ rest) (written ∙ ap (λ (r : List A). out ++ r) here)
    ∙ append_assoc out (g (f (n + i) (get_or xs i x))) rest
    ∙ ap (λ (r : List A). out ++ r) (sym step) ∙ so_far

values_all : (m : Bounds) (row n : ℕ) (values : List Reading) → values_from m row n values ≡ None → list_all (takes_reading m) values ≡ true
unfolding values_from
values_all m row n [] e = refl
values_all m row n (v ∷ values) e =
    let p = or-none (fault_unless (takes_reading m v) (faults.Value row n)) (values_from m row (n + 1) values) e in
    and_from _ _ (unless-none (takes_reading m v) (faults.Value row n) p.0) (values_all m row (n + 1) values p.1)

-- rows that are all taken have no refusal, and rows with no refusal are all taken
pub taken_none : (m : Bounds) (n : ℕ) (rows : List RowParts) → list_all (takes_row m) rows ≡ true → (rows_from m n rows ≡ None) × (stamps_from m n rows ≡ None)
unfolding rows_from stamps_from
taken_none m n [] e = (refl, refl)
taken_none m n (r ∷ rows) e =
    let p = and_parts (takes_row m r) (list_all (takes_row m) rows) e in
    let q = and_parts (list_all (takes_reading m) r.values) (takes_times m r) p.0 in
    let rest = taken_none m (n + 1) rows p.1 in
    let v = values_from-all m n 1 r.values q.0 in
    (rw v rest.0, rw (q.1) rest.1)

pub none_taken : (m : Bounds) (n : ℕ) (rows : List RowParts) → rows_from m n rows ≡ None → stamps_from m n rows ≡ None → list_all (takes_row m) rows ≡ true
unfolding rows_from stamps_from
none_taken m n [] e f = refl
none_taken m n (r ∷ rows) e f =
    let p = or-none (values_refusal m n r.values) (rows_from m (n + 1) rows) e in
    let q = or-none (fault_unless (takes_times m r) (faults.Stamp n)) (stamps_from m (n + 1) rows) f in
    and_from _ _ (and_from _ _ (values_all m n 1 r.values p.0) (unless-none (takes_times m r) (faults.Stamp n) q.0)) (none_taken m (n + 1) rows p.1 q.1)

pub refusal_none : (m : Bounds) (rows : List RowParts) → list_all (takes_row m) rows ≡ true → rows_refusal m rows ≡ None
refusal_none m rows e = let t = taken_none m 1 rows e in rw (t.0) (t.1)

pub refusal_some : (m : Bounds) (rows : List RowParts) → list_all (takes_row m) rows ≡ false → ¬ (rows_refusal m rows ≡ None)
refusal_some m rows e n =
    let p = or-none (value_refusal m rows) (stamp_refusal m rows) n in
    let t = none_taken m 1 rows p.0 p.1 in
    true≢false (sym t ∙ e)

pub written_if : (b all : Bool) (P : Type 0) → b ≡ true → WritesTaken b all P → (all ≡ true) × P
written_if true all P e w = w
written_if false all P e w = cc

pub refused_if : (b all : Bool) (P : Type 0) → b ≡ false → WritesTaken b all P → all ≡ false
refused_if true all P e w = cc
refused_if false all P e w = w
