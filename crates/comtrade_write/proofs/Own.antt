-- No writer refuses the File of a record that matches the layout.
use Rattle.std.proofs.Common.{◌≡◌, ℕ, zero, suc, ◌+◌, ◌-◌, ◌*◌, ◌/◌, ◌<◌, ◌≤◌, Bool, true, false, ◌&&◌, Option, Some, None, List, [], ◌∷◌, length, refl, ap, arith, ℤ, pos, negsuc, ◌≤ℤ◌, ◌+ℤ◌, nat_le, ◌==◌, if◌then◌else◌, is_some, is_none}
use Rattle.std.specs.Prelude.{int_le}
use Rattle.std.proofs.Math.Nat.{div-mul-le_self}
use Rattle.std.proofs.lemmas.Nat.{le-div}
use Rattle.std.proofs.lemmas.Int.{ints}
use Rattle.std.proofs.lemmas.Bool.{and_parts, and_from}
use Rattle.std.proofs.lemmas.Bool.Decides.{nat_tests}
use Rattle.std.specs.List.{list_all}
use Rattle.comtrade_values.specs.Spelling.{Number}
use Rattle.comtrade_values.specs.Texts.{is_plain}
use Rattle.comtrade_values.proofs.Comparing.{le-so, int_le-so, int_le-true}
use Rattle.dfr_channels.specs.Parts.{AnalogParts, StatusParts, ScanParts, SetupParts}
use Rattle.dfr_channels.specs.Setups.{has_span, has_analog_texts, has_status_texts, IsLawful}
use Rattle.dfr_channels.specs.Scans.{micros, is_within, has_shape, lowest_out, scan_fault}
use Rattle.dfr_channels.specs.declared.scan.Reading.{Reading}
use Rattle.dfr_channels.specs.declared.scan.Reading.TheVariants.{Value, Missing}
use Rattle.dfr_channels.specs.declared.layout.ScanFault.TheVariants.{Range}
use Rattle.dfr_channels.proofs.Lawful.{or-none, unless-none, map-none}
use Rattle.dfr_recorder.specs.Parts.{RecordParts, IsWhole}
use Rattle.dfr_recorder.specs.Own.{passes, has_instant, is_own}
use Rattle.comtrade_format.specs.declared.bounds.Bounds.{Bounds}
use Rattle.comtrade_format.specs.declared.file.Kind.{Kind}
use Rattle.comtrade_format.specs.Numbered.{first_from, numbered}
use Rattle.comtrade_format.specs.Shape.{channels_fit, rates_end, is_some_of, is_writable, has_bounds, head_shaped, row_shaped, is_shaped}
use Rattle.comtrade_format.specs.Refusals.{ascii_bounds, binary_bounds, takes_reading, values_from, rows_from, stamps_from, data_refusal, analog_refusal, status_refusal, text_refusal, cfg_refusal}
use Rattle.comtrade_format.specs.Data.{IsWritable}
use Rattle.comtrade_write.specs.OfRecord.{whole, instant_at, head_of, row_of, file}

pub record Own (l : SetupParts) (r : RecordParts) : Type 0 where
  pub scans : list_all (passes l) r.scans ≡ true
  pub last : has_instant l r.extent.last ≡ true
  pub stamps : micros l.rate (length r.scans - 1) ≤ 4_294_967_294

pub own_parts : (l : SetupParts) (r : RecordParts) → is_own l r ≡ true → Own l r
unfolding is_own
own_parts l r e =
    let b = and_parts _ _ e in
    let a = and_parts _ _ b.0 in
    record { scans = a.0; last = a.1; stamps = le-so _ _ b.1 }

div_le : (a b n : ℕ) → a ≤ b → a / n ≤ b / n
div_le a b zero h = omega arith
div_le a b (suc n) h = le-div (a / suc n) b (suc n) (omega arith) (omega (arith, h, div-mul-le_self a (suc n)))

micros_le : (rate a b : ℕ) → a ≤ b → micros rate a ≤ micros rate b
micros_le rate a b h = div_le (a * 1_000_000) (b * 1_000_000) rate (omega arith)

mul_le : (a b c : ℕ) → b ≤ c → a * b ≤ a * c
mul_le zero b c h = omega arith
mul_le (suc a) b c h = let ih = mul_le a b c h in omega (arith, ih)

-- at a rate of at most a million, a place is at most its microseconds
place_le : (rate a : ℕ) → 1 ≤ rate → rate ≤ 1_000_000 → a ≤ micros rate a
place_le rate a low high = le-div a (a * 1_000_000) rate low (mul_le a rate 1_000_000 high)

-- a record that matches the layout has few scans, and low stamps
pub scans_few : (l : SetupParts) (r : RecordParts) → IsLawful l → Own l r → length r.scans ≤ 4_294_967_295
scans_few l r p o = omega (arith, o.stamps, place_le l.rate (length r.scans - 1) p.rate_low p.rate_high)

pub stamps_low : (l : SetupParts) (r : RecordParts) → Own l r → (i : ℕ) → i < length r.scans → micros l.rate i ≤ 4_294_967_294
stamps_low l r o i h =
    let step = micros_le l.rate i (length r.scans - 1) (omega (arith, h)) in
    omega (arith, o.stamps, step)

nat_le-is : (a b : ℕ) → a ≤ b → nat_le a b ≡ true
nat_le-is a b h = grind (arith, nat_tests)

same : (n : ℕ) → (n == n) ≡ true
same n = grind (arith, nat_tests)

some_if : (b : Bool) (t : ℤ) → is_some (if b then Some t else None) ≡ true → b ≡ true
some_if true t e = refl
some_if false t e = e

if_some : (b : Bool) (t : ℤ) → b ≡ true → is_some (if b then Some t else None) ≡ true
if_some true t e = refl
if_some false t e = e

in_time : (l : SetupParts) (k : ℕ) → has_instant l k ≡ true → instant_at l k ≤ℤ pos 253_402_300_799_999_999
in_time l k e = int_le-so _ _ (some_if (int_le (instant_at l k) (pos 253_402_300_799_999_999)) (instant_at l k) e)

below : (s : ℤ) (a b : ℕ) → a ≤ b → (s +ℤ pos b) ≤ℤ pos 253_402_300_799_999_999 → (s +ℤ pos a) ≤ℤ pos 253_402_300_799_999_999
below s a b h top = omega (arith, ints, h, top)

above : (s : ℤ) (a : ℕ) → pos 0 ≤ℤ s → negsuc 62_135_596_799_999_999 ≤ℤ (s +ℤ pos a)
above s a low = omega (arith, ints, low)

earlier_in_time : (l : SetupParts) (i k : ℕ) → i ≤ k → has_instant l k ≡ true → instant_at l i ≤ℤ pos 253_402_300_799_999_999
earlier_in_time l i k h e = below l.start (micros l.rate i) (micros l.rate k) (micros_le l.rate i k h) (in_time l k e)

-- where a scan has an instant, an earlier one has
pub earlier_instant : (l : SetupParts) (i k : ℕ) → i ≤ k → has_instant l k ≡ true → has_instant l i ≡ true
earlier_instant l i k h e = if_some _ _ (int_le-true _ _ (earlier_in_time l i k h e))

-- an instant that is there lies from the start to the year 9999
instant_fits : (l : SetupParts) (i k : ℕ) → pos 0 ≤ℤ l.start → i ≤ k → has_instant l k ≡ true → is_writable (instant_at l i) ≡ true
instant_fits l i k low h e =
    and_from _ _ (int_le-true _ _ (above l.start (micros l.rate i) low)) (int_le-true _ _ (earlier_in_time l i k h e))

length_numbered : {X Y : Type 0} (f : ℕ → X → Y) (n : ℕ) (xs : List X) → length (numbered f n xs) ≡ length xs
length_numbered f n [] = refl
length_numbered f n (x ∷ xs) = ap suc (length_numbered f (n + 1) xs)

-- what each item passes, if it passes that
all_so : {X : Type 0} (p q : X → Bool) (xs : List X) → ((x : X) → p x ≡ true → q x ≡ true) → list_all p xs ≡ true → list_all q xs ≡ true
all_so p q [] f e = refl
all_so p q (x ∷ xs) f e =
    let a = and_parts (p x) (list_all p xs) e in
    and_from _ _ (f x a.0) (all_so p q xs f a.1)

record Span (c : AnalogParts) : Type 0 where
  pub low : negsuc 32_766 ≤ℤ c.min
  pub order : c.min ≤ℤ c.max
  pub high : c.max ≤ℤ pos 32_767

span_parts : (c : AnalogParts) → has_span c ≡ true → Span c
span_parts c e =
    let b = and_parts (int_le (negsuc 32_766) c.min && int_le c.min c.max) (int_le c.max (pos 32_767)) e in
    let a = and_parts (int_le (negsuc 32_766) c.min) (int_le c.min c.max) b.0 in
    record { low = int_le-so _ _ a.0; order = int_le-so _ _ a.1; high = int_le-so _ _ b.1 }

span_bounds : (c : AnalogParts) → has_span c ≡ true → has_bounds c ≡ true
span_bounds c e =
    let s = span_parts c e in
    and_from _ _ (and_from _ _ (int_le-true (negsuc 99_998) c.min (omega (arith, ints, s.low))) (int_le-true c.min (pos 99_999) (omega (arith, ints, s.order, s.high))))
    (and_from _ _ (int_le-true (negsuc 99_998) c.max (omega (arith, ints, s.low, s.order))) (int_le-true c.max (pos 99_999) (omega (arith, ints, s.high))))

-- a scan that passes has the layout's channels, and each value in its channel's range
record Passed (l : SetupParts) (x : ScanParts) : Type 0 where
  pub shape : has_shape l x ≡ true
  pub within : lowest_out 0 l.analog x.analog ≡ None

none_so : {F : Type 0} (o : Option F) → is_none o ≡ true → o ≡ None
none_so None e = refl
none_so (Some x) e = absurd cc

passed : (l : SetupParts) (x : ScanParts) → passes l x ≡ true → Passed l x
unfolding scan_fault
passed l x e =
    let a = or-none _ _ (none_so _ e) in
    record { shape = unless-none _ _ a.0; within = map-none Range (lowest_out 0 l.analog x.analog) a.1 }

rows_fit : (l : SetupParts) (n : ℕ) (xs : List ScanParts) → list_all (passes l) xs ≡ true → list_all (row_shaped (length l.analog) (length l.status)) (numbered (row_of l.rate) n xs) ≡ true
rows_fit l n [] e = refl
rows_fit l n (x ∷ xs) e =
    let a = and_parts (passes l x) (list_all (passes l) xs) e in
    and_from _ _ (passed l x a.0).shape (rows_fit l (n + 1) xs a.1)

-- nothing is found where no item gives anything
none_of : {X F : Type 0} (f : ℕ → X → Option F) (n : ℕ) (xs : List X) (p : X → Bool) → ((k : ℕ) (x : X) → p x ≡ true → f k x ≡ None) → list_all p xs ≡ true → first_from f n xs ≡ None
none_of f n [] p g e = refl
none_of f n (x ∷ xs) p g e =
    let a = and_parts (p x) (list_all p xs) e in
    rw (g n x a.0) (none_of f (n + 1) xs p g a.1)

analog_none : (k : ℕ) (c : AnalogParts) → has_analog_texts c ≡ true → analog_refusal k c ≡ None
unfolding analog_refusal has_analog_texts
analog_none k c e =
    let d = and_parts (is_plain 0 64 c.id && is_plain 0 2 c.phase && is_plain 0 64 c.component) (is_plain 1 32 c.unit) e in
    let b = and_parts (is_plain 0 64 c.id && is_plain 0 2 c.phase) (is_plain 0 64 c.component) d.0 in
    let a = and_parts (is_plain 0 64 c.id) (is_plain 0 2 c.phase) b.0 in
    rw (a.0, a.1, b.1, d.1) refl

status_none : (k : ℕ) (c : StatusParts) → has_status_texts c ≡ true → status_refusal k c ≡ None
unfolding status_refusal has_status_texts
status_none k c e =
    let b = and_parts (is_plain 0 64 c.id && is_plain 0 2 c.phase) (is_plain 0 64 c.component) e in
    let a = and_parts (is_plain 0 64 c.id) (is_plain 0 2 c.phase) b.0 in
    rw (a.0, a.1, b.1) refl

texts_none : (l : SetupParts) (r : RecordParts) (kind : Kind) → IsLawful l → text_refusal (head_of l r kind) ≡ None
texts_none l r kind p =
    let analog = none_of analog_refusal 3 l.analog has_analog_texts analog_none p.analog_texts in
    let status = none_of status_refusal (3 + length l.analog) l.status has_status_texts status_none p.status_texts in
    rw (p.station, p.device, analog, status) refl

-- a reading within its channel's span is taken by both kinds
reading_fits : (m : Bounds) (c : AnalogParts) (v : Reading) → m.low ≤ℤ negsuc 32_766 → pos 32_767 ≤ℤ m.high → has_span c ≡ true → is_within c v ≡ true → takes_reading m v ≡ true
reading_fits m c Missing low high s e = refl
reading_fits m c (Value x) low high s e =
    let p = span_parts c s in
    let r = and_parts (int_le c.min x) (int_le x c.max) e in
    let d : c.min ≤ℤ x = int_le-so _ _ r.0 in
    let f : x ≤ℤ c.max = int_le-so _ _ r.1 in
    and_from _ _ (int_le-true m.low x (omega (arith, ints, p.low, d, low))) (int_le-true x m.high (omega (arith, ints, p.high, f, high)))

within_here : (b : Bool) (i : ℕ) (rest : Option ℕ) → (if b then rest else Some i) ≡ None → (b ≡ true) × (rest ≡ None)
within_here true i rest e = (refl, e)
within_here false i rest e = absurd cc

values_none : (m : Bounds) (row n i : ℕ) (cs : List AnalogParts) (vs : List Reading) → m.low ≤ℤ negsuc 32_766 → pos 32_767 ≤ℤ m.high → length vs ≡ length cs → list_all has_span cs ≡ true → lowest_out i cs vs ≡ None → values_from m row n vs ≡ None
unfolding values_from
values_none m row n i cs [] low high len s e = refl
values_none m row n i [] (v ∷ vs) low high len s e = absurd (omega (arith, len))
values_none m row n i (c ∷ cs) (v ∷ vs) low high len s e =
    let a = and_parts (has_span c) (list_all has_span cs) s in
    let b = within_here (is_within c v) i (lowest_out (i + 1) cs vs) e in
    rw (reading_fits m c v low high a.0 b.0) (values_none m row (n + 1) (i + 1) cs vs low high (omega (arith, len)) a.1 b.1)

rows_none : (m : Bounds) (l : SetupParts) (n : ℕ) (xs : List ScanParts) → m.low ≤ℤ negsuc 32_766 → pos 32_767 ≤ℤ m.high → list_all has_span l.analog ≡ true → list_all (passes l) xs ≡ true → rows_from m n (numbered (row_of l.rate) n xs) ≡ None
unfolding rows_from
rows_none m l n [] low high s e = refl
rows_none m l n (x ∷ xs) low high s e =
    let a = and_parts (passes l x) (list_all (passes l) xs) e in
    let q = passed l x a.0 in
    let c = and_parts (length x.analog == length l.analog) (length x.status == length l.status) q.shape in
    let len : length x.analog ≡ length l.analog = grind (arith, nat_tests, c.0) in
    rw (values_none m n 1 0 l.analog x.analog low high len s q.within) (rows_none m l (n + 1) xs low high s a.1)

stamps_none : (m : Bounds) (rate n : ℕ) (xs : List ScanParts) → 1 ≤ n → 4_294_967_295 ≤ m.number → 4_294_967_294 ≤ m.stamp → n + length xs ≤ 4_294_967_296 → ((i : ℕ) → i < n - 1 + length xs → micros rate i ≤ 4_294_967_294) → stamps_from m n (numbered (row_of rate) n xs) ≡ None
unfolding stamps_from
stamps_none m rate n [] one number stamp few low = refl
stamps_none m rate n (x ∷ xs) one number stamp few low =
    let here = low (n - 1) (omega arith) in
    let a = nat_le-is n m.number (omega arith) in
    let b = nat_le-is (micros rate (n - 1)) m.stamp (omega (arith, here)) in
    rw (a, b) (stamps_none m rate (n + 1) xs (omega arith) number stamp (omega arith) (λ i h. low i (omega arith)))

channels_so : (k m : ℕ) → k ≤ 256 → m ≤ 256 → 1 ≤ k + m → channels_fit k m ≡ true
channels_so k m a b c = grind (arith, nat_tests, a, b, c)

counted : (d : Number) (n len : ℕ) → n ≤ 9_999_999_999 → len ≡ n → is_some_of (rates_end 0 (record { samp = d; endsamp = n } ∷ [])) len ≡ true
counted d n len h e =
    let a = nat_le-is 0 n (omega arith) in
    let b = nat_le-is n 9_999_999_999 h in
    rw (a, b, e) (same n)

pub own_writable : (l : SetupParts) (r : RecordParts) (kind : Kind) → IsLawful l → IsWhole r → is_own l r ≡ true → IsWritable (file l r kind)
unfolding file data_refusal cfg_refusal is_shaped head_shaped
own_writable l r kind p w own =
    let o = own_parts l r own in
    let few = scans_few l r p o in
    let low = stamps_low l r o in
    let channels = channels_so (length l.analog) (length l.status) p.analog_few p.status_few p.some in
    let first = instant_fits l r.extent.first r.extent.last p.start_low (omega (arith, w.begun, w.ended)) o.last in
    let trigger = instant_fits l r.extent.trigger r.extent.last p.start_low w.ended o.last in
    let bounds = all_so has_span has_bounds l.analog span_bounds p.spans in
    let head : head_shaped (head_of l r kind) ≡ true = and_from _ _ (and_from _ _ (and_from _ _ channels refl) (and_from _ _ first trigger)) bounds in
    let ends = counted (whole l.rate) (length r.scans) (length (numbered (row_of l.rate) 1 r.scans)) (omega (arith, few)) (length_numbered (row_of l.rate) 1 r.scans) in
    let rows = rows_fit l 1 r.scans o.scans in
    let shaped : is_shaped (file l r kind) ≡ true = and_from _ _ (and_from _ _ head ends) rows in
    let texts = texts_none l r kind p in
    let stamps = λ (m : Bounds) (a : 4_294_967_295 ≤ m.number) (b : 4_294_967_294 ≤ m.stamp). stamps_none m l.rate 1 r.scans (omega arith) a b (omega (arith, few)) (λ i h. low i (omega (arith, h))) in
    let ascii_values = rows_none ascii_bounds l 1 r.scans (omega (arith, ints)) (omega (arith, ints)) p.spans o.scans in
    let binary_values = rows_none binary_bounds l 1 r.scans (omega (arith, ints)) (omega (arith, ints)) p.spans o.scans in
    record {
      cfg = rw (shaped, texts) refl;
      ascii = rw (shaped, ascii_values, stamps ascii_bounds (omega arith) (omega arith)) refl;
      binary = rw (shaped, binary_values, stamps binary_bounds (omega arith) (omega arith)) refl;
    }
