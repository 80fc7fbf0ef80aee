-- What follows of lines that say a head: how they end, and how many channels there are.
use Rattle.std.proofs.Common.{◌≡◌, ℕ, ◌+◌, ◌<◌, ◌≤◌, max, Bool, true, false, cond, eqb, leb, ltb, List, [], ◌∷◌, length, Option, Some, None, refl, ap, ◌∙◌, arith}
use Rattle.std.specs.Prelude.{◌≢◌, ◌&&◌, Result, Ok, Err, ℤ, pos, negsuc}
use Rattle.std.specs.List.{AllByRecursion}
use Rattle.std.proofs.lemmas.Bool.{and_parts, eqb-true, leb-true}
use Rattle.comtrade_values.specs.Spelling.{whole_number, decimal_number, Number}
use Rattle.comtrade_values.specs.Lines.{field}
use Rattle.comtrade_values.specs.Fields.{up_to, free_scale, free_bit}
use Rattle.dfr_channels.specs.LineFields.{side, many, need, analog_from, status_from}
use Rattle.dfr_channels.specs.Parts.{AnalogParts, StatusParts}
use Rattle.comtrade_format.specs.declared.file.Kind.{Kind}
use Rattle.comtrade_format.specs.declared.file.Rate.{Rate}
use Rattle.comtrade_format.specs.Parts.{HeadParts}
use Rattle.comtrade_read.specs.declared.fault.ReadFault.{ReadFault}
use Rattle.comtrade_read.specs.declared.fault.ReadFault.TheVariants as faults
use Rattle.comtrade_read.specs.Fields.{whole, natural, small, ten_digits, scale, count}
use Rattle.comtrade_read.specs.Instant.{date, time}
use Rattle.comtrade_read.specs.Line.{Fault, number, Left, from_first, next, each, end}
use Rattle.comtrade_read.specs.Head.{last_sample, kind, is_number, revision, names_line, counts_line, analog_line, status_line, rate_line, instant_line, frequency_line, nrates_line, kind_line, timemult_line, next_analog, next_status, next_rate, EndParts, ending, TailParts, tail, head}
use Rattle.comtrade_read.proofs.LineByLine.{follow_said, next_said, told_said, none_said, next_to, each_to}
use Rattle.comtrade_read.proofs.LineEnds.{EndsPlain, EndsFull}
use Rattle.comtrade_read.proofs.NoReturn.{ends_plain, no_return, whole_plain, natural_plain, free_bit_plain, scale_plain, free_scale_plain, side_plain, count_plain, time_plain, kind_plain}

-- ---- fields

pub many_said : {A : Type 0} (n : ℕ) (fs : List (List ℕ)) (r : Result A Fault) (x : A) → many n faults.Fields fs r ≡ Ok x → (length fs ≡ n) × (r ≡ Ok x)
many_said n fs r x e = with_test (eqb (length fs) n) refl e
  where
    with_test : (b : Bool) → eqb (length fs) n ≡ b → cond b r (Err faults.Fields) ≡ Ok x → (length fs ≡ n) × (r ≡ Ok x)
    with_test true t h = (eqb-true _ _ t, h)
    with_test false t h = absurd cc

pub need_said : {A B : Type 0} (o : Option A) (fault : Fault) (more : A → Result B Fault) (y : B) → need o fault more ≡ Ok y → (x : A) × (o ≡ Some x) × (more x ≡ Ok y)
need_said None fault more y e = absurd cc
need_said (Some x) fault more y e = (x, refl, e)

pub test_said : {A F : Type 0} (b : Bool) (x : A) (fault : F) (y : A) → cond b (Ok x) (Err fault) ≡ Ok y → (b ≡ true) × (x ≡ y)
test_said true x fault y e = (refl, cc)
test_said false x fault y e = absurd cc

else_said : {A : Type 0} (b : Bool) (fault : Fault) (r : Result A Fault) (y : A) → cond b (Err fault) r ≡ Ok y → r ≡ Ok y
else_said true fault r y e = absurd cc
else_said false fault r y e = e

number_is : (n : ℕ) (o : Option ℤ) → is_number n o ≡ true → o ≡ Some (pos n)
number_is n None e = absurd cc
number_is n (Some (pos m)) e = ap (λ (x : ℕ). Some (pos x)) (eqb-true m n e)
number_is n (Some (negsuc m)) e = absurd cc

one_said : {A : Type 0} (o : Option A) (fault : Fault) (fs : List (List ℕ)) (x : A) → many 1 faults.Fields fs (need o fault (λ y. Ok y)) ≡ Ok x → (length fs ≡ 1) × (y : A) × (o ≡ Some y)
one_said o fault fs x e =
    let a = many_said 1 fs (need o fault (λ y. Ok y)) x e in
    let b = need_said o fault (λ y. Ok y) x a.1 in
    (a.0, b.0, b.1)

-- ---- how a line of each kind ends

names_plain : (fs : List (List ℕ)) (x : List ℕ × List ℕ) → names_line fs ≡ Ok x → EndsPlain fs
unfolding names_line
names_plain fs x e =
    let a = many_said 3 fs _ x (else_said (eqb (length fs) 2) revision _ x e) in
    let b = test_said (is_number 1999 (whole (field fs 2))) (field fs 0, field fs 1) revision x a.1 in
    no_return fs 2 a.0 (whole_plain (field fs 2) (pos 1999) (number_is 1999 (whole (field fs 2)) b.0))

counts_said : (fs : List (List ℕ)) (x : ℕ × ℕ) → counts_line fs ≡ Ok x → (length fs ≡ 3) × (total : ℕ) × (m : ℕ) × (natural 999999 (field fs 0) ≡ Some total) × (count 68 (field fs 2) ≡ Some m) × (total ≡ x.0 + x.1)
unfolding counts_line
counts_said fs x e =
    let a = many_said 3 fs _ x e in
    let t = need_said (natural 999999 (field fs 0)) (number 1) _ x a.1 in
    let k = need_said (count 65 (field fs 1)) (number 2) _ x t.2 in
    let m = need_said (count 68 (field fs 2)) (number 3) _ x k.2 in
    let b = test_said (eqb t.0 (k.0 + m.0) && ltb 0 t.0) (k.0, m.0) faults.Counts x m.2 in
    let sum : t.0 ≡ k.0 + m.0 = eqb-true t.0 (k.0 + m.0) (and_parts (eqb t.0 (k.0 + m.0)) (ltb 0 t.0) b.0).0 in
    let both : (k.0, m.0) ≡ x = b.1 in
    (a.0, t.0, m.0, t.1, m.1, sum ∙ ap (λ (p : ℕ × ℕ). p.0 + p.1) both)

counts_plain : (fs : List (List ℕ)) (x : ℕ × ℕ) → counts_line fs ≡ Ok x → EndsPlain fs
counts_plain fs x e = let c = counts_said fs x e in ends_plain fs 2 c.0 (count_plain 68 (field fs 2) c.2 refl c.4)

analog_plain : (n : ℕ) (fs : List (List ℕ)) (x : AnalogParts) → analog_line n fs ≡ Ok x → EndsPlain fs
unfolding analog_line analog_from
analog_plain n fs x e =
    let a = many_said 13 fs _ x e in
    let b = need_said (whole (field fs 0)) (number 1) _ x a.1 in
    let f = follow_said (analog_from 1 number small fs) _ x b.2 in
    let c = need_said (decimal_number (field fs 5)) (number 6) _ f.0 f.1 in
    let d = need_said (free_scale (field fs 6)) (number 7) _ f.0 c.2 in
    let g = need_said (free_scale (field fs 7)) (number 8) _ f.0 d.2 in
    let h = need_said (small (field fs 8)) (number 9) _ f.0 g.2 in
    let i = need_said (small (field fs 9)) (number 10) _ f.0 h.2 in
    let j = need_said (free_scale (field fs 10)) (number 11) _ f.0 i.2 in
    let k = need_said (free_scale (field fs 11)) (number 12) _ f.0 j.2 in
    let l = need_said (side (field fs 12)) (number 13) _ f.0 k.2 in
    no_return fs 12 a.0 (side_plain (field fs 12) l.0 l.1)

status_plain : (n : ℕ) (fs : List (List ℕ)) (x : StatusParts) → status_line n fs ≡ Ok x → EndsPlain fs
unfolding status_line status_from
status_plain n fs x e =
    let a = many_said 5 fs _ x e in
    let b = need_said (whole (field fs 0)) (number 1) _ x a.1 in
    let f = follow_said (status_from 1 number fs) _ x b.2 in
    let c = need_said (free_bit (field fs 4)) (number 5) _ f.0 f.1 in
    no_return fs 4 a.0 (free_bit_plain (field fs 4) c.0 c.1)

frequency_plain : (fs : List (List ℕ)) (x : Number) → frequency_line fs ≡ Ok x → EndsPlain fs
frequency_plain fs x e = let a = one_said (free_scale (field fs 0)) (number 1) fs x e in no_return fs 0 a.0 (free_scale_plain (field fs 0) a.1 a.2)

nrates_plain : (fs : List (List ℕ)) (x : ℕ) → nrates_line fs ≡ Ok x → EndsPlain fs
nrates_plain fs x e = let a = one_said (natural 999 (field fs 0)) (number 1) fs x e in no_return fs 0 a.0 (natural_plain 999 (field fs 0) a.1 a.2)

rate_plain : (before : ℕ) (fs : List (List ℕ)) (x : Rate) → rate_line before fs ≡ Ok x → EndsPlain fs
unfolding rate_line
rate_plain before fs x e =
    let a = many_said 2 fs _ x e in
    let b = need_said (scale (field fs 0)) (number 1) _ x a.1 in
    let c = need_said (natural ten_digits (field fs 1)) (number 2) _ x b.2 in
    no_return fs 1 a.0 (natural_plain ten_digits (field fs 1) c.0 c.1)

instant_plain : (fs : List (List ℕ)) (x : ℤ) → instant_line fs ≡ Ok x → EndsPlain fs
unfolding instant_line
instant_plain fs x e =
    let a = many_said 2 fs _ x e in
    let b = need_said (date (field fs 0)) faults.Instant _ x a.1 in
    let c = need_said (time (field fs 1)) faults.Instant _ x b.2 in
    no_return fs 1 a.0 (time_plain (field fs 1) c.0 c.1)

kind_ends : (fs : List (List ℕ)) (x : Kind) → kind_line fs ≡ Ok x → EndsPlain fs
kind_ends fs x e = let a = one_said (kind (field fs 0)) (λ line. faults.Kind) fs x e in no_return fs 0 a.0 (kind_plain (field fs 0) a.1 a.2)

no_scale : (fs : List (List ℕ)) (x : Number) → scale (field fs 0) ≡ Some x → fs ≢ [] ∷ []
unfolding scale
no_scale fs x h e = let g : scale [] ≡ Some x = rw e at h in absurd cc

timemult_plain : (fs : List (List ℕ)) (x : Number) → timemult_line fs ≡ Ok x → EndsPlain fs × (fs ≢ [] ∷ [])
timemult_plain fs x e =
    let a = one_said (scale (field fs 0)) (number 1) fs x e in
    (no_return fs 0 a.0 (scale_plain (field fs 0) a.1 a.2), no_scale fs a.1 a.2)

up_high : (high n : ℕ) (o : Option ℤ) → up_to high o ≡ Some n → n ≤ high
up_high high n None e = absurd cc
up_high high n (Some (pos m)) e = with_test (leb m high) refl e
  where
    with_test : (b : Bool) → leb m high ≡ b → cond b (Some m) None ≡ Some n → n ≤ high
    with_test true t h = let mn : m ≡ n = cc in rw (← mn) (leb-true m high t)
    with_test false t h = absurd cc
up_high high n (Some (negsuc m)) e = absurd cc

natural_high : (high : ℕ) (f : List ℕ) (n : ℕ) → natural high f ≡ Some n → n ≤ high
unfolding natural
natural_high high f n e = up_high high n (whole_number f) e

few_counted : (fs : List (List ℕ)) (x : ℕ × ℕ) → counts_line fs ≡ Ok x → x.0 + x.1 < 1000000
few_counted fs x e = let c = counts_said fs x e in omega (arith, natural_high 999999 (field fs 0) c.1 c.3, c.5)

-- ---- lines

-- what holds of the lines of a head, and of those after some of them
pub record Said (ls : List (List (List ℕ))) : Type 0 where
  pub some : 0 < length ls
  pub plain : AllByRecursion EndsPlain ls
  pub full : EndsFull ls

add : (fs : List (List ℕ)) (ls : List (List (List ℕ))) → EndsPlain fs → Said ls → Said (fs ∷ ls)
add fs [] p s = absurd (omega (arith, s.some))
add fs (l ∷ ls) p s = record { some = omega arith; plain = (p, s.plain); full = s.full }

ending_said : (left : Left) (e : EndParts) → ending left ≡ Ok e → Said left.lines
unfolding ending
ending_said left y e =
    let a = follow_said (next instant_line left) _ y e in
    let b = follow_said (next instant_line a.0.1) _ y a.2 in
    let c = follow_said (next kind_line b.0.1) _ y b.2 in
    let d = follow_said (next timemult_line c.0.1) _ y c.2 in
    let z = follow_said (end d.0.1) _ y d.2 in
    let last = next_said timemult_line c.0.1 d.0 d.1 in
    let p = timemult_plain last.0 d.0.0 (told_said c.0.1.line (timemult_line last.0) d.0.0 last.2) in
    let is : c.0.1.lines ≡ last.0 ∷ [] = last.1 ∙ ap (λ (l : List (List (List ℕ))). last.0 ∷ l) (none_said d.0.1 z.0 z.1) in
    let said : Said c.0.1.lines = rw is (record { some = omega arith; plain = (p.0, tt); full = p.1 }) in
    next_to instant_line left a.0 Said (λ fs rest x s. add fs rest (instant_plain fs x s)) a.1
    (next_to instant_line a.0.1 b.0 Said (λ fs rest x s. add fs rest (instant_plain fs x s)) b.1
    (next_to kind_line b.0.1 c.0 Said (λ fs rest x s. add fs rest (kind_ends fs x s)) c.1 said))

tail_said : (left : Left) (t : TailParts) → tail left ≡ Ok t → Said left.lines
unfolding tail
tail_said left t e =
    let a = follow_said (next frequency_line left) _ t e in
    let b = follow_said (next nrates_line a.0.1) _ t a.2 in
    let c = follow_said (each next_rate (max 1 b.0.0) [] b.0.1) _ t b.2 in
    let d = follow_said (ending c.0.1) _ t c.2 in
    next_to frequency_line left a.0 Said (λ fs rest x s. add fs rest (frequency_plain fs x s)) a.1
    (next_to nrates_line a.0.1 b.0 Said (λ fs rest x s. add fs rest (nrates_plain fs x s)) b.1
    (each_to next_rate (max 1 b.0.0) [] b.0.1 c.0 Said (λ xs fs rest x s. add fs rest (rate_plain (last_sample xs) fs x s)) c.1 (ending_said c.0.1 d.0 d.1)).1)

pub head_said : (ls : List (List (List ℕ))) (h : HeadParts) → head ls ≡ Ok h → Said ls × (length h.analog + length h.status < 1000000)
unfolding head
head_said ls h e =
    let a = follow_said (next names_line (from_first ls)) _ h e in
    let b = follow_said (next counts_line a.0.1) _ h a.2 in
    let c = follow_said (each next_analog b.0.0.0 [] b.0.1) _ h b.2 in
    let d = follow_said (each next_status b.0.0.1 [] c.0.1) _ h c.2 in
    let t = follow_said (tail d.0.1) _ h d.2 in
    let status = each_to next_status b.0.0.1 [] c.0.1 d.0 Said (λ xs fs rest x s. add fs rest (status_plain (length xs + 1) fs x s)) d.1 (tail_said d.0.1 t.0 t.1) in
    let analog = each_to next_analog b.0.0.0 [] b.0.1 c.0 Said (λ xs fs rest x s. add fs rest (analog_plain (length xs + 1) fs x s)) c.1 status.1 in
    let counts = next_said counts_line a.0.1 b.0 b.1 in
    let few = few_counted counts.0 b.0.0 (told_said a.0.1.line (counts_line counts.0) b.0.0 counts.2) in
    let analog_is : c.0.0 ≡ h.analog = ap (λ (r : Result HeadParts ReadFault). analog_in r) t.2 in
    let status_is : d.0.0 ≡ h.status = ap (λ (r : Result HeadParts ReadFault). status_in r) t.2 in (
      next_to names_line (from_first ls) a.0 Said (λ fs rest x s. add fs rest (names_plain fs x s)) a.1
          (next_to counts_line a.0.1 b.0 Said (λ fs rest x s. add fs rest (counts_plain fs x s)) b.1 analog.1),
      omega (arith, few, analog.0, status.0, ap length analog_is, ap length status_is),
    )
  where
    analog_in : Result HeadParts ReadFault → List AnalogParts
    analog_in (Ok h) = h.analog
    analog_in (Err e) = []

    status_in : Result HeadParts ReadFault → List StatusParts
    status_in (Ok h) = h.status
    status_in (Err e) = []
