-- What each line of a head that is read says, by its number.
use Rattle.std.proofs.Common.{◌≡◌, ℕ, zero, suc, ◌+◌, ◌-◌, ◌<◌, ◌≤◌, max, List, [], ◌∷◌, ◌++◌, length, map, drop, get_or, Some, refl, sym, ap, ◌∙◌, subst, arith, inl, inr, append_assoc, length-append, length-drop}
use Rattle.std.specs.Prelude.{Result, Ok, Err, slice_get}
use Rattle.std.proofs.lemmas.Bool.{lt-ltb, cases_lt}
use Rattle.std.proofs.lemmas.List.{append-nil, length-map, drop_more}
use Rattle.comtrade_values.specs.Lines.{fields, line_fields}
use Rattle.comtrade_format.specs.Parts.{HeadParts}
use Rattle.comtrade_read.specs.declared.fault.ReadFault.{ReadFault}
use Rattle.comtrade_read.specs.Line.{Fault, Left, follow, next, each, end}
use Rattle.comtrade_read.specs.Head.{names_line, counts_line, analog_line, status_line, instant_line, frequency_line, nrates_line, kind_line, timemult_line, next_analog, next_status, next_rate, EndParts, ending, TailParts, tail, head, last_sample}
use Rattle.comtrade_read.proofs.LineByLine.{follow_said, next_said, none_said}
use Rattle.comtrade_diagnostics.specs.declared.counts.Counts.{Counts}
use Rattle.comtrade_diagnostics.specs.declared.names.Place.TheVariants.{Station, Channels, Analog, Status, Frequency, RateCount, Rate, First, Trigger, DataType, TimeMultiplier, After}
use Rattle.comtrade_diagnostics.specs.Places.{line_at, IsPlace}

abbrev ok : {A : Type 0} → A → Result A ReadFault
ok x = Ok x

ok_same : {A : Type 0} (x y : A) → ok x ≡ ok y → x ≡ y
ok_same x y e = cc

get_front : {A : Type 0} (xs ys : List A) (j : ℕ) (x : A) → slice_get xs j ≡ Some x → slice_get (xs ++ ys) j ≡ Some x
get_front [] ys j x e = absurd cc
get_front (y ∷ xs) ys zero x e = e
get_front (y ∷ xs) ys (suc j) x e = get_front xs ys j x e

get_last : {A : Type 0} (xs : List A) (x : A) → slice_get (xs ++ x ∷ []) (length xs) ≡ Some x
get_last [] x = refl
get_last (y ∷ xs) x = get_last xs x

-- ---- lines by their places

line_is : (ls : List (List ℕ)) (n : ℕ) → n < length ls → get_or (map fields ls) n [] ≡ line_fields ls n
unfolding line_fields
line_is [] n lt = absurd (omega arith)
line_is (l ∷ ls) zero lt = refl
line_is (l ∷ ls) (suc n) lt = line_is ls n (omega arith)

-- what is left from place n on
abbrev at : List (List ℕ) → ℕ → Left
at ls n = record { line = n + 1; lines = drop n (map fields ls) }

left_same : (l : Left) (m : ℕ) (xs : List (List (List ℕ))) → l.line ≡ m → l.lines ≡ xs → l ≡ record { line = m; lines = xs }
left_same l m xs a b = rw (← a, ← b) refl

next_at : {A : Type 0} (says : List (List ℕ) → Result A Fault) (ls : List (List ℕ)) (n : ℕ) (p : A × Left) → next says (at ls n) ≡ Ok p → (line_at says ls n ≡ Ok p.0) × (p.1 ≡ at ls (n + 1))
unfolding line_at
next_at says ls n p e =
    let a = next_said says (at ls n) p e in
    let some : n < length ls = omega (arith, length-drop n (map fields ls), length-map ls fields, ap length a.1) in
    let is : drop n (map fields ls) ≡ line_fields ls n ∷ drop (n + 1) (map fields ls) = drop_more (map fields ls) n [] (omega (arith, length-map ls fields)) ∙ rw (line_is ls n some) refl in
    let both : a.0 ∷ p.1.lines ≡ line_fields ls n ∷ drop (n + 1) (map fields ls) = sym a.1 ∙ is in
    let here : a.0 ≡ line_fields ls n = cc in
    let rest : p.1.lines ≡ drop (n + 1) (map fields ls) = cc in
    (rw (lt-ltb n (length ls) some) (rw here at a.2), left_same p.1 (n + 1 + 1) (drop (n + 1) (map fields ls)) a.3 rest)

-- number j of a list of lines, from 0
record Listed {A : Type 0} (says : List A → List (List ℕ) → Result A Fault) (ls : List (List ℕ)) (n : ℕ) (xs : List A) (j : ℕ) : Type 0 where
  before : List A
  item : A
  count : length before ≡ j
  there : slice_get xs j ≡ Some item
  said : line_at (says before) ls (n + j) ≡ Ok item

-- a line and what is said after it
step : {A B : Type 0} (says : List (List ℕ) → Result A Fault) (ls : List (List ℕ)) (n : ℕ) (more : A × Left → Result B ReadFault) (y : B) → follow (next says (at ls n)) more ≡ Ok y
    → (x : A) × (line_at says ls n ≡ Ok x) × (more (x, at ls (n + 1)) ≡ Ok y)
step {A = A} says ls n more y e = with_read (next says (at ls n)) refl e
  where
    with_read : (r : Result (A × Left) ReadFault) → next says (at ls n) ≡ r → follow r more ≡ Ok y → (x : A) × (line_at says ls n ≡ Ok x) × (more (x, at ls (n + 1)) ≡ Ok y)
    with_read (Ok p) h k = let b = next_at says ls n p h in (p.0, b.0, subst (λ (l : Left). more (p.0, l) ≡ Ok y) b.1 k)
    with_read (Err f) h k = absurd cc

-- the items from a place on, so many
record Lined {A : Type 0} (says : List A → List (List ℕ) → Result A Fault) (ls : List (List ℕ)) (n c : ℕ) (before xs : List A) : Type 0 where
  more : List A
  joined : xs ≡ before ++ more
  long : length xs ≡ length before + c
  listed : (j : ℕ) → length before ≤ j → j < length before + c → Listed says ls n xs j

each_at : {A : Type 0} (says : List A → List (List ℕ) → Result A Fault) (ls : List (List ℕ)) (n m c : ℕ) (before : List A) (p : List A × Left) → m ≡ n + length before → each says c before (at ls m) ≡ Ok p
    → Lined says ls n c before p.0 × (p.1 ≡ at ls (m + c))
unfolding each
each_at says ls n m zero before p q e =
    let is : (before, at ls m) ≡ p = cc in
    let z : m + 0 ≡ m = omega arith in
    rw (← is) (record { more = []; joined = sym (append-nil before); long = omega arith; listed = λ j le lt. absurd (omega arith) }, rw z refl)
each_at {A = A} says ls n m (suc c) before p q e =
    let s = step (says before) ls m (λ r. each says c (before ++ r.0 ∷ []) r.1) p e in
    let x = s.0 in
    let len : length (before ++ x ∷ []) ≡ length before + 1 = omega (arith, length-append before (x ∷ [])) in
    let r = each_at says ls n (m + 1) c (before ++ x ∷ []) p (omega (arith, q, len)) s.2 in
    let there : slice_get p.0 (length before) ≡ Some x = subst (λ (ys : List A). slice_get ys (length before) ≡ Some x) (sym r.0.joined) (get_front (before ++ x ∷ []) r.0.more (length before) x (get_last before x)) in
    let said : line_at (says before) ls (n + length before) ≡ Ok x = subst (λ (i : ℕ). line_at (says before) ls i ≡ Ok x) q s.1 in
    let here : Listed says ls n p.0 (length before) = record { before = before; item = x; count = refl; there = there; said = said } in
    let last : m + 1 + c ≡ m + suc c = omega arith in (
      record {
        more = x ∷ r.0.more;
        joined = r.0.joined ∙ append_assoc before (x ∷ []) r.0.more;
        long = omega (arith, r.0.long, len);
        listed = λ j le lt. elim (cases_lt (length before) j) [
          | inl less ↦ r.0.listed j (omega (arith, len)) (omega (arith, len))
          | inr same ↦ let is : length before ≡ j = omega arith in subst (Listed says ls n p.0) is here
        ];
      },
      subst (λ (i : ℕ). p.1 ≡ at ls i) last r.1,
    )

-- lines of one kind and what is said after them
lines_step : {A B : Type 0} (says : List A → List (List ℕ) → Result A Fault) (ls : List (List ℕ)) (n c : ℕ) (more : List A × Left → Result B ReadFault) (y : B) → follow (each says c [] (at ls n)) more ≡ Ok y
    → (xs : List A) × (Lined says ls n c [] xs) × (more (xs, at ls (n + length xs)) ≡ Ok y)
lines_step {A = A} says ls n c more y e = with_read (each says c [] (at ls n)) refl e
  where
    with_read : (r : Result (List A × Left) ReadFault) → each says c [] (at ls n) ≡ r → follow r more ≡ Ok y → (xs : List A) × (Lined says ls n c [] xs) × (more (xs, at ls (n + length xs)) ≡ Ok y)
    with_read (Ok p) h k =
        let b = each_at says ls n n c [] p (omega arith) h in
        let place : n + c ≡ n + length p.0 = omega (arith, b.0.long) in
        (p.0, b.0, subst (λ (i : ℕ). more (p.0, at ls i) ≡ Ok y) place (subst (λ (l : Left). more (p.0, l) ≡ Ok y) b.1 k))
    with_read (Err f) h k = absurd cc

-- the lines from this place on, after the rates
record LaidEnd (ls : List (List ℕ)) (n : ℕ) (e : EndParts) : Type 0 where
  first : line_at instant_line ls n ≡ Ok e.first
  trigger : line_at instant_line ls (n + 1) ≡ Ok e.trigger
  kind : line_at kind_line ls (n + 1 + 1) ≡ Ok e.kind
  timemult : line_at timemult_line ls (n + 1 + 1 + 1) ≡ Ok e.timemult
  after : length ls ≤ n + 4

end_laid : (ls : List (List ℕ)) (n : ℕ) (e : EndParts) → ending (at ls n) ≡ Ok e → LaidEnd ls n e
unfolding ending
end_laid ls n y e =
    let a = step instant_line ls n _ y e in
    let b = step instant_line ls (n + 1) _ y a.2 in
    let c = step kind_line ls (n + 1 + 1) _ y b.2 in
    let d = step timemult_line ls (n + 1 + 1 + 1) _ y c.2 in
    let z = follow_said (end (at ls (n + 1 + 1 + 1 + 1))) _ y d.2 in
    let none = none_said (at ls (n + 1 + 1 + 1 + 1)) z.0 z.1 in
    let whole : EndParts = record { first = a.0; trigger = b.0; kind = c.0; timemult = d.0 } in
    let few : length ls ≤ n + 4 = omega (arith, length-drop (n + 1 + 1 + 1 + 1) (map fields ls), length-map ls fields, ap length none) in
    let laid : LaidEnd ls n whole = record { first = a.1; trigger = b.1; kind = c.1; timemult = d.1; after = few } in
    subst (LaidEnd ls n) (ok_same whole y z.2) laid

-- the lines from this place on, after the channels
record LaidTail (ls : List (List ℕ)) (n : ℕ) (t : TailParts) : Type 0 where
  frequency : line_at frequency_line ls n ≡ Ok t.line_freq
  nrates : line_at nrates_line ls (n + 1) ≡ Ok t.nrates
  rates : (j : ℕ) → j < length t.rates → Listed next_rate ls (n + 1 + 1) t.rates j
  ending : LaidEnd ls (n + 1 + 1 + length t.rates) t.ending

tail_laid : (ls : List (List ℕ)) (n : ℕ) (t : TailParts) → tail (at ls n) ≡ Ok t → LaidTail ls n t
unfolding tail
tail_laid ls n t e =
    let a = step frequency_line ls n _ t e in
    let b = step nrates_line ls (n + 1) _ t a.2 in
    let c = lines_step next_rate ls (n + 1 + 1) (max 1 b.0) _ t b.2 in
    let d = follow_said (ending (at ls (n + 1 + 1 + length c.0))) _ t c.2 in
    let whole : TailParts = record { line_freq = a.0; nrates = b.0; rates = c.0; ending = d.0 } in
    let laid : LaidTail ls n whole = record {
      frequency = a.1;
      nrates = b.1;
      rates = λ j lt. c.1.listed j (omega arith) (omega (arith, c.1.long));
      ending = end_laid ls (n + 1 + 1 + length c.0) d.0 d.1;
    } in
    subst (LaidTail ls n) (ok_same whole t d.2) laid

abbrev tail_of : HeadParts → TailParts
tail_of h = record { line_freq = h.line_freq; nrates = h.nrates; rates = h.rates; ending = record { first = h.first; trigger = h.trigger; kind = h.kind; timemult = h.timemult } }

record Laid (ls : List (List ℕ)) (h : HeadParts) : Type 0 where
  names : line_at names_line ls 0 ≡ Ok (h.station, h.device)
  counts : line_at counts_line ls 1 ≡ Ok (length h.analog, length h.status)
  analog : (j : ℕ) → j < length h.analog → Listed next_analog ls 2 h.analog j
  status : (j : ℕ) → j < length h.status → Listed next_status ls (2 + length h.analog) h.status j
  tail : LaidTail ls (2 + length h.analog + length h.status) (tail_of h)

pair_is : (p : ℕ × ℕ) (a b : ℕ) → a ≡ p.0 → b ≡ p.1 → p ≡ (a, b)
pair_is p a b e f = rw (e, f) refl

laid : (ls : List (List ℕ)) (h : HeadParts) → head (map fields ls) ≡ Ok h → Laid ls h
unfolding head
laid ls h read =
    let a = step names_line ls 0 _ h read in
    let b = step counts_line ls 1 _ h a.2 in
    let c = lines_step next_analog ls 2 b.0.0 _ h b.2 in
    let d = lines_step next_status ls (2 + length c.0) b.0.1 _ h c.2 in
    let t = follow_said (tail (at ls (2 + length c.0 + length d.0))) _ h d.2 in
    let k : length c.0 ≡ b.0.0 = omega (arith, c.1.long) in
    let m : length d.0 ≡ b.0.1 = omega (arith, d.1.long) in
    let whole : HeadParts = record {
      station = a.0.0;
      device = a.0.1;
      analog = c.0;
      status = d.0;
      line_freq = t.0.line_freq;
      nrates = t.0.nrates;
      rates = t.0.rates;
      first = t.0.ending.first;
      trigger = t.0.ending.trigger;
      kind = t.0.ending.kind;
      timemult = t.0.ending.timemult;
    } in
    let is : whole ≡ h = ok_same whole h t.2 in
    let counted : b.0 ≡ (length c.0, length d.0) = pair_is b.0 (length c.0) (length d.0) k m in
    let parts : Laid ls whole = record {
      names = a.1;
      counts = b.1 ∙ ap (λ (p : ℕ × ℕ). ok p) counted;
      analog = λ j lt. c.1.listed j (omega arith) (omega (arith, k));
      status = λ j lt. d.1.listed j (omega arith) (omega (arith, m));
      tail = tail_laid ls (2 + length c.0 + length d.0) t.0 t.1;
    } in
    subst (Laid ls) is parts

-- ---- which number has which place

pub is_station : (c : Counts) (n : ℕ) → n ≤ 1 → IsPlace c n Station
is_station c n le ls h e q = let z : n - 1 ≡ 0 = omega arith in rw z (laid ls h e).names

pub is_channels : (c : Counts) (n : ℕ) → n ≡ 2 → IsPlace c n Channels
is_channels c n is ls h e q = let z : n - 1 ≡ 1 = omega arith in rw z (laid ls h e).counts

pub is_analog : (c : Counts) (n j : ℕ) → 0 < j → j ≤ c.analog → n ≡ 2 + j → IsPlace c n (Analog j)
is_analog c n j some le is ls h e q =
    let x = (laid ls h e).analog (j - 1) (omega (arith, q.analog)) in
    let place : n - 1 ≡ 2 + (j - 1) = omega arith in
    let number : length x.before + 1 ≡ j = omega (arith, x.count) in
    (x.item, some, x.there, rw place (subst (λ (i : ℕ). line_at (analog_line i) ls (2 + (j - 1)) ≡ Ok x.item) number x.said))

pub is_status : (c : Counts) (n j : ℕ) → 0 < j → j ≤ c.status → n ≡ 2 + c.analog + j → IsPlace c n (Status j)
is_status c n j some le is ls h e q =
    let x = (laid ls h e).status (j - 1) (omega (arith, q.status)) in
    let place : n - 1 ≡ 2 + length h.analog + (j - 1) = omega (arith, q.analog) in
    let number : length x.before + 1 ≡ j = omega (arith, x.count) in
    (x.item, some, x.there, rw place (subst (λ (i : ℕ). line_at (status_line i) ls (2 + length h.analog + (j - 1)) ≡ Ok x.item) number x.said))

pub is_frequency : (c : Counts) (n : ℕ) → n ≡ c.analog + c.status + 3 → IsPlace c n Frequency
is_frequency c n is ls h e q = let z : n - 1 ≡ 2 + length h.analog + length h.status = omega (arith, q.analog, q.status) in rw z (laid ls h e).tail.frequency

pub is_rate_count : (c : Counts) (n : ℕ) → n ≡ c.analog + c.status + 4 → IsPlace c n RateCount
is_rate_count c n is ls h e q = let z : n - 1 ≡ 2 + length h.analog + length h.status + 1 = omega (arith, q.analog, q.status) in rw z (laid ls h e).tail.nrates

pub is_rate : (c : Counts) (n j : ℕ) → 0 < j → j ≤ c.rates → n ≡ c.analog + c.status + 4 + j → IsPlace c n (Rate j)
is_rate c n j some le is ls h e q =
    let x = (laid ls h e).tail.rates (j - 1) (omega (arith, q.rates)) in
    let z : n - 1 ≡ 2 + length h.analog + length h.status + 1 + 1 + (j - 1) = omega (arith, q.analog, q.status) in
    (x.item, some, x.there, (last_sample x.before, rw z x.said))

pub is_first : (c : Counts) (n : ℕ) → n ≡ c.analog + c.status + c.rates + 5 → IsPlace c n First
is_first c n is ls h e q =
    let z : n - 1 ≡ 2 + length h.analog + length h.status + 1 + 1 + length h.rates = omega (arith, q.analog, q.status, q.rates) in rw z (laid ls h e).tail.ending.first

pub is_trigger : (c : Counts) (n : ℕ) → n ≡ c.analog + c.status + c.rates + 6 → IsPlace c n Trigger
is_trigger c n is ls h e q =
    let z : n - 1 ≡ 2 + length h.analog + length h.status + 1 + 1 + length h.rates + 1 = omega (arith, q.analog, q.status, q.rates) in rw z (laid ls h e).tail.ending.trigger

pub is_type : (c : Counts) (n : ℕ) → n ≡ c.analog + c.status + c.rates + 7 → IsPlace c n DataType
is_type c n is ls h e q =
    let z : n - 1 ≡ 2 + length h.analog + length h.status + 1 + 1 + length h.rates + 1 + 1 = omega (arith, q.analog, q.status, q.rates) in rw z (laid ls h e).tail.ending.kind

pub is_time_multiplier : (c : Counts) (n : ℕ) → n ≡ c.analog + c.status + c.rates + 8 → IsPlace c n TimeMultiplier
is_time_multiplier c n is ls h e q =
    let z : n - 1 ≡ 2 + length h.analog + length h.status + 1 + 1 + length h.rates + 1 + 1 + 1 = omega (arith, q.analog, q.status, q.rates) in rw z (laid ls h e).tail.ending.timemult

pub is_after : (c : Counts) (n : ℕ) → c.analog + c.status + c.rates + 9 ≤ n → IsPlace c n After
is_after c n le ls h e q = omega (arith, (laid ls h e).tail.ending.after, q.analog, q.status, q.rates)
