-- A configuration file that is written is read.
use Rattle.std.proofs.Common.{◌≡◌, ℕ, suc, ◌+◌, ◌<◌, ◌≤◌, ◌^◌, true, eqb, List, [], ◌∷◌, ◌++◌, length, map, Some, refl, sym, ap, arith, append_assoc, length-append}
use Rattle.std.specs.Prelude.{ℤ, pos, neg_ℤ, int_le, Result, Ok}
use Rattle.std.specs.List.{AllByRecursion}
use Rattle.std.specs.Fmt.{decimal, signed_decimal}
use Rattle.std.proofs.lemmas.List.{append-nil}
use Rattle.std.proofs.lemmas.Bool.{and_parts, le-leb, lt-ltb}
use Rattle.std.proofs.lemmas.Bool.Decides.{nat_tests}
use Rattle.comtrade_values.specs.Spelling.{IsNumber, Number}
use Rattle.comtrade_values.specs.Written.{decimal_text}
use Rattle.dfr_channels.specs.LineFields.{analog_from, status_from}
use Rattle.dfr_channels.specs.Parts.{AnalogParts, StatusParts}
use Rattle.comtrade_format.specs.declared.file.Kind.{Kind}
use Rattle.comtrade_format.specs.declared.file.Rate.{Rate}
use Rattle.comtrade_format.specs.Parts.{HeadParts}
use Rattle.comtrade_format.specs.Numbered.{numbered}
use Rattle.comtrade_values.specs.Dates.{day_number, time_of_day, instant_fields}
use Rattle.comtrade_format.specs.Cfg.{kind_text, names_fields, counts_fields, analog_fields, status_fields, rate_fields, cfg}
use Rattle.comtrade_format.specs.Shape as shape
use Rattle.comtrade_read.specs.Fields.{small, scale}
use Rattle.comtrade_read.specs.declared.fault.ReadFault.{ReadFault}
use Rattle.comtrade_read.specs.Line.{Fault, Left, taken, next, each, end}
use Rattle.comtrade_read.specs.Head.{last_sample, names_line, counts_line, analog_line, status_line, rate_line, instant_line, frequency_line, nrates_line, kind_line, timemult_line, next_rate, EndParts, ending, TailParts}
use Rattle.comtrade_read.specs.Head as head
use Rattle.comtrade_read.specs.Reads.{ReadsHead}
use Rattle.comtrade_read.proofs.WrittenFields.{whole_written, natural_written, small_written, count_written, scale_written, free_scale_written, side_written, free_bit_written, kind_written, revision_written}
use Rattle.comtrade_read.proofs.WrittenLines.{written_joined}
use Rattle.comtrade_read.proofs.WrittenDates.{Instant, date_written, time_written}
use Rattle.comtrade_values.proofs.Comparing.{int_le-so}
use Rattle.comtrade_read.proofs.HeadLines.{ends, tail, all_lines, cfg_lines}
use Rattle.comtrade_read.proofs.LineByLine.{last_added}
use Rattle.comtrade_read.proofs.HeadTaken.{AnalogTaken, StatusTaken, rate_taken, HeadTaken}
use Rattle.comtrade_read.proofs.HeadClean.{head_clean}

eqb-same : (n : ℕ) → eqb n n ≡ true
eqb-same n = grind (arith, nat_tests)

-- ---- a line of each kind

names_written : (station device : List ℕ) → names_line (names_fields station device) ≡ Ok (station, device)
unfolding names_fields names_line
names_written station device = rw revision_written refl

counts_written : (k m : ℕ) → 0 < k + m → k + m < 1000000 → counts_line (counts_fields k m) ≡ Ok (k, m)
unfolding counts_fields counts_line
counts_written k m some few =
    rw (natural_written 999999 (k + m) (omega arith) (omega arith), count_written 65 k (omega arith), count_written 68 m (omega arith), eqb-same (k + m), lt-ltb 0 (k + m) some) refl

small_taken : (z : ℤ) → shape.in_bounds z ≡ true → small (signed_decimal z) ≡ Some z
small_taken z e =
    let p = and_parts (int_le (neg_ℤ (pos 99_999)) z) (int_le z (pos 99_999)) e in
    small_written z (int_le-so (neg_ℤ (pos 99_999)) z p.0) (int_le-so z (pos 99_999) p.1)

analog_written : (n : ℕ) (c : AnalogParts) → n < 10 ^ 36 → AnalogTaken c → analog_line n (analog_fields n c) ≡ Ok c
unfolding analog_fields analog_line analog_from scale
analog_written n c lt t =
    let b = and_parts (shape.in_bounds c.min) (shape.in_bounds c.max) t.bounds in
    rw (
      whole_written n lt,
      scale_written c.a t.scale.0,
      free_scale_written c.b t.scale.1.0,
      free_scale_written c.skew t.scale.1.1.0,
      small_taken c.min b.0,
      small_taken c.max b.1,
      free_scale_written c.primary t.scale.1.1.1.0,
      free_scale_written c.secondary t.scale.1.1.1.1.0,
      side_written c.side,
      eqb-same n,
    ) refl

status_written : (n : ℕ) (c : StatusParts) → n < 10 ^ 36 → status_line n (status_fields n c) ≡ Ok c
unfolding status_fields status_line status_from
status_written n c lt = rw (whole_written n lt, free_bit_written c.normal, eqb-same n) refl

rate_written : (before : ℕ) (r : Rate) → IsNumber r.samp → before ≤ r.endsamp → r.endsamp ≤ 9999999999 → rate_line before (rate_fields r) ≡ Ok r
unfolding rate_fields rate_line
rate_written before r h le few = rw (scale_written r.samp h, natural_written 9999999999 r.endsamp few (omega arith), le-leb before r.endsamp le) refl

instant_said : (t : ℤ) → Instant t → instant_line (instant_fields t) ≡ Ok t
unfolding instant_fields instant_line
instant_said t i = rw (date_written (day_number t) i.dated_day, time_written (time_of_day t) i.small) (ap (λ (x : ℤ). Ok x) (sym i.is))

frequency_written : (d : Number) → IsNumber d → frequency_line (decimal_text d ∷ []) ≡ Ok d
frequency_written d h = rw (free_scale_written d h) refl

nrates_written : (n : ℕ) → n ≤ 999 → nrates_line (decimal n ∷ []) ≡ Ok n
nrates_written n le = rw (natural_written 999 n le (omega arith)) refl

kind_said : (k : Kind) → kind_line (kind_text k ∷ []) ≡ Ok k
kind_said k = rw (kind_written k) refl

timemult_written : (d : Number) → IsNumber d → timemult_line (decimal_text d ∷ []) ≡ Ok d
timemult_written d h = rw (scale_written d h) refl

-- ---- lines of one kind

abbrev at : ℕ → List (List (List ℕ)) → Left
at line ls = record { line = line; lines = ls }

abbrev read : {A : Type 0} → A → Left → Result (A × Left) ReadFault
read x left = Ok (x, left)

-- a line that says so stands next
next_is : {A : Type 0} (says : List (List ℕ) → Result A Fault) (line : ℕ) (fs : List (List ℕ)) (ls : List (List (List ℕ))) (x : A) → says fs ≡ Ok x → next says (at line (fs ∷ ls)) ≡ read x (at (line + 1) ls)
unfolding next taken
next_is says line fs ls x e = rw e refl

numbered_written : {X : Type 0} (says : ℕ → List (List ℕ) → Result X Fault) (f : ℕ → X → List (List ℕ)) (P : X → Type 0) (before xs : List X) (line : ℕ) (rest : List (List (List ℕ)))
    → ((n : ℕ) (x : X) → n < 10 ^ 36 → P x → says n (f n x) ≡ Ok x) → length before + length xs < 1000000 → AllByRecursion P xs
    → each (λ b fs. says (length b + 1) fs) (length xs) before (at line (numbered f (length before + 1) xs ++ rest)) ≡ read (before ++ xs) (at (line + length xs) rest)
unfolding each
numbered_written says f P before [] line rest w lt h = let z : line + 0 ≡ line = omega arith in rw (append-nil before, z) refl
numbered_written says f P before (x ∷ xs) line rest w lt h =
    let here = w (length before + 1) x (omega arith) h.0 in
    let len : length (before ++ x ∷ []) ≡ length before + 1 = omega (arith, length-append before (x ∷ [])) in
    let s : line + 1 + length xs ≡ line + suc (length xs) = omega arith in
    let moved : (before ++ x ∷ []) ++ xs ≡ before ++ x ∷ xs = append_assoc before (x ∷ []) xs in
    let more_lines = numbered_written says f P (before ++ x ∷ []) xs (line + 1) rest w (omega (arith, len)) h.1 in
    rw (next_is (says (length before + 1)) line (f (length before + 1) x) (numbered f (length before + 1 + 1) xs ++ rest) x here) (rw (len, moved, s) at more_lines)

rates_written : (before rates : List Rate) (line last : ℕ) (rest : List (List (List ℕ))) → shape.rates_end (last_sample before) rates ≡ Some last → AllByRecursion (λ r. IsNumber r.samp) rates
    → each next_rate (length rates) before (at line (map rate_fields rates ++ rest)) ≡ read (before ++ rates) (at (line + length rates) rest)
unfolding each
rates_written before [] line last rest e h = let z : line + 0 ≡ line = omega arith in rw (append-nil before, z) refl
rates_written before (r ∷ rs) line last rest e h =
    let p = rate_taken (last_sample before) last r rs e in
    let here = rate_written (last_sample before) r h.0 p.0 p.1 in
    let s : line + 1 + length rs ≡ line + suc (length rs) = omega arith in
    let moved : (before ++ r ∷ []) ++ rs ≡ before ++ r ∷ rs = append_assoc before (r ∷ []) rs in
    let g : shape.rates_end (last_sample (before ++ r ∷ [])) rs ≡ Some last = rw (last_added before r) p.2 in
    let more_lines = rates_written (before ++ r ∷ []) rs (line + 1) last rest g h.1 in
    rw (next_is (next_rate before) line (rate_fields r) (map rate_fields rs ++ rest) r here) (rw (moved, s) at more_lines)

last_is : (before rates : List Rate) (last : ℕ) → shape.rates_end (last_sample before) rates ≡ Some last → last_sample (before ++ rates) ≡ last
last_is before [] last e = rw (append-nil before) cc
last_is before (r ∷ rs) last e =
    let p = rate_taken (last_sample before) last r rs e in
    let g : shape.rates_end (last_sample (before ++ r ∷ [])) rs ≡ Some last = rw (last_added before r) p.2 in
    let moved : (before ++ r ∷ []) ++ rs ≡ before ++ r ∷ rs = append_assoc before (r ∷ []) rs in
    rw moved at (last_is (before ++ r ∷ []) rs last g)

-- ---- the file

abbrev end_parts : HeadParts → EndParts
end_parts h = record { first = h.first; trigger = h.trigger; kind = h.kind; timemult = h.timemult }

says_ending : (h : HeadParts) (rows line : ℕ) → HeadTaken h rows → ending (at line (ends h)) ≡ Ok (end_parts h)
unfolding ending end
says_ending h rows line t =
    rw (
      next_is instant_line line (instant_fields h.first) (instant_fields h.trigger ∷ (kind_text h.kind ∷ []) ∷ (decimal_text h.timemult ∷ []) ∷ []) h.first (instant_said h.first t.first),
      next_is instant_line (line + 1) (instant_fields h.trigger) ((kind_text h.kind ∷ []) ∷ (decimal_text h.timemult ∷ []) ∷ []) h.trigger (instant_said h.trigger t.trigger),
      next_is kind_line (line + 1 + 1) (kind_text h.kind ∷ []) ((decimal_text h.timemult ∷ []) ∷ []) h.kind (kind_said h.kind),
      next_is timemult_line (line + 1 + 1 + 1) (decimal_text h.timemult ∷ []) [] h.timemult (timemult_written h.timemult t.numbers.timemult),
    ) refl

abbrev tail_parts : HeadParts → TailParts
tail_parts h = record { line_freq = h.line_freq; nrates = h.nrates; rates = h.rates; ending = end_parts h }

says_tail : (h : HeadParts) (rows line : ℕ) → HeadTaken h rows → head.tail (at line (tail h)) ≡ Ok (tail_parts h)
unfolding head.tail
says_tail h rows line t =
    rw (
      next_is frequency_line line (decimal_text h.line_freq ∷ []) ((decimal h.nrates ∷ []) ∷ (map rate_fields h.rates ++ ends h)) h.line_freq (frequency_written h.line_freq t.numbers.line_freq),
      next_is nrates_line (line + 1) (decimal h.nrates ∷ []) (map rate_fields h.rates ++ ends h) h.nrates (nrates_written h.nrates t.nrates),
      ← t.rate_count,
      rates_written [] h.rates (line + 1 + 1) rows (ends h) t.rates t.numbers.rates,
      says_ending h rows (line + 1 + 1 + length h.rates) t,
    ) refl

says_head : (h : HeadParts) (rows : ℕ) → HeadTaken h rows → head.head (all_lines h) ≡ Ok h
unfolding head.head
says_head h rows t =
    let few = t.few in
    let k = length h.analog in
    let m = length h.status in
    let A = numbered analog_fields 1 h.analog in
    let S = numbered status_fields 1 h.status in
    rw (
      next_is names_line 1 (names_fields h.station h.device) (counts_fields k m ∷ (A ++ (S ++ tail h))) (h.station, h.device) (names_written h.station h.device),
      next_is counts_line 2 (counts_fields k m) (A ++ (S ++ tail h)) (k, m) (counts_written k m t.some t.few),
      numbered_written analog_line analog_fields AnalogTaken [] h.analog 3 (S ++ tail h) analog_written (omega arith) t.analog,
      numbered_written status_line status_fields StatusTaken [] h.status (3 + k) (tail h) (λ n c lt s. status_written n c lt) (omega arith) t.status,
      says_tail h rows (3 + k + m) t,
    ) refl

pub head_written : (h : HeadParts) (rows : ℕ) → HeadTaken h rows → ReadsHead (cfg h) h
head_written h rows t = record { lines = all_lines h; joined = rw (cfg_lines h) (written_joined (all_lines h) (head_clean h rows t)); head = says_head h rows t }

-- as many rows as the last sample of the last rate
pub last_row : (h : HeadParts) (rows : ℕ) → HeadTaken h rows → last_sample h.rates ≡ rows
last_row h rows t = last_is [] h.rates rows t.rates
