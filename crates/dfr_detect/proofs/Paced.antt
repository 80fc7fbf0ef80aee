-- What is kept of the crossings gives what the definition says of all samples.
use Rattle.std.proofs.Common.{◌≡◌, ◌∙◌, sym, ap, refl, ℕ, zero, suc, ◌+◌, ◌-◌, ◌<◌, ◌≤◌, min, sum, inl, inr, Bool, true, false, cond, leb, ltb, ◌&&◌, ◌||◌, not, List, [], ◌∷◌, take, drop, arith, ℤ, pos}
use Rattle.std.specs.Prelude.{unsigned_abs, int_lt}
use Rattle.std.proofs.Math.Nat.{div-le_of_le-mul}
use Rattle.std.proofs.lemmas.Bool.{cases_lt}
use Rattle.std.proofs.lemmas.List.{drop-take, take-take}
use Rattle.std.proofs.lemmas.List.Sums.{sum_by-take-drop}
use Rattle.std.proofs.lemmas.Bool.Decides.{nat_tests}
use Rattle.circular_buffer.specs.Buffer.{Buffer, buffer}
use Rattle.dfr_detect.specs.Windows.{ago}
use Rattle.dfr_detect.specs.Crossings.{dips, since_zero, crossings, scans_time, age, cycles_before, compares, has_frequency}
use Rattle.dfr_detect.specs.Paces.{Pace, pace_by, spans, paced, pushed, pushed_from, pace_after, pace_meets, no_pace}
use Rattle.dfr_detect.specs.declared.settings.FrequencyTest.{FrequencyTest}
use Rattle.comtrade_values.proofs.Lists.{take_again, take_none, drop_none}
use Rattle.dfr_detect.proofs.Ages.{Ascends, Ascends-later, Ascends-more, later, spans-later, spans-more, age-later, age_from}

-- a crossing is no more than a scan ago
pub since_small : (x y : ℕ) → since_zero x y ≤ 65_536
since_small x y = div-le_of_le-mul (x + y) (omega arith)

chosen : (b d : Bool) (a : ℕ) (ages : List ℕ) → a ≤ 65_536 → Ascends ages → Ascends (cond (not b && d) (a ∷ later ages) (later ages))
chosen true d a ages h s = Ascends-later ages s
chosen false false a ages h s = Ascends-later ages s
chosen false true a ages h s = Ascends-more a ages h s

pub ages_ascend : (least : ℕ) (samples : List ℤ) → Ascends (crossings least samples)
ages_ascend least [] = tt
ages_ascend least (x ∷ past) =
    chosen (int_lt x (pos 0)) (dips least past) (since_zero (unsigned_abs x) (unsigned_abs (ago 0 past))) (crossings least past)
    (since_small (unsigned_abs x) (unsigned_abs (ago 0 past))) (ages_ascend least past)

-- times that go on to the cycles before
older_more : (c k span : ℕ) (times : List ℕ) → buffer (take k (drop c (span ∷ times))) k ≡ pushed_from (buffer (take c times) c) span (buffer (take k (drop c times)) k)
older_more zero k span times = ap (λ (ts : List ℕ). buffer ts k) (sym (take_again k span times))
older_more (suc c) k span [] = ap (λ (ts : List ℕ). buffer (take k ts) k) (drop_none c)
older_more (suc c) k span (time ∷ times) = older_more c k time times

newer_more : (c span : ℕ) (times : List ℕ) → buffer (take c (span ∷ times)) c ≡ pushed span (buffer (take c times) c)
newer_more c span times = ap (λ (ts : List ℕ). buffer ts c) (sym (take_again c span times))

-- what is kept, by the ages and their times
abbrev by_ages : FrequencyTest → ℕ → Bool → ℕ → ℕ → List ℕ → Pace
by_ages t n d last a times =
    pace_by t.least (scans_time n + 1) d last a (buffer (take t.cycles times) t.cycles) (buffer (take (cycles_before t) (drop t.cycles times)) (cycles_before t))

went_on : (t : FrequencyTest) (n : ℕ) (d : Bool) (last : ℕ) (ages : List ℕ) →
    by_ages t n d last (min (scans_time n + 1) (age n 0 (later ages))) (spans (scans_time n + 1) (later ages))
    ≡ by_ages t n d last (min (scans_time n + 1) (min (scans_time n + 1) (age n 0 ages) + 65_536)) (spans (scans_time n + 1) ages)
went_on t n d last ages =
    ap (λ (a : ℕ). by_ages t n d last a (spans (scans_time n + 1) (later ages))) (age-later (scans_time n + 1) ages)
    ∙ ap (λ (ts : List ℕ). by_ages t n d last (min (scans_time n + 1) (min (scans_time n + 1) (age n 0 ages) + 65_536)) ts) (spans-later (scans_time n + 1) ages)

crossed : (t : FrequencyTest) (n x since : ℕ) (ages : List ℕ) → 1 ≤ n → since ≤ 65_536 →
    by_ages t n false x (min (scans_time n + 1) since) (spans (scans_time n + 1) (since ∷ later ages))
    ≡ (let span = min (scans_time n + 1) (min (scans_time n + 1) (age n 0 ages) + 65_536 - since) in
    let times = spans (scans_time n + 1) ages in
    pace_by t.least (scans_time n + 1) false x since (pushed span (buffer (take t.cycles times) t.cycles))
    (pushed_from (buffer (take t.cycles times) t.cycles) span (buffer (take (cycles_before t) (drop t.cycles times)) (cycles_before t))))
crossed t n x since ages some small =
    let far = scans_time n + 1 in
    let span = min far (min far (age n 0 ages) + 65_536 - since) in
    let times = spans far ages in
    let near : min far since ≡ since = omega arith in
    ap (λ (ts : List ℕ). by_ages t n false x (min far since) ts) (spans-more far since ages small)
    ∙ ap (λ (a : ℕ). by_ages t n false x a (span ∷ times)) near
    ∙ ap (λ (b : Buffer ℕ). pace_by t.least far false x since b (buffer (take (cycles_before t) (drop t.cycles (span ∷ times))) (cycles_before t))) (newer_more t.cycles span times)
    ∙ ap (λ (b : Buffer ℕ). pace_by t.least far false x since (pushed span (buffer (take t.cycles times) t.cycles)) b) (older_more t.cycles (cycles_before t) span times)

-- a sample more
sampled : (t : FrequencyTest) (n : ℕ) (x : ℤ) (past : List ℤ) (b d : Bool) → 1 ≤ n → int_lt x (pos 0) ≡ b → dips t.least past ≡ d → paced t n (x ∷ past) ≡ pace_after (paced t n past) x
sampled t n x past true d some e f =
    rw (e, f) (went_on t n (true && (leb t.least (unsigned_abs x) || d)) (unsigned_abs x) (crossings t.least past))
sampled t n x past false false some e f =
    rw (e, f) (went_on t n false (unsigned_abs x) (crossings t.least past))
sampled t n x past false true some e f =
    let small = since_small (unsigned_abs x) (unsigned_abs (ago 0 past)) in
    rw (e, f) (crossed t n (unsigned_abs x) (since_zero (unsigned_abs x) (unsigned_abs (ago 0 past))) (crossings t.least past) some small)

pub paced_more : (t : FrequencyTest) (n : ℕ) (x : ℤ) (past : List ℤ) → 1 ≤ n → paced t n (x ∷ past) ≡ pace_after (paced t n past) x
paced_more t n x past some = sampled t n x past (int_lt x (pos 0)) (dips t.least past) some refl refl

pub paced_none : (t : FrequencyTest) (n : ℕ) → paced t n [] ≡ no_pace t.least n t.cycles (cycles_before t)
paced_none t n =
    let far : min (scans_time n + 1) (scans_time n + 1) ≡ scans_time n + 1 = omega arith in
    let first = take_none {X = ℕ} t.cycles in
    let none = drop_none {X = ℕ} t.cycles in
    let second = take_none {X = ℕ} (cycles_before t) in
    rw (far, first, none, second) refl

-- the times that are kept are those between the ages, as far as they count
known_near : (g : ℕ → ℕ → Bool) (time a0 am ak s1 s2 : ℕ) → min (time + 1) (a0 + s1) ≡ min (time + 1) am → min (time + 1) (a0 + (s1 + s2)) ≡ min (time + 1) ak → ak ≤ time
    → leb ak time && g (am - a0) (ak - am) ≡ ltb (min (time + 1) a0 + s1 + s2) (time + 1) && g s1 s2
known_near g time a0 am ak s1 s2 e f near =
    let yes : leb ak time ≡ true = grind (arith, nat_tests) in
    let also : ltb (min (time + 1) a0 + s1 + s2) (time + 1) ≡ true = (let lt : min (time + 1) a0 + s1 + s2 < time + 1 = omega arith in grind (arith, nat_tests)) in
    let first : am - a0 ≡ s1 = omega arith in
    let second : ak - am ≡ s2 = omega arith in
    rw (yes, also, first, second) refl

known_far : (g : ℕ → ℕ → Bool) (time a0 am ak s1 s2 : ℕ) → min (time + 1) (a0 + (s1 + s2)) ≡ min (time + 1) ak → time < ak
    → leb ak time && g (am - a0) (ak - am) ≡ ltb (min (time + 1) a0 + s1 + s2) (time + 1) && g s1 s2
known_far g time a0 am ak s1 s2 f past =
    let no : leb ak time ≡ false = grind (arith, nat_tests) in
    let nor : ltb (min (time + 1) a0 + s1 + s2) (time + 1) ≡ false = (let le : time + 1 ≤ min (time + 1) a0 + s1 + s2 = omega arith in grind (arith, nat_tests)) in
    rw (no, nor) refl

parts : (c k : ℕ) (times : List ℕ) → sum (take (c + k) times) ≡ sum (take c times) + sum (take k (drop c times))
parts c k times =
    let whole = sum_by-take-drop (λ (x : ℕ). x) (take (c + k) times) c in
    let front : sum (take c (take (c + k) times)) ≡ sum (take c times) = ap sum (take-take c (c + k) times (omega arith)) in
    let back : sum (drop c (take (c + k) times)) ≡ sum (take k (drop c times)) = ap sum (drop-take c k times) in
    omega (arith, whole, front, back)

pub pace_meets_is : (t : FrequencyTest) (n level : ℕ) (samples : List ℤ) → has_frequency t n level (crossings t.least samples) ≡ pace_meets t level (paced t n samples)
pace_meets_is t n level samples =
    let ages = crossings t.least samples in
    let far = scans_time n + 1 in
    let times = spans far ages in
    let up = ages_ascend t.least samples in
    let e = age_from far t.cycles ages up in
    let f = age_from far (t.cycles + cycles_before t) ages up in
    let split = parts t.cycles (cycles_before t) times in
    let whole : min far (age n 0 ages + (sum (take t.cycles times) + sum (take (cycles_before t) (drop t.cycles times)))) ≡ min far (age n (t.cycles + cycles_before t) ages) = omega (arith, f, split) in
    elim (cases_lt (scans_time n) (age n (t.cycles + cycles_before t) ages)) [
      | inr near ↦ known_near (compares t.test t level) (scans_time n) (age n 0 ages) (age n t.cycles ages) (age n (t.cycles + cycles_before t) ages) (sum (take t.cycles times)) (sum (take (cycles_before t) (drop t.cycles times))) e whole near
      | inl past ↦ known_far (compares t.test t level) (scans_time n) (age n 0 ages) (age n t.cycles ages) (age n (t.cycles + cycles_before t) ages) (sum (take t.cycles times)) (sum (take (cycles_before t) (drop t.cycles times))) whole past
    ]
