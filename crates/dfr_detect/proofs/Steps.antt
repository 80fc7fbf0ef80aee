-- One scan more: what is kept of a history gives what is kept of the longer one.
use Rattle.std.proofs.Common.{◌≡◌, ◌∙◌, sym, ap, refl, subst, ℕ, ◌+◌, ◌*◌, ◌-◌, ◌≤◌, min, Bool, true, false, cond, leb, ◌&&◌, ◌||◌, List, [], ◌∷◌, length, take, Option, Some, None, arith, ℤ}
use Rattle.std.specs.Prelude.{◌==◌}
use Rattle.std.proofs.lemmas.Bool.Decides.{nat_tests}
use Rattle.dfr_detect.specs.Windows.{since_gap, alone}
use Rattle.dfr_detect.specs.Levels.{span, holds}
use Rattle.dfr_detect.specs.Fitting.{Fits}
use Rattle.dfr_detect.specs.Crossings.{scans_time, age, cycles_before, has_frequency}
use Rattle.dfr_detect.specs.Paces.{Pace, pace_gone}
use Rattle.dfr_detect.specs.Phasors.{KeptWaves, waves_by, waves_gone, number, after}
use Rattle.dfr_detect.specs.Shares.{first_shape, other_shape, has_waves}
use Rattle.dfr_detect.specs.Watched.{Kept, kept, kept_by, pace_of, next_pace, waves_of, next_waves, met_by, in_row, bit, IsStep, after_sample, after_gap}
use Rattle.comtrade_values.proofs.Lists.{take_again, take_none}
use Rattle.dfr_detect.proofs.Ages.{age_past}
use Rattle.dfr_detect.proofs.Paced.{paced_more, paced_none, pace_meets_is}
use Rattle.dfr_detect.specs.declared.settings.Condition.{Condition}
use Rattle.dfr_detect.specs.declared.settings.Condition.TheVariants.{RmsOver, RmsUnder, Change, Jump, Frequency, Waves}
use Rattle.dfr_detect.specs.declared.settings.FrequencyTest.{FrequencyTest}
use Rattle.dfr_detect.specs.declared.settings.WaveTest.{WaveTest}
use Rattle.dfr_detect.specs.declared.sample.Sample.{Sample}
use Rattle.dfr_detect.specs.declared.settings.Settings.{Settings}

-- a row, and a row up to as many as are asked
rows : (h : Bool) (asked r : ℕ) → min asked (cond h (r + 1) 0) ≡ cond h (min asked (min asked r + 1)) 0
rows true asked r = omega arith
rows false asked r = omega arith

asked_met : (asked m : ℕ) → leb asked (min asked m) ≡ leb asked m
asked_met asked m = grind (arith, nat_tests)

counted : (s : Settings) (samples : List ℤ) (pace : Pace) (w : KeptWaves) (h stays : Bool) (r : ℕ)
    → kept_by s samples pace w (min s.row (cond h (r + 1) 0)) (leb s.row (cond h (r + 1) 0) || stays)
    ≡ kept_by s samples pace w (cond h (min s.row (min s.row r + 1)) 0) (leb s.row (cond h (min s.row (min s.row r + 1)) 0) || stays)
counted s samples pace w h stays r =
    ap (λ (fires : Bool). kept_by s samples pace w (min s.row (cond h (r + 1) 0)) (fires || stays)) (sym (asked_met s.row (cond h (r + 1) 0)))
    ∙ ap (λ (m : ℕ). kept_by s samples pace w m (leb s.row m || stays)) (rows h s.row r)

-- what is kept tells whether a level is met
holds_by : (condition : Condition) (n level : ℕ) (past : List (Option Sample))
    → holds condition n level past
    ≡ met_by condition n level (take (span condition n) (alone (since_gap past))) (pace_of condition n (alone (since_gap past))) (waves_of condition n (since_gap past))
holds_by RmsOver n level past = refl
holds_by RmsUnder n level past = refl
holds_by Change n level past = refl
holds_by Jump n level past = refl
holds_by (Frequency t) n level past = pace_meets_is t n level (alone (since_gap past))
holds_by (Waves t) n level past = refl

pace_more : (condition : Condition) (n : ℕ) (x : ℤ) (past : List ℤ) → 1 ≤ n → pace_of condition n (x ∷ past) ≡ next_pace condition (pace_of condition n past) x
pace_more RmsOver n x past some = refl
pace_more RmsUnder n x past some = refl
pace_more Change n x past some = refl
pace_more Jump n x past some = refl
pace_more (Frequency t) n x past some = paced_more t n x past some
pace_more (Waves t) n x past some = refl

waves_more : (condition : Condition) (n : ℕ) (x : Sample) (past : List Sample) → waves_of condition n (x ∷ past) ≡ next_waves condition (waves_of condition n past) x
waves_more RmsOver n x past = refl
waves_more RmsUnder n x past = refl
waves_more Change n x past = refl
waves_more Jump n x past = refl
waves_more (Frequency t) n x past = refl
waves_more (Waves t) n x past = ap (λ (us : List Sample). waves_by n (first_shape t) (other_shape t) us (after n (number n past))) (sym (take_again n x past))

-- what is kept after a sample, where this is known of the samples then
abbrev with_samples : Settings → ℕ → Bool → List ℤ → Pace → KeptWaves → Kept
with_samples s r on samples pace w =
    let m = cond (met_by s.condition s.scans s.level samples pace w) (min s.row (r + 1)) 0 in
    kept_by s samples pace w m (leb s.row m || (on && met_by s.condition s.scans s.reset samples pace w))

-- what is kept of a history, where this is met
abbrev as_met : Settings → List (Option Sample) → Sample → Bool → Bool → Kept
as_met s past x level reset =
    kept_by s (take (span s.condition s.scans) (x.a ∷ alone (since_gap past))) (pace_of s.condition s.scans (x.a ∷ alone (since_gap past)))
    (waves_of s.condition s.scans (x ∷ since_gap past)) (min s.row (cond level (in_row s past + 1) 0)) (leb s.row (cond level (in_row s past + 1) 0) || (bit s past && reset))

of_sample : (s : Settings) (past : List (Option Sample)) (x : Sample) → 1 ≤ s.scans → kept s (Some x ∷ past) ≡ after_sample (kept s past) x
of_sample s past x some =
    let n = span s.condition s.scans in
    let older = alone (since_gap past) in
    let samples = take n (x.a ∷ older) in
    let pace = pace_of s.condition s.scans (x.a ∷ older) in
    let w = waves_of s.condition s.scans (x ∷ since_gap past) in
    let r = min s.row (in_row s past) in
    let level = met_by s.condition s.scans s.level samples pace w in
    let reset = met_by s.condition s.scans s.reset samples pace w in
    let pace_on = next_pace s.condition (pace_of s.condition s.scans older) x.a in
    let waves_on = next_waves s.condition (waves_of s.condition s.scans (since_gap past)) x in
    ap (λ (h : Bool). as_met s past x h (holds s.condition s.scans s.reset (Some x ∷ past))) (holds_by s.condition s.scans s.level (Some x ∷ past))
    ∙ ap (λ (h : Bool). as_met s past x level h) (holds_by s.condition s.scans s.reset (Some x ∷ past))
    ∙ counted s samples pace w level (bit s past && reset) (in_row s past)
    ∙ ap (λ (p : Pace). with_samples s r (bit s past) samples p w) (pace_more s.condition s.scans x.a older some)
    ∙ ap (λ (v : KeptWaves). with_samples s r (bit s past) samples pace_on v) (waves_more s.condition s.scans x (since_gap past))
    ∙ ap (λ (us : List ℤ). with_samples s r (bit s past) us pace_on waves_on) (sym (take_again n x.a older))

-- nothing is met at a gap
not_full : {X : Type 0} (k level : ℕ) (samples : List X) (meets : Bool) → samples ≡ [] → 1 ≤ k → (length samples == k) && meets ≡ false
not_full k level samples meets e some =
    let short : length samples ≡ 0 = ap length e in
    let not_full : (length samples == k) ≡ false = grind (arith, nat_tests) in
    rw not_full refl

unpaced : (t : FrequencyTest) (n level : ℕ) → has_frequency t n level [] ≡ false
unpaced t n level =
    let far = age_past (t.cycles + cycles_before t) (scans_time n + 1) in
    let no : leb (age n (t.cycles + cycles_before t) []) (scans_time n) ≡ false = grind (arith, nat_tests, far) in
    rw no refl

unwaved : (t : WaveTest) (n level : ℕ) → 1 ≤ n → has_waves t n level [] ≡ false
unwaved t n level h = not_full n level (take n []) _ (take_none n) h

none_met : (condition : Condition) (n level : ℕ) (past : List (Option Sample)) → 1 ≤ n → holds condition n level (None ∷ past) ≡ false
none_met RmsOver n level past h = not_full n level (take n []) _ (take_none n) h
none_met RmsUnder n level past h = not_full n level (take n []) _ (take_none n) h
none_met Change n level past h = not_full (n + 1) level (take (n + 1) []) _ (take_none (n + 1)) (omega arith)
none_met Jump n level past h = not_full (2 * n + 1) level (take (2 * n + 1) []) _ (take_none (2 * n + 1)) (omega arith)
none_met (Frequency t) n level past h = unpaced t n level
none_met (Waves t) n level past h = unwaved t n level h

start_over : (s : Settings) (samples : List ℤ) (pace : Pace) (w : KeptWaves) (r : ℕ) → samples ≡ [] → 1 ≤ s.row → kept_by s samples pace w (min s.row 0) (leb s.row 0 || false) ≡ kept_by s [] pace w 0 false
start_over s samples pace w r e h =
    let none : min s.row 0 ≡ 0 = omega arith in
    let off : leb s.row 0 ≡ false = grind (arith, nat_tests) in
    rw (e, none, off) refl

unmet : (s : Settings) (samples : List ℤ) (pace : Pace) (w : KeptWaves) (level reset on : Bool) (r : ℕ) → samples ≡ [] → level ≡ false → reset ≡ false → 1 ≤ s.row
    → kept_by s samples pace w (min s.row (cond level (r + 1) 0)) (leb s.row (cond level (r + 1) 0) || (on && reset)) ≡ kept_by s [] pace w 0 false
unmet s samples pace w true reset on r e l m h = absurd cc
unmet s samples pace w false true on r e l m h = absurd cc
unmet s samples pace w false false true r e l m h = start_over s samples pace w r e h
unmet s samples pace w false false false r e l m h = start_over s samples pace w r e h

-- a gap leaves no cycles
pace_none : (condition : Condition) (n : ℕ) (past : List ℤ) → pace_of condition n [] ≡ pace_gone (pace_of condition n past)
pace_none RmsOver n past = refl
pace_none RmsUnder n past = refl
pace_none Change n past = refl
pace_none Jump n past = refl
pace_none (Frequency t) n past = paced_none t n
pace_none (Waves t) n past = refl

-- and no samples of waves
waves_none : (condition : Condition) (n : ℕ) (past : List Sample) → waves_of condition n [] ≡ waves_gone (waves_of condition n past)
waves_none RmsOver n past = refl
waves_none RmsUnder n past = refl
waves_none Change n past = refl
waves_none Jump n past = refl
waves_none (Frequency t) n past = refl
waves_none (Waves t) n past = ap (λ (us : List Sample). waves_by n (first_shape t) (other_shape t) us (n - 1)) (take_none n)

-- what is kept after a gap has nothing of what was before
pub of_none : (s : Settings) (past : List (Option Sample)) → Fits s → kept s (None ∷ past) ≡ kept_by s [] (pace_of s.condition s.scans []) (waves_of s.condition s.scans []) 0 false
of_none s past fits =
    unmet s _ _ _ _ _ (bit s past) (in_row s past) (take_none (span s.condition s.scans)) (none_met s.condition s.scans s.level past fits.some) (none_met s.condition s.scans s.reset past fits.some) fits.row

of_gap : (s : Settings) (past : List (Option Sample)) → Fits s → kept s (None ∷ past) ≡ after_gap (kept s past)
of_gap s past fits =
    let condition = s.condition in
    of_none s past fits
    ∙ ap (λ (p : Pace). kept_by s [] p (waves_of condition s.scans []) 0 false) (pace_none condition s.scans (alone (since_gap past)))
    ∙ ap (λ (w : KeptWaves). kept_by s [] (pace_gone (pace_of condition s.scans (alone (since_gap past)))) w 0 false) (waves_none condition s.scans (since_gap past))

pub step_sample : (old new : Kept) (x : Sample) (b : Bool) → new ≡ after_sample old x → b ≡ new.on → Fits new.settings → IsStep old (Some x) b new
step_sample old new x b made told fits s past e =
    let same : new.settings ≡ s = ap (λ (o : Kept). o.settings) (made ∙ sym (ap (λ (o : Kept). after_sample o x) e)) in
    let some : 1 ≤ s.scans = (let f = subst Fits same fits in f.some) in
    let k = of_sample s past x some ∙ ap (λ (o : Kept). after_sample o x) e ∙ sym made in
    (ap (λ (o : Kept). o.on) k ∙ sym told, k)

pub step_gap : (old new : Kept) (b : Bool) → new ≡ after_gap old → b ≡ new.on → Fits new.settings → IsStep old None b new
step_gap old new b made told fits s past e =
    let same : new.settings ≡ s = ap (λ (o : Kept). o.settings) (made ∙ sym (ap after_gap e)) in
    let k = of_gap s past (subst Fits same fits) ∙ ap after_gap e ∙ sym made in
    (ap (λ (o : Kept). o.on) k ∙ sym told, k)
