-- What is said, in other words.
use Rattle.std.proofs.Common.{◌≡◌, ◌∙◌, refl, sym, ap, subst, ℕ, ◌+◌, ◌≤◌, arith, List, [], ◌∷◌, map, get_or, length, Some, None, Ok, Err, Option, Result}
use Rattle.std.specs.Prelude.{◌==◌}
use Rattle.std.specs.List.{slice_split, slice_get}
use Rattle.comtrade_values.specs.Spelling.{Number}
use Rattle.comtrade_values.specs.Lines.{field}
use Rattle.dfr_channels.specs.Parts.{AnalogParts, SetupParts}
use Rattle.dfr_detect.specs.declared.settings.Condition.{Condition}
use Rattle.dfr_setup.specs.Addends as addends
use Rattle.dfr_setup.specs.Addends.{SumParts}
use Rattle.dfr_setup.specs.Plans as plans
use Rattle.dfr_setup.specs.Quantities as quantity
use Rattle.dfr_setup.specs.Tests as tests
use Rattle.dfr_channels.specs.LineFields.{and_then}
use Rattle.dfr_setup.specs.Refusing.{needed, Is, Makes, Refuses}
use Rattle.dfr_setup.specs.declared.tested.Test.{Test}
use Rattle.dfr_setup.specs.declared.wish.Wish.{Wish}
use Rattle.dfr_setup.specs.declared.fault.DetectorFault.{DetectorFault}
use Rattle.dfr_setup.specs.declared.fault.DetectorFault.TheVariants as fault
use Rattle.dfr_setup.specs.declared.fault.DetectorRefusal.{DetectorRefusal}

-- a word names a channel
pub with_word_found : (cs : List AnalogParts) (test : Test) (s : SumParts) (word : List ℕ) (i : ℕ) (c : AnalogParts)
    → addends.channel_of cs word ≡ Some i → slice_get cs i ≡ Some c → addends.with_word cs test s word ≡ addends.with_channel test s i (Some c)
with_word_found cs test s word i c named found = rw (named, found) refl

-- a value that is needed
pub needed_some : {A : Type 0} (value : Option A) (f : DetectorFault) (x : A) → Ok x ≡ needed value f → value ≡ Some x
needed_some None f x h = absurd cc
needed_some (Some y) f x h = cc

-- settings whose parts are all there
pub settled : (s : SetupParts) (w : Wish) (multiplier : Option Number) (most : ℕ) (a one : Number) (level reset least cycles scans top n : ℕ) (k : Condition) (x y v u z : Option ℕ)
    → top ≡ quantity.reach w.test most s.rate → one ≡ quantity.one_of w.test a → n ≡ quantity.periods w.test cycles → k ≡ tests.condition_of w.test cycles s.rate least
    → Ok a ≡ needed multiplier fault.Channel
    → x ≡ quantity.level_in w.test w.level one top → Ok level ≡ needed x fault.Level
    → y ≡ quantity.level_in w.test w.reset one top → Ok reset ≡ needed y fault.Reset
    → v ≡ quantity.least_in w.test w.least a most → Ok least ≡ needed v fault.Least
    → u ≡ quantity.within w.cycles 64 → Ok cycles ≡ needed u fault.Cycles
    → z ≡ quantity.window_in w.window n s.rate s.line_freq → Ok scans ≡ needed z fault.Window
    → plans.settings_of s w multiplier most ≡ plans.checked (record { condition = k; scans = scans; level = level; reset = reset; row = w.row })
settled s w multiplier most a one level reset least cycles scans top n k x y v u z t o p is na lx nl ly nr lv nv lu nu wz ns =
    let h1 : multiplier ≡ Some a = needed_some multiplier fault.Channel a na in
    let h2 : quantity.level_in w.test w.level (quantity.one_of w.test a) (quantity.reach w.test most s.rate) ≡ Some level =
    ap (λ (b : Number). quantity.level_in w.test w.level b (quantity.reach w.test most s.rate)) (sym o)
    ∙ ap (λ (m : ℕ). quantity.level_in w.test w.level one m) (sym t) ∙ sym lx ∙ needed_some x fault.Level level nl in
    let h3 : quantity.level_in w.test w.reset (quantity.one_of w.test a) (quantity.reach w.test most s.rate) ≡ Some reset =
    ap (λ (b : Number). quantity.level_in w.test w.reset b (quantity.reach w.test most s.rate)) (sym o)
    ∙ ap (λ (m : ℕ). quantity.level_in w.test w.reset one m) (sym t) ∙ sym ly ∙ needed_some y fault.Reset reset nr in
    let h4 : quantity.least_in w.test w.least a most ≡ Some least = sym lv ∙ needed_some v fault.Least least nv in
    let h5 : quantity.within w.cycles 64 ≡ Some cycles = sym lu ∙ needed_some u fault.Cycles cycles nu in
    let h6 : quantity.window_in w.window (quantity.periods w.test cycles) s.rate s.line_freq ≡ Some scans =
    ap (λ (m : ℕ). quantity.window_in w.window m s.rate s.line_freq) (sym p) ∙ sym wz ∙ needed_some z fault.Window scans ns in
    rw (h1, h2, h3, h4, h5, h6, is) refl

-- the sums of a wish
pub with_wish_by : (s : SetupParts) (have : List plans.PlanParts) (ws : List (List ℕ)) (w : Wish) (sums : List (List ℕ)) (n : ℕ)
    → sums ≡ slice_split (λ b. b == 44) (field ws (w.at + 2)) → n ≡ length sums
    → plans.with_wish s have ws w ≡ plans.with_sums s w (n == 1) ws have sums
with_wish_by s have ws w sums n e l = rw (l, e) refl

pub makes_by : {X Y : Type 0} (said told : Result Y DetectorFault) (new : Y) (r : Result X DetectorRefusal) → said ≡ told → Makes told new r → Makes said new r
makes_by said told new r e h = subst (λ x. Makes x new r) (sym e) h

-- the next word was refused
pub word_refused : {W : Type 0} (now : W → List ℕ) (cs : List AnalogParts) (test : Test) (s : SumParts) (left : List W) (none : W) (all : Result SumParts DetectorFault)
    (e : DetectorRefusal) → 1 ≤ length left → addends.with_words cs test s (map now left) ≡ all
    → Refuses (addends.with_word cs test s (now (get_or left 0 none))) e → Refuses all e
word_refused now cs test s [] none all e some same refused w is = absurd (omega arith)
word_refused now cs test s (word ∷ left) none all e some same refused w is =
    sym same ∙ ap (λ (r : Result SumParts DetectorFault). and_then r (λ (t : SumParts). addends.with_words cs test t (map now left))) (refused w is)

pub is_refused : {X Y : Type 0} (view : X → Y) (said : Result Y DetectorFault) (r : Result X DetectorRefusal) (e : DetectorRefusal)
    → r ≡ Err e → Refuses said e → Is view said r
is_refused view said r e was refused = subst (λ x. Is view said x) (sym was) refused
