-- Names that are the same, and lists of the files that are there.
use Rattle.std.proofs.Common.{◌≡◌, ◌⊎◌, ℕ, ◌+◌, ◌<◌, ◌==◌, Bool, true, false, cond, not, ◌&&◌, if◌then◌else◌, List, [], ◌∷◌, ◌++◌, zero, suc, take, drop, set, get_or, length, Option, Some, None, refl, sym, ◌∙◌, ap, subst, inl, inr, ⊎_elim, filter, arith}
use Rattle.std.specs.Prelude.{Contains}
use Rattle.std.proofs.lemmas.Bool.{cases_Bool, eqb-true, eq-eqb}
use Rattle.std.proofs.lemmas.List.{at_drop_more, take_more}
use Rattle.std.proofs.lemmas.List.Elements.{Contains-push, Contains-append_left}
use Rattle.dfr_folder.specs.declared.name.Ending.{Ending}
use Rattle.dfr_folder.specs.declared.name.Ending.TheVariants as ending
use Rattle.dfr_folder.specs.declared.name.Key.{Key}
use Rattle.dfr_folder.specs.declared.name.Name.{Name}
use Rattle.dfr_folder.specs.declared.name.Seen.{Seen}
use Rattle.dfr_folder.specs.Pairs.{is_leftover}
use Rattle.dfr_folder.specs.Events.{ending_number, same_name, state_by, state_of}

pub both : (x y : Bool) → (x && y) ≡ true → (x ≡ true) × (y ≡ true)
both true true h = (refl, refl)
both true false h = absurd (cc)
both false y h = absurd (cc)

all_true : (a b c d e f : Bool) → (a && b && c && d && e && f) ≡ true → (a ≡ true) × (b ≡ true) × (c ≡ true) × (d ≡ true) × (e ≡ true) × (f ≡ true)
all_true a b c d e f h =
    let h₁ = both (a && b && c && d && e) f h in
    let h₂ = both (a && b && c && d) e h₁.0 in
    let h₃ = both (a && b && c) d h₂.0 in
    let h₄ = both (a && b) c h₃.0 in
    let h₅ = both a b h₄.0 in
    (h₅.0, h₅.1, h₄.1, h₃.1, h₂.1, h₁.1)

pub all_five : (a b c d e : Bool) → (a && b && c && d && e) ≡ true → (a ≡ true) × (b ≡ true) × (c ≡ true) × (d ≡ true) × (e ≡ true)
all_five a b c d e h =
    let h₁ = both (a && b && c && d) e h in
    let h₂ = both (a && b && c) d h₁.0 in
    let h₃ = both (a && b) c h₂.0 in
    let h₄ = both a b h₃.0 in
    (h₄.0, h₄.1, h₃.1, h₂.1, h₁.1)

ending_of : ℕ → Ending
ending_of n = if n == 0 then ending.Config else if n == 1 then ending.Data else if n == 2 then ending.ConfigPart else if n == 3 then ending.DataPart else ending.Gone

ending_back : (e : Ending) → ending_of (ending_number e) ≡ e
unfolding ending_of
ending_back ending.Config = refl
ending_back ending.Data = refl
ending_back ending.ConfigPart = refl
ending_back ending.DataPart = refl
ending_back ending.Gone = refl

same_ending : (a b : Ending) → ending_number a ≡ ending_number b → a ≡ b
same_ending a b e = sym (ending_back a) ∙ ap ending_of e ∙ ending_back b

pub same_true : (a b : Name) → same_name a b ≡ true → a ≡ b
unfolding same_name
same_true a b same =
    let h = all_true (a.key.date == b.key.date) (a.key.time == b.key.time) (a.key.micros == b.key.micros) (a.key.number == b.key.number) (a.key.copy == b.key.copy) (ending_number a.ending == ending_number b.ending) same in
    let date = eqb-true a.key.date b.key.date h.0 in
    let time = eqb-true a.key.time b.key.time h.1 in
    let micros = eqb-true a.key.micros b.key.micros h.2 in
    let number = eqb-true a.key.number b.key.number h.3 in
    let copy = eqb-true a.key.copy b.key.copy h.4 in
    let end = same_ending a.ending b.ending (eqb-true (ending_number a.ending) (ending_number b.ending) h.5) in
    λ i. record { key = record { date = date i; time = time i; micros = micros i; number = number i; copy = copy i }; ending = end i }

pub same_refl : (n : Name) → same_name n n ≡ true
unfolding same_name
same_refl n =
    rw (eq-eqb n.key.date n.key.date refl) (rw (eq-eqb n.key.time n.key.time refl) (rw (eq-eqb n.key.micros n.key.micros refl) (rw (eq-eqb n.key.number n.key.number refl)
    (rw (eq-eqb n.key.copy n.key.copy refl) (rw (eq-eqb (ending_number n.ending) (ending_number n.ending) refl) refl)))))

pub same_apart : (a b : Name) → (b ≡ a → ⊥) → same_name a b ≡ false
same_apart a b apart = ⊎_elim (λ yes. absurd (apart (sym (same_true a b yes)))) (λ no. no) (cases_Bool (same_name a b))

pub true_false : {b : Bool} → b ≡ false → b ≡ true → ⊥
true_false p q = absurd (cc (p, q))

pub Some_not_None : {A : Type 0} (x : A) → Some x ≡ None → ⊥
Some_not_None x e = absurd (cc)

-- a name at the end of a list that did not have it
pub push_there : (test : Name → Bool) (xs : List Seen) (s : Seen) → test s.name ≡ true → state_by test xs ≡ None → state_by test (xs ++ s ∷ []) ≡ Some s.synced
push_there test [] s is new = rw is refl
push_there test (x ∷ xs) s is new = ⊎_elim
    (λ yes. absurd (Some_not_None x.synced (subst (λ b. (if b then Some x.synced else state_by test xs) ≡ None) yes new)))
    (λ no. rw no (push_there test xs s is (subst (λ b. (if b then Some x.synced else state_by test xs) ≡ None) no new)))
    (cases_Bool (test x.name))

pub push_other : (test : Name → Bool) (xs : List Seen) (s : Seen) → test s.name ≡ false → state_by test (xs ++ s ∷ []) ≡ state_by test xs
push_other test [] s is = rw is refl
push_other test (x ∷ xs) s is = ap (λ (o : Option Bool). if test x.name then Some x.synced else o) (push_other test xs s is)

-- the names without one
pub filter_gone : (test : Name → Bool) (xs : List Seen) → state_by test (filter (λ s. not (test s.name)) xs) ≡ None
filter_gone test [] = refl
filter_gone test (x ∷ xs) = ⊎_elim
    (λ yes. rw yes (filter_gone test xs))
    (λ no. subst (λ b. state_by test (cond (not b) (x ∷ filter (λ s. not (test s.name)) xs) (filter (λ s. not (test s.name)) xs)) ≡ None) (sym no) (rw no (filter_gone test xs)))
    (cases_Bool (test x.name))

pub filter_other : (test other : Name → Bool) → ((n : Name) → test n ≡ true → other n ≡ false) → (xs : List Seen) → state_by other (filter (λ s. not (test s.name)) xs) ≡ state_by other xs
filter_other test other apart [] = refl
filter_other test other apart (x ∷ xs) = ⊎_elim
    (λ yes. rw yes (rw (apart x.name yes) (filter_other test other apart xs)))
    (λ no. rw no (ap (λ (o : Option Bool). if other x.name then Some x.synced else o) (filter_other test other apart xs)))
    (cases_Bool (test x.name))

pub apart_tests : (a b n : Name) → (b ≡ a → ⊥) → same_name n a ≡ true → same_name n b ≡ false
apart_tests a b n apart same = same_apart n b (λ e. apart (e ∙ same_true n a same))

pub state_step : (xs : List Seen) (n : Name) (i : ℕ) (d : Seen) → i < length xs → state_of (drop i xs) n ≡ (if same_name (get_or xs i d).name n then Some (get_or xs i d).synced else state_of (drop (i + 1) xs) n)
state_step xs n i d less = at_drop_more (λ ys. state_of ys n) xs i d less

-- a leftover that is there has its key among those so far, or is among the others
pub keys_step : (xs : List Seen) (keys : List Key) (n : Name) (i : ℕ) (d : Seen) → i < length xs → Contains keys n.key ⊎ (state_of (drop i xs) n ≡ None → ⊥)
    → Contains (keys ++ (get_or xs i d).name.key ∷ []) n.key ⊎ (state_of (drop (i + 1) xs) n ≡ None → ⊥)
keys_step xs keys n i d less (inl there) = inl (Contains-append_left keys ((get_or xs i d).name.key ∷ []) n.key there)
keys_step xs keys n i d less (inr rest) = ⊎_elim
    (λ yes. inl (subst (λ k. Contains (keys ++ (get_or xs i d).name.key ∷ []) k) (ap (λ (m : Name). m.key) (same_true (get_or xs i d).name n yes)) (Contains-push keys (get_or xs i d).name.key)))
    (λ no. inr (λ none. rest (state_step xs n i d less ∙ subst (λ b. (if b then Some (get_or xs i d).synced else state_of (drop (i + 1) xs) n) ≡ None) (sym no) none)))
    (cases_Bool (same_name (get_or xs i d).name n))

-- a file that is no leftover is passed over
pub keys_skip : (xs : List Seen) (keys : List Key) (n : Name) (i : ℕ) (d : Seen) → i < length xs → is_leftover (get_or xs i d).name.ending ≡ false → is_leftover n.ending ≡ true
    → Contains keys n.key ⊎ (state_of (drop i xs) n ≡ None → ⊥) → Contains keys n.key ⊎ (state_of (drop (i + 1) xs) n ≡ None → ⊥)
keys_skip xs keys n i d less other is (inl there) = inl there
keys_skip xs keys n i d less other is (inr rest) =
    let no : same_name (get_or xs i d).name n ≡ false = same_apart (get_or xs i d).name n (λ same. true_false (subst (λ (m : Name). is_leftover m.ending ≡ false) (sym same) other) is) in
    inr (λ none. rest (state_step xs n i d less ∙ subst (λ b. (if b then Some (get_or xs i d).synced else state_of (drop (i + 1) xs) n) ≡ None) (sym no) none))

-- a file of the list is noted as synced
pub set_there : (test : Name → Bool) (xs : List Seen) (i : ℕ) (s : Seen) → i < length xs → state_by test (take i xs) ≡ None → test s.name ≡ true → state_by test (set xs i s) ≡ Some s.synced
set_there test [] i s less none is = absurd (omega arith)
set_there test (x ∷ xs) zero s less none is = rw is refl
set_there test (x ∷ xs) (suc i) s less none is = ⊎_elim
    (λ yes. absurd (Some_not_None x.synced (subst (λ b. (if b then Some x.synced else state_by test (take i xs)) ≡ None) yes none)))
    (λ no. rw no (set_there test xs i s (omega arith) (subst (λ b. (if b then Some x.synced else state_by test (take i xs)) ≡ None) no none) is))
    (cases_Bool (test x.name))

pub set_other : (test : Name → Bool) (xs : List Seen) (i : ℕ) (d s : Seen) → i < length xs → test (get_or xs i d).name ≡ false → test s.name ≡ false → state_by test (set xs i s) ≡ state_by test xs
set_other test [] i d s less was is = refl
set_other test (x ∷ xs) zero d s less was is = rw (is, was) refl
set_other test (x ∷ xs) (suc i) d s less was is = ap (λ (o : Option Bool). if test x.name then Some x.synced else o) (set_other test xs i d s (omega arith) was is)

pub take_none : (test : Name → Bool) (xs : List Seen) (i : ℕ) (d : Seen) → i < length xs → state_by test (take i xs) ≡ None → test (get_or xs i d).name ≡ false → state_by test (take (i + 1) xs) ≡ None
take_none test xs i d less none other = rw (take_more xs i d less) (push_other test (take i xs) (get_or xs i d) other ∙ none)
