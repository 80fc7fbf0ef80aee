-- What is told of a contact, over all scans.
use Rattle.std.proofs.Common.{◌≡◌, ◌∙◌, sym, ap, refl, ℕ, zero, suc, ◌+◌, ◌-◌, ◌≤◌, Bool, true, false, List, [], ◌∷◌, ◌++◌, map, Option, Some, None, arith, append_assoc}
use Rattle.std.specs.Prelude.{slice_get, if◌then◌else◌}
use Rattle.std.proofs.lemmas.Bool.Decides.{nat_tests}
use Rattle.dfr_sequence.specs.Contacts.{Told, heard, heard_by, told_at, tell, may_tell, is_apart, change_at}
use Rattle.dfr_sequence.specs.Laws.{flips_told, OnceLaw, FewLaw}
use Rattle.dfr_sequence.specs.declared.change.Flip.{Flip}
use Rattle.dfr_sequence.specs.declared.change.Limit.{Limit}

-- telling loses no change
told_all_if : (b : Bool) (scan : ℕ) (told : List Told) (waiting : List Flip)
    → (if b then heard_by (told_at scan waiting ∷ told) [] else heard_by told waiting).waiting ++ flips_told (if b then heard_by (told_at scan waiting ∷ told) [] else heard_by told waiting).told ≡ waiting ++ flips_told told
told_all_if true scan told waiting = refl
told_all_if false scan told waiting = refl

told_all : (l : Limit) (scan : ℕ) (told : List Told) (waiting : List Flip) → (tell l scan told waiting).waiting ++ flips_told (tell l scan told waiting).told ≡ waiting ++ flips_told told
told_all l scan told [] = refl
told_all l scan told (newest ∷ older) = told_all_if (may_tell l told scan) scan told (newest ∷ older)

pub once_law : OnceLaw
once_law w [] = refl
once_law w (now ∷ past) =
    let before = heard w past in
    told_all w.limit now.place.scan before.told (change_at w now past ++ before.waiting)
    ∙ append_assoc (change_at w now past) before.waiting (flips_told before.told)
    ∙ ap (λ (flips : List Flip). change_at w now past ++ flips) (once_law w past)

-- what lies `most` further is a second or more earlier
abbrev Apart : Limit → List ℕ → Type 0
Apart l ats = (i later earlier : ℕ) → slice_get ats i ≡ Some later → slice_get ats (i + l.most) ≡ Some earlier → earlier + l.rate ≤ later

apart_by : (rate earlier scan : ℕ) (found : Option ℕ) → found ≡ Some earlier → is_apart rate found scan ≡ true → earlier + rate ≤ scan
apart_by rate earlier scan None e may = absurd (cc e)
apart_by rate earlier scan (Some x) e may =
    let same : x ≡ earlier = cc e in
    grind (arith, nat_tests, same, may)

apart_more : (l : Limit) (scan : ℕ) (ats : List ℕ) → 1 ≤ l.most → is_apart l.rate (slice_get ats (l.most - 1)) scan ≡ true → Apart l ats → Apart l (scan ∷ ats)
apart_more l scan ats some may so zero later earlier is_later is_earlier =
    let start : 0 + l.most ≡ suc (l.most - 1) = omega (arith, some) in
    let found : slice_get ats (l.most - 1) ≡ Some earlier = sym (ap (λ (k : ℕ). slice_get (scan ∷ ats) k) start) ∙ is_earlier in
    let same : scan ≡ later = cc is_later in
    let far : earlier + l.rate ≤ scan = apart_by l.rate earlier scan (slice_get ats (l.most - 1)) found may in
    omega (arith, same, far)
apart_more l scan ats some may so (suc i) later earlier is_later is_earlier =
    let place : suc i + l.most ≡ suc (i + l.most) = omega arith in
    so i later earlier is_later (sym (ap (λ (k : ℕ). slice_get (scan ∷ ats) k) place) ∙ is_earlier)

few_if : (b : Bool) (l : Limit) (scan : ℕ) (told : List Told) (waiting : List Flip) → 1 ≤ l.most → may_tell l told scan ≡ b → Apart l (map (λ t. t.at) told)
    → Apart l (map (λ t. t.at) (if b then heard_by (told_at scan waiting ∷ told) [] else heard_by told waiting).told)
few_if true l scan told waiting some may so = apart_more l scan (map (λ t. t.at) told) some may so
few_if false l scan told waiting some may so = so

few_told : (l : Limit) (scan : ℕ) (told : List Told) (waiting : List Flip) → 1 ≤ l.most → Apart l (map (λ t. t.at) told) → Apart l (map (λ t. t.at) (tell l scan told waiting).told)
few_told l scan told [] some so = so
few_told l scan told (newest ∷ older) some so = few_if (may_tell l told scan) l scan told (newest ∷ older) some refl so

none_apart : (l : Limit) → Apart l []
none_apart l i later earlier is_later is_earlier = absurd (cc is_later)

pub few_law : FewLaw
few_law w [] some = none_apart w.limit
few_law w (now ∷ past) some =
    let before = heard w past in
    few_told w.limit now.place.scan before.told (change_at w now past ++ before.waiting) some (few_law w past some)
