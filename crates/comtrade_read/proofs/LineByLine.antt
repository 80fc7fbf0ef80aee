-- Lines that are taken one after the other.
use Rattle.std.proofs.Common.{◌≡◌, ℕ, zero, suc, ◌+◌, ◌-◌, ◌<◌, List, [], ◌∷◌, ◌++◌, length, Some, refl, arith, length-append}
use Rattle.std.specs.Prelude.{Result, Ok, Err, slice_get}
use Rattle.comtrade_format.specs.declared.file.Rate.{Rate}
use Rattle.comtrade_read.specs.declared.fault.ReadFault.{ReadFault}
use Rattle.comtrade_read.specs.Head.{last_sample}
use Rattle.comtrade_read.specs.Line.{Fault, Left, told, follow, first_of, taken, next, each, none_of, end}

-- ---- lines of one kind, as a loop takes them

pub starts : {A : Type 0} (says : List A → List (List ℕ) → Result A Fault) (n : ℕ) (xs : List A) (left : Left) → xs ≡ [] → each says n [] left ≡ each says (n - 0) xs left
starts says n xs left e = let z : n - 0 ≡ n = omega arith in rw (e, z) refl

pub goes_on : {A : Type 0} (says : List A → List (List ℕ) → Result A Fault) (n i : ℕ) (before : List A) (left rest : Left) (x : A) → i < n → next (says before) left ≡ Ok (x, rest)
    → each says (n - i) before left ≡ each says (n - (i + 1)) (before ++ x ∷ []) rest
unfolding each
goes_on says n i before left rest x lt e = let s : n - i ≡ suc (n - (i + 1)) = omega arith in rw (s, e) refl

pub stops : {A : Type 0} (says : List A → List (List ℕ) → Result A Fault) (n i : ℕ) (before : List A) (left : Left) (e : ReadFault) → i < n → next (says before) left ≡ Err e → each says (n - i) before left ≡ Err e
unfolding each
stops says n i before left e lt h = let s : n - i ≡ suc (n - (i + 1)) = omega arith in rw (s, h) refl

pub ends : {A : Type 0} (says : List A → List (List ℕ) → Result A Fault) (n i : ℕ) (xs : List A) (left : Left) → n ≡ i → each says (n - i) xs left ≡ Ok (xs, left)
unfolding each
ends says n i xs left e = let z : n - i ≡ 0 = omega arith in rw z refl

last_at : (before : List Rate) (r : Rate) → slice_get (before ++ r ∷ []) (length before) ≡ Some r
last_at [] r = refl
last_at (x ∷ xs) r = last_at xs r

pub last_added : (before : List Rate) (r : Rate) → last_sample (before ++ r ∷ []) ≡ r.endsamp
last_added before r =
    let n : length (before ++ r ∷ []) - 1 ≡ length before = omega (arith, length-append before (r ∷ [])) in
    rw (n, last_at before r) refl

-- ---- what was said

pub follow_said : {A B F : Type 0} (r : Result A F) (more : A → Result B F) (y : B) → follow r more ≡ Ok y → (x : A) × (r ≡ Ok x) × (more x ≡ Ok y)
follow_said (Ok x) more y e = (x, refl, e)
follow_said (Err f) more y e = absurd cc

-- a line that was taken
pub next_said : {A : Type 0} (says : List (List ℕ) → Result A Fault) (left : Left) (p : A × Left) → next says left ≡ Ok p
    → (fs : List (List ℕ)) × (left.lines ≡ fs ∷ p.1.lines) × (told left.line (says fs) ≡ Ok p.0) × (p.1.line ≡ left.line + 1)
unfolding next taken
next_said {A = A} says left p e = with_lines left.lines refl e
  where
    with_said : (fs : List (List ℕ)) (ls : List (List (List ℕ))) (r : Result A ReadFault) → left.lines ≡ fs ∷ ls → told left.line (says fs) ≡ r
        → follow r (λ x. Ok (x, record { line = left.line + 1; lines = ls })) ≡ Ok p
        → (fs : List (List ℕ)) × (left.lines ≡ fs ∷ p.1.lines) × (told left.line (says fs) ≡ Ok p.0) × (p.1.line ≡ left.line + 1)
    with_said fs ls (Ok x) c t h =
        let rest : Left = record { line = left.line + 1; lines = ls } in
        let is : (x, rest) ≡ p = cc in
        rw (← is) (fs, c, t, refl)
    with_said fs ls (Err f) c t h = absurd cc

    with_lines : (ls : List (List (List ℕ))) → left.lines ≡ ls
        → follow (first_of left.line ls) (λ t. follow (told t.line (says t.fields)) (λ x. Ok (x, t.left))) ≡ Ok p
        → (fs : List (List ℕ)) × (left.lines ≡ fs ∷ p.1.lines) × (told left.line (says fs) ≡ Ok p.0) × (p.1.line ≡ left.line + 1)
    with_lines [] c h = absurd cc
    with_lines (fs ∷ ls) c h = with_said fs ls (told left.line (says fs)) c refl h

pub told_said : {A : Type 0} (line : ℕ) (r : Result A Fault) (x : A) → told line r ≡ Ok x → r ≡ Ok x
told_said line (Ok y) x e = cc
told_said line (Err f) x e = absurd cc

pub none_said : (left : Left) (u : Unit {0}) → end left ≡ Ok u → left.lines ≡ []
unfolding end
none_said left u e = with_lines left.line left.lines e
  where
    with_lines : (line : ℕ) (ls : List (List (List ℕ))) → none_of line ls ≡ Ok u → ls ≡ []
    with_lines line [] h = refl
    with_lines line (fs ∷ ls) h = absurd cc

-- what holds of the lines after a line holds of those with it
pub next_to : {A : Type 0} (says : List (List ℕ) → Result A Fault) (left : Left) (p : A × Left) (G : List (List (List ℕ)) → Type 0)
    → ((fs : List (List ℕ)) (rest : List (List (List ℕ))) (x : A) → says fs ≡ Ok x → G rest → G (fs ∷ rest)) → next says left ≡ Ok p → G p.1.lines → G left.lines
next_to says left p G w e g = let a = next_said says left p e in rw a.1 (w a.0 p.1.lines p.0 (told_said left.line (says a.0) p.0 a.2) g)

pub each_to : {A : Type 0} (says : List A → List (List ℕ) → Result A Fault) (n : ℕ) (before : List A) (left : Left) (p : List A × Left) (G : List (List (List ℕ)) → Type 0)
    → ((xs : List A) (fs : List (List ℕ)) (rest : List (List (List ℕ))) (x : A) → says xs fs ≡ Ok x → G rest → G (fs ∷ rest))
    → each says n before left ≡ Ok p → G p.1.lines → (length p.0 ≡ length before + n) × G left.lines
unfolding each
each_to says zero before left p G w e g = let is : (before, left) ≡ p = cc in rw (← is) (omega arith, rw (← is) at g)
each_to says (suc n) before left p G w e g =
    let a = follow_said (next (says before) left) _ p e in
    let r = each_to says n (before ++ a.0.0 ∷ []) a.0.1 p G w a.2 g in
    (omega (arith, r.0, length-append before (a.0.0 ∷ [])), next_to (says before) left a.0 G (w before) a.1 r.1)
