-- Printing one text after another: the front of them is written, and the rest buffered.
use Rattle.std.proofs.Common.{◌≡◌, ◌≢◌, refl, ℕ, List, [], ◌∷◌, ◌++◌, Option, Result, Ok, Err, sym, ap, ◌∙◌, subst, append_assoc}
use Rattle.std.specs.Prelude.{OnOk, IfErr}
use Rattle.std.proofs.KnownBytes.{Appends-nil, Appends-trans}
use Rattle.std.specs.Io.KnownBytes.{Appends}
use Rattle.std.proofs.lemmas.List.{append-nil}
use Rattle.dfr_program.specs.declared.fault.RunFault.{RunFault}
use Rattle.dfr_program.specs.declared.fault.RunFault.TheVariants.{Memory, Output, Input}
use Rattle.dfr_program.specs.Writing.{Wrote, Cut, Printed}

pub wrote_none : (a : Option (List ℕ)) (x : List ℕ) → Wrote a a x x
wrote_none a x = record { front = []; appends = Appends-nil a; whole = refl }

pub wrote_all : (a b : Option (List ℕ)) (t : List ℕ) → Appends a b t → Wrote a b [] t
wrote_all a b t h = record { front = t; appends = h; whole = append-nil t }

-- all of it, where nothing is left
pub appends_all : (a b : Option (List ℕ)) (t : List ℕ) → Wrote a b [] t → Appends a b t
appends_all a b t w = subst (λ l. Appends a b l) (sym (append-nil w.front) ∙ w.whole) w.appends

pub wrote_then : (a b c : Option (List ℕ)) (y z t u : List ℕ) → Wrote a b y t → Wrote b c z (y ++ u) → Wrote a c z (t ++ u)
wrote_then a b c y z t u v w = record {
  front = v.front ++ w.front;
  appends = Appends-trans a b c v.front w.front v.appends w.appends;
  whole = append_assoc v.front w.front z ∙ ap (λ l. v.front ++ l) w.whole ∙ sym (append_assoc v.front y u) ∙ ap (λ l. l ++ u) v.whole;
}

pub cut_then : (a b c : Option (List ℕ)) (y t u : List ℕ) → Wrote a b y t → Cut b c (y ++ u) → Cut a c (t ++ u)
cut_then a b c y t u v k = record { rest = k.rest; missing = k.missing; wrote = wrote_then a b c y k.rest t u v k.wrote }

longer_some : (xs ys : List ℕ) → xs ≢ [] → xs ++ ys ≢ []
longer_some [] ys h = λ e. h refl
longer_some (x ∷ xs) ys h = λ e. cc

pub cut_more : (a b : Option (List ℕ)) (t u : List ℕ) → Cut a b t → Cut a b (t ++ u)
cut_more a b t u k = record {
  rest = k.rest ++ u;
  missing = longer_some k.rest u k.missing;
  wrote = record {
    front = k.wrote.front;
    appends = k.wrote.appends;
    whole = sym (append_assoc k.wrote.front k.rest u) ∙ ap (λ l. l ++ u) k.wrote.whole;
  };
}

pub printed_buffered : (a : Option (List ℕ)) (x y t : List ℕ) → y ≡ x ++ t → Wrote a a y (x ++ t)
printed_buffered a x y t e = subst (λ l. Wrote a a l (x ++ t)) (sym e) (wrote_none a (x ++ t))

-- a fault that is passed on
pub raised : {U : Type 0} (r : Result U RunFault) (q e : RunFault) → r ≡ Err q → q ≡ e → r ≡ Err e
raised r q e h k = subst (λ (v : RunFault). r ≡ Err v) k h

pub printed_cut : (U : Type 0) (e : RunFault) (a b : Option (List ℕ)) (x y t : List ℕ) → e ≡ Output → Cut a b (x ++ t) → y ≡ [] → Printed {U = U} (Err e) a x b y t
printed_cut U Memory a b x y t q h k = absurd (cc)
printed_cut U Output a b x y t q h k = (h, k)
printed_cut U Input a b x y t q h k = absurd (cc)

-- text after text that was printed, where what fails then is a write
pub printed_then : {U : Type 0} (r : Result U RunFault) (a b c : Option (List ℕ)) (x y z s t : List ℕ) → Wrote a b y (x ++ s) → Printed r b y c z t → IfErr r (λ e. e ≡ Output) → Printed r a x c z (s ++ t)
printed_then (Ok u) a b c x y z s t v p f = subst (λ l. Wrote a c z l) (append_assoc x s t) (wrote_then a b c y z (x ++ s) t v p)
printed_then (Err Output) a b c x y z s t v p f = (subst (λ l. Cut a c l) (append_assoc x s t) (cut_then a b c y (x ++ s) t v p.0), p.1)
printed_then (Err Memory) a b c x y z s t v p f = absurd (cc)
printed_then (Err Input) a b c x y z s t v p f = absurd p

-- the front, the bytes of the data file and a line end, each written after the other: up to a write that fails
grouped : (x l d n : List ℕ) → ((x ++ l) ++ d) ++ n ≡ x ++ ((l ++ d) ++ n)
grouped x l d n = ap (λ v. v ++ n) (append_assoc x l d) ∙ append_assoc x (l ++ d) n

printed_stop : {U : Type 0} (r : Result U RunFault) (a b : Option (List ℕ)) (x y t : List ℕ) → r ≡ Err Output → Cut a b (x ++ t) → y ≡ [] → Printed r a x b y t
printed_stop (Ok u) a b x y t q h k = absurd (cc)
printed_stop (Err Memory) a b x y t q h k = absurd (cc)
printed_stop (Err Output) a b x y t q h k = (h, k)
printed_stop (Err Input) a b x y t q h k = absurd (cc)

pub record_front_cut : {U : Type 0} (r : Result U RunFault) (a b : Option (List ℕ)) (x y z l d n : List ℕ) → r ≡ Err Output → y ≡ x ++ l → Cut a b y → z ≡ [] → Printed r a x b z ((l ++ d) ++ n)
record_front_cut r a b x y z l d n f q k g =
    let front : Cut a b (x ++ l) = subst (λ v. Cut a b v) q k in
    printed_stop r a b x z ((l ++ d) ++ n) f (subst (λ v. Cut a b v) (grouped x l d n) (cut_more a b ((x ++ l) ++ d) n (cut_more a b (x ++ l) d front))) g

pub record_data_cut : {U : Type 0} (r : Result U RunFault) (a b c : Option (List ℕ)) (x y z l d n : List ℕ) → r ≡ Err Output → y ≡ x ++ l → Appends a b y → Cut b c d → z ≡ [] → Printed r a x c z ((l ++ d) ++ n)
record_data_cut r a b c x y z l d n f q h k g =
    let sent : Wrote a b [] (x ++ l) = subst (λ v. Wrote a b [] v) q (wrote_all a b y h) in
    printed_stop r a c x z ((l ++ d) ++ n) f (subst (λ v. Cut a c v) (grouped x l d n) (cut_more a c ((x ++ l) ++ d) n (cut_then a b c [] (x ++ l) d sent k))) g

pub record_printed : {U : Type 0} (r : Result U RunFault) (a b c e : Option (List ℕ)) (x y z l d n : List ℕ) → y ≡ x ++ l → Appends a b y → Appends b c d → OnOk r (Appends c e n) → IfErr r (λ _. Cut c e n) → IfErr r (λ f. f ≡ Output) → z ≡ [] → Printed r a x e z ((l ++ d) ++ n)
record_printed (Ok u) a b c e x y z l d n q h k p s f g =
    let all : Appends a e ((y ++ d) ++ n) = Appends-trans a c e (y ++ d) n (Appends-trans a b c y d h k) p in
    let same : (y ++ d) ++ n ≡ x ++ ((l ++ d) ++ n) = ap (λ v. (v ++ d) ++ n) q ∙ grouped x l d n in
    subst (λ v. Wrote a e v (x ++ ((l ++ d) ++ n))) (sym g) (subst (λ v. Wrote a e [] v) same (wrote_all a e ((y ++ d) ++ n) all))
record_printed {U = U} (Err fault) a b c e x y z l d n q h k p s f g =
    let sent : Wrote a c [] (y ++ d) = wrote_all a c (y ++ d) (Appends-trans a b c y d h k) in
    let same : (y ++ d) ++ n ≡ x ++ ((l ++ d) ++ n) = ap (λ v. (v ++ d) ++ n) q ∙ grouped x l d n in
    printed_cut U fault a e x z ((l ++ d) ++ n) f (subst (λ v. Cut a e v) same (cut_then a c e [] (y ++ d) n sent s)) g
