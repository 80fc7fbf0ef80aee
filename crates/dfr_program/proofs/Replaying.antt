-- Commands that a script's recorder answers, and what was written of the answers.
use Rattle.std.proofs.Common.{◌≡◌, ◌≢◌, ◌⊎◌, inl, inr, true, false, Bool, ℕ, List, [], ◌∷◌, ◌++◌, length, Option, Some, None, Result, Ok, Err, sym, ap, subst}
use Rattle.std.specs.Prelude.{IfOk, IfErr, IfSome}
use Rattle.std.specs.Io.KnownBytes.{Appends}
use Rattle.std.proofs.lemmas.List.{append-nil}
use Rattle.dfr_recorder.specs.History.{Opening, opening}
use Rattle.dfr_recorder.specs.Kept.{Kept, kept}
use Rattle.dfr_script.specs.Parts.{CommandParts, ScriptParts}
use Rattle.comtrade_format.specs.declared.file.Kind.{Kind}
use Rattle.dfr_program.specs.declared.fault.RunFault.{RunFault}
use Rattle.dfr_program.specs.declared.fault.RunFault.TheVariants.{Memory, Output, Input}
use Rattle.dfr_program.specs.declared.prepared.Fault.{Fault}
use Rattle.dfr_program.specs.Faults.{IsMadeOf}
use Rattle.dfr_program.specs.FaultTexts.{fault_text}
use Rattle.dfr_program.specs.Transcript.{transcript}
use Rattle.dfr_program.specs.Writing.{Grows, Wrote, Cut}
use Rattle.dfr_program.specs.Answering.{AllPrinted}
use Rattle.dfr_program.specs.Replays.{Written, IsOpenedBy, PrintsAnswers, PrintsFirst, CutAt}
use Rattle.dfr_program.proofs.Printing.{appends_all, wrote_then, wrote_all, cut_then}
use Rattle.dfr_program.proofs.Answering.{transcript-more}

-- all that was printed and buffered is written now
sent_all : (a b c : Option (List ℕ)) (x y t : List ℕ) → x ≡ [] → Wrote a b y (x ++ t) → Appends b c y → Appends a c t
sent_all a b c x y t e w s =
    let here : Wrote a b y t = subst (λ v. Wrote a b y (v ++ t)) e w in
    let rest : Wrote b c [] (y ++ []) = subst (λ v. Wrote b c [] v) (sym (append-nil y)) (wrote_all b c y s) in
    appends_all a c t (subst (λ v. Wrote a c [] v) (append-nil t) (wrote_then a b c y [] t [] here rest))

sent_part : (a b c : Option (List ℕ)) (x y t : List ℕ) → x ≡ [] → Wrote a b y (x ++ t) → Cut b c y → Cut a c t
sent_part a b c x y t e w s =
    let here : Wrote a b y t = subst (λ v. Wrote a b y (v ++ t)) e w in
    subst (λ v. Cut a c v) (append-nil t) (cut_then a b c y t [] here (subst (λ v. Cut b c v) (sym (append-nil y)) s))

cut_here : (a b c : Option (List ℕ)) (x t : List ℕ) → x ≡ [] → Cut a b (x ++ t) → c ≡ b → Cut a c t
cut_here a b c x t e k q = subst (λ (v : Option (List ℕ)). Cut a v t) (sym q) (subst (λ v. Cut a b (v ++ t)) e k)

no_length : (y : List ℕ) → y ≡ [] → length y ≡ 0
no_length y e = ap length e

-- the rest of the buffer was written too
pub written_then : {U V : Type 0} (r : Result U RunFault) (q : Result V RunFault) (kind : Kind) (o : Opening) (cs : List CommandParts) (a b c : Option (List ℕ)) (x y : List ℕ) → AllPrinted q kind o [] cs a x b y → x ≡ [] → Appends b c y → (length y ≡ 0 → c ≡ b) → (e : RunFault) → q ≡ Err e → r ≡ Err e → Written r kind o cs a c
written_then (Ok u) q kind o cs a b c x y p e s n f g h = absurd (cc)
written_then (Err d) (Ok v) kind o cs a b c x y p e s n f g h = absurd (cc)
written_then (Err Memory) (Err Memory) kind o cs a b c x y p e s n f g h =
    record { done = p.done; failed = p.failed; left = p.left; list = p.list; written = sent_all a b c x y (transcript kind o [] p.done) e p.wrote s }
written_then (Err Output) (Err Output) kind o cs a b c x y p e s n f g h =
    cut_here a b c x (transcript kind o [] cs) e p.0 (n (no_length y p.1))
written_then (Err Memory) (Err Output) kind o cs a b c x y p e s n f g h = absurd (cc)
written_then (Err Memory) (Err Input) kind o cs a b c x y p e s n f g h = absurd p
written_then (Err Output) (Err Memory) kind o cs a b c x y p e s n f g h = absurd (cc)
written_then (Err Output) (Err Input) kind o cs a b c x y p e s n f g h = absurd p
written_then (Err Input) (Err Memory) kind o cs a b c x y p e s n f g h = absurd (cc)
written_then (Err Input) (Err Output) kind o cs a b c x y p e s n f g h = absurd (cc)
written_then (Err Input) (Err Input) kind o cs a b c x y p e s n f g h = absurd p

pub written_whole : {V : Type 0} (q : Result V RunFault) (v : V) (kind : Kind) (o : Opening) (cs : List CommandParts) (a b c : Option (List ℕ)) (x y : List ℕ) → AllPrinted q kind o [] cs a x b y → q ≡ Ok v → x ≡ [] → Appends b c y → Appends a c (transcript kind o [] cs)
written_whole (Ok u) v kind o cs a b c x y p q e s = sent_all a b c x y (transcript kind o [] cs) e p s
written_whole (Err d) v kind o cs a b c x y p q e s = absurd (cc)

-- the rest of the buffer met a write that failed
pub written_cut : {U V : Type 0} (r : Result U RunFault) (q : Result V RunFault) (kind : Kind) (o : Opening) (cs : List CommandParts) (a b c : Option (List ℕ)) (x y : List ℕ) → AllPrinted q kind o [] cs a x b y → x ≡ [] → Cut b c y → (length y ≡ 0 → c ≡ b) → r ≡ Err Output → Written r kind o cs a c
written_cut (Ok u) q kind o cs a b c x y p e s n h = absurd (cc)
written_cut (Err Memory) q kind o cs a b c x y p e s n h = absurd (cc)
written_cut (Err Input) q kind o cs a b c x y p e s n h = absurd (cc)
written_cut (Err Output) (Ok u) kind o cs a b c x y p e s n h = sent_part a b c x y (transcript kind o [] cs) e p s
written_cut (Err Output) (Err Memory) kind o cs a b c x y p e s n h =
    subst (λ (v : List CommandParts). Cut a c (transcript kind o [] v)) p.list (transcript-more kind o [] p.done (p.failed ∷ p.left) a c (sent_part a b c x y (transcript kind o [] p.done) e p.wrote s))
written_cut (Err Output) (Err Output) kind o cs a b c x y p e s n h = cut_here a b c x (transcript kind o [] cs) e p.0 (n (no_length y p.1))
written_cut (Err Output) (Err Input) kind o cs a b c x y p e s n h = absurd p

-- ---- a script

grows_cut : (a c : Option (List ℕ)) (t : List ℕ) → Cut a c t → Grows a c
grows_cut a c t k = record { text = k.wrote.front; appends = k.wrote.appends }

grows_all : (a c : Option (List ℕ)) (t : List ℕ) → Appends a c t → Grows a c
grows_all a c t h = record { text = t; appends = h }

pub run_grows : {U : Type 0} (r : Result U RunFault) (kind : Kind) (o : Opening) (cs : List CommandParts) (a c : Option (List ℕ)) → Written r kind o cs a c → Grows a c
run_grows (Ok u) kind o cs a c p = grows_all a c (transcript kind o [] cs) p
run_grows (Err Memory) kind o cs a c p = grows_all a c (transcript kind o [] p.done) p.written
run_grows (Err Output) kind o cs a c p = grows_cut a c (transcript kind o [] cs) p
run_grows (Err Input) kind o cs a c p = absurd p

pub run_fault : {U : Type 0} (r : Result U RunFault) (kind : Kind) (o : Opening) (cs : List CommandParts) (a c : Option (List ℕ)) → Written r kind o cs a c → IfErr r (λ f. f ≢ Input)
run_fault (Ok u) kind o cs a c p = tt
run_fault (Err Memory) kind o cs a c p = λ e. cc
run_fault (Err Output) kind o cs a c p = λ e. cc
run_fault (Err Input) kind o cs a c p = absurd p

-- what is written for the recorder that a script makes
pub record Replayed (r : Result Bool RunFault) (kind : Kind) (s : ScriptParts) (a c : Option (List ℕ)) : Type 0 where
  pub opening : Opening
  pub opened : IsOpenedBy s opening
  pub written : Written r kind opening s.commands a c

pub replayed : (r : Result Bool RunFault) (kind : Kind) (s : ScriptParts) (k : Kept) (cs : List CommandParts) (a c : Option (List ℕ)) → IsMadeOf s k → cs ≡ s.commands → ((o : Opening) → kept o [] ≡ k → Written r kind o cs a c) → Replayed r kind s a c
replayed r kind s k cs a c made q p = record {
  opening = opening k.layout k.limits k.rules;
  opened = record { layout = made.layout; limits = made.limits; rules = made.rules };
  written = subst (λ (v : List CommandParts). Written r kind (opening k.layout k.limits k.rules) v a c) q (p (opening k.layout k.limits k.rules) (sym made.fresh));
}

pub replayed_grows : (r : Result Bool RunFault) (kind : Kind) (s : ScriptParts) (a c : Option (List ℕ)) → Replayed r kind s a c → Grows a c
replayed_grows r kind s a c p = run_grows r kind p.opening s.commands a c p.written

pub replayed_fault : (r : Result Bool RunFault) (kind : Kind) (s : ScriptParts) (a c : Option (List ℕ)) → Replayed r kind s a c → IfErr r (λ f. f ≢ Input)
replayed_fault r kind s a c p = run_fault r kind p.opening s.commands a c p.written

pub replayed_answers : (r : Result Bool RunFault) (kind : Kind) (s : ScriptParts) (a c : Option (List ℕ)) → Replayed r kind s a c → IfOk r (λ done. done ≡ true → PrintsAnswers kind s a c)
replayed_answers (Ok done) kind s a c p = λ e. record { opening = p.opening; opened = p.opened; written = p.written }
replayed_answers (Err fault) kind s a c p = tt

pub replayed_memory : (r : Result Bool RunFault) (kind : Kind) (f : Option Fault) (s : ScriptParts) (a c : Option (List ℕ)) → Replayed r kind s a c → f ≡ None → r ≡ Err Memory → PrintsFirst kind f s a c
replayed_memory (Ok done) kind f s a c p q e = absurd (cc)
replayed_memory (Err Memory) kind f s a c p q e = record { right = q; opening = p.opening; opened = p.opened; first = p.written }
replayed_memory (Err Output) kind f s a c p q e = absurd (cc)
replayed_memory (Err Input) kind f s a c p q e = absurd (cc)

pub replayed_output : (r : Result Bool RunFault) (kind : Kind) (f : Option Fault) (s : ScriptParts) (a c : Option (List ℕ)) → Replayed r kind s a c → f ≡ None → r ≡ Err Output → CutAt kind f s a c
replayed_output (Ok done) kind f s a c p q e = absurd (cc)
replayed_output (Err Memory) kind f s a c p q e = absurd (cc)
replayed_output (Err Output) kind f s a c p q e = subst (λ (v : Option Fault). CutAt kind v s a c) (sym q) (record { opening = p.opening; opened = p.opened; cut = p.written })
replayed_output (Err Input) kind f s a c p q e = absurd (cc)

pub faulted_output : (kind : Kind) (f : Option Fault) (fault : Fault) (s : ScriptParts) (a c : Option (List ℕ)) → Cut a c (fault_text fault) → f ≡ Some fault → CutAt kind f s a c
faulted_output kind f fault s a c k q = subst (λ (v : Option Fault). CutAt kind v s a c) (sym q) k

pub never_done : {E : Type 0} (P : Type 0) (r : Result Bool E) → IfOk r (λ d. d ≡ false) → IfOk r (λ d. d ≡ true → P)
never_done P (Ok d) e = λ h. absurd (cc)
never_done P (Err f) e = tt

-- ---- where it is known what a reader has

pub known : (t : List ℕ) (P : List ℕ → Type 0) (given : Option (List ℕ)) → IfSome given (λ b. t ≡ b) → P t → IfSome given P
known t P None e p = tt
known t P (Some b) e p = subst P e p

pub known_done : {E : Type 0} (r : Result Bool E) (b : Bool) (t : List ℕ) (P : List ℕ → Type 0) (given : Option (List ℕ)) → IfSome given (λ b. t ≡ b) → IfOk r (λ d. d ≡ b → P t) → IfOk r (λ d. d ≡ b → IfSome given P)
known_done (Ok d) b t P given e p = λ h. known t P given e (p h)
known_done (Err f) b t P given e p = tt

pub known_or : (X : Type 0) (t : List ℕ) (P : List ℕ → Type 0) (given : Option (List ℕ)) → IfSome given (λ b. t ≡ b) → X ⊎ P t → X ⊎ IfSome given P
known_or X t P given e (inl x) = inl x
known_or X t P given e (inr p) = inr (known t P given e p)
