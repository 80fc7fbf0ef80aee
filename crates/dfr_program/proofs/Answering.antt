-- Steps and commands, each printed after the other.
use Rattle.std.proofs.Common.{◌≡◌, ◌<◌, true, refl, ℕ, zero, suc, List, [], ◌∷◌, ◌++◌, length, map, take, drop, get_or, map-id, Option, Some, None, Result, Ok, Err, sym, ap, ◌∙◌, subst, append_assoc, arith}
use Rattle.std.specs.Prelude.{OnOk, IfErr, codes}
use Rattle.std.specs.Iterator.{Yields}
use Rattle.std.proofs.lemmas.Iterator.{YieldsList}
use Rattle.std.proofs.lemmas.Iterator.Consumers.{YieldsList-so_far, YieldsList-turn, YieldsList-end}
use Rattle.std.specs.Result.{IsErrAnd}
use Rattle.std.proofs.lemmas.Result.{err_from_is_err_and}
use Rattle.std.proofs.lemmas.List.{append-nil}
use Rattle.dfr_channels.specs.Firing.{rules_fault}
use Rattle.dfr_channels.specs.Parts.{SetupParts, ScanParts}
use Rattle.dfr_channels.specs.declared.rule.Rule.{Rule}
use Rattle.dfr_channels.specs.declared.rules.RuleFault.{RuleFault}
use Rattle.dfr_recorder.specs.declared.step.Hit.{Hit}
use Rattle.dfr_recorder.specs.declared.step.Scanned.{Scanned}
use Rattle.dfr_recorder.specs.declared.step.ScanRefusal.{ScanRefusal}
use Rattle.dfr_recorder.specs.declared.step.LostRefusal.{LostRefusal}
use Rattle.dfr_recorder.specs.declared.step.TriggerFault.{TriggerFault}
use Rattle.dfr_recorder.specs.declared.record.Extent.{Extent}
use Rattle.dfr_recorder.specs.Parts.{RecordParts}
use Rattle.dfr_recorder.specs.Steps.{StepParts}
use Rattle.dfr_recorder.specs.Steps as step
use Rattle.dfr_recorder.specs.Answers.{AnswerParts}
use Rattle.dfr_recorder.specs.Answers as answer
use Rattle.dfr_recorder.specs.History.{Opening}
use Rattle.dfr_recorder.specs.Kept.{Kept, kept, reply, IsStep}
use Rattle.dfr_script.specs.Parts.{CommandParts}
use Rattle.dfr_script.specs.Parts as command
use Rattle.comtrade_format.specs.declared.file.Kind.{Kind}
use Rattle.comtrade_format.specs.Cfg.{cfg}
use Rattle.comtrade_format.specs.Data.{dat}
use Rattle.comtrade_write.specs.OfRecord.{file}
use Rattle.dfr_program.specs.declared.fault.RunFault.{RunFault}
use Rattle.dfr_program.specs.declared.fault.RunFault.TheVariants.{Memory, Output, Input}
use Rattle.dfr_program.specs.Texts.{scanned_text, scan_refusal_text, lost_text, trigger_text, record_text}
use Rattle.dfr_program.specs.Transcript.{answer_text, taken_text, rules_step, step_of, followed, step_text, transcript, history_after}
use Rattle.dfr_program.specs.Writing.{Wrote, Cut, Printed}
use Rattle.dfr_program.specs.Answering.{PutsStep, PrintsStep, AllPrinted}
use Rattle.dfr_program.proofs.Printing.{wrote_then, cut_then, cut_more, printed_buffered, printed_then, raised}

pub on_ok_map : {U E P Q : Type 0} (r : Result U E) → OnOk r P → (P → Q) → OnOk r Q
on_ok_map (Ok u) p f = f p
on_ok_map (Err e) p f = tt

pub on_ok_both : {U E P Q R : Type 0} (r : Result U E) → OnOk r P → OnOk r Q → (P → Q → R) → OnOk r R
on_ok_both (Ok u) p q f = f p q
on_ok_both (Err e) p q f = tt

pub puts_same : {U E : Type 0} (r q : Result U E) (old new : Kept) (s : Result StepParts RuleFault) (x y z : List ℕ) → r ≡ q → y ≡ z → OnOk q (PutsStep old s new x z) → OnOk r (PutsStep old s new x y)
puts_same (Ok u) (Ok v) old new s x y z e f p = subst (λ v. PutsStep old s new x v) (sym f) p
puts_same (Ok u) (Err w) old new s x y z e f p = absurd (cc)
puts_same (Err w) q old new s x y z e f p = tt

-- the layout of an opening is the one that is kept
same_layout : (o : Opening) (h : List StepParts) (old : Kept) → kept o h ≡ old → o.layout ≡ old.layout
same_layout o h old k = ap (λ (q : Kept). q.layout) k

-- what is printed of a step is the text of its answer
pub text_of : (kind : Kind) (old new : Kept) (s : StepParts) (a : AnswerParts) → IsStep old s a new → (o : Opening) (h : List StepParts) → kept o h ≡ old → answer_text old.layout kind a ≡ step_text kind o h (Ok s)
text_of kind old new s a is o h k =
    ap (λ v. answer_text old.layout kind v) (sym (is o h k).0) ∙ ap (λ (l : SetupParts). answer_text l kind (reply o h s)) (sym (same_layout o h old k))

pub puts_step : (old new : Kept) (s : StepParts) (a : AnswerParts) (x y : List ℕ) → IsStep old s a new → ((kind : Kind) → y ≡ x ++ answer_text old.layout kind a) → PutsStep old (Ok s) new x y
puts_step old new s a x y is e = record {
  text = λ kind o h k. e kind ∙ ap (λ v. x ++ v) (text_of kind old new s a is o h k);
  after = λ o h k. (is o h k).1;
}

pub puts_scanned : (old new : Kept) (scan : ScanParts) (s : Scanned) (x y : List ℕ) → IsStep old (step.Scan scan) (answer.Scan (Ok s)) new → y ≡ x ++ scanned_text s → PutsStep old (Ok (step.Scan scan)) new x y
unfolding answer_text
puts_scanned old new scan s x y is e = puts_step old new (step.Scan scan) (answer.Scan (Ok s)) x y is (λ kind. e)

pub puts_refusal : (old new : Kept) (scan : ScanParts) (s : ScanRefusal) (x y : List ℕ) → IsStep old (step.Scan scan) (answer.Scan (Err s)) new → y ≡ x ++ scan_refusal_text s → PutsStep old (Ok (step.Scan scan)) new x y
unfolding answer_text
puts_refusal old new scan s x y is e = puts_step old new (step.Scan scan) (answer.Scan (Err s)) x y is (λ kind. e)

pub puts_lost : (old new : Kept) (r : Result Scanned LostRefusal) (x y : List ℕ) → IsStep old step.Lost (answer.Lost r) new → y ≡ x ++ lost_text r → PutsStep old (Ok step.Lost) new x y
unfolding answer_text
puts_lost old new r x y is e = puts_step old new step.Lost (answer.Lost r) x y is (λ kind. e)

pub puts_trigger : (old new : Kept) (r : Result Hit TriggerFault) (x y : List ℕ) → IsStep old step.Trigger (answer.Trigger r) new → y ≡ x ++ trigger_text r → PutsStep old (Ok step.Trigger) new x y
unfolding answer_text
puts_trigger old new r x y is e = puts_step old new step.Trigger (answer.Trigger r) x y is (λ kind. e)

pub puts_rules : (old new : Kept) (list rules : List Rule) (x y : List ℕ) → rules_fault old.layout list ≡ None → rules ≡ list → IsStep old (step.SetRules rules) (answer.SetRules true) new → y ≡ x ++ codes "rules set\n" → PutsStep old (rules_step list (rules_fault old.layout list)) new x y
unfolding answer_text
puts_rules old new list rules x y f q is e =
    let set : PutsStep old (Ok (step.SetRules rules)) new x y = puts_step old new (step.SetRules rules) (answer.SetRules true) x y is (λ kind. e) in
    subst (λ (v : Option RuleFault). PutsStep old (rules_step list v) new x y) (sym f) (subst (λ (v : List Rule). PutsStep old (Ok (step.SetRules v)) new x y) q set)

-- ---- one command

pub scan_step : (layout : SetupParts) (scan : ScanParts) → step_of layout (command.Scan scan) ≡ Ok (step.Scan scan)
unfolding step_of
scan_step layout scan = refl

pub lost_step : (layout : SetupParts) → step_of layout command.Lost ≡ Ok step.Lost
unfolding step_of
lost_step layout = refl

pub trigger_step : (layout : SetupParts) → step_of layout command.Trigger ≡ Ok step.Trigger
unfolding step_of
trigger_step layout = refl

pub take_step : (layout : SetupParts) → step_of layout command.Take ≡ Ok step.Take
unfolding step_of
take_step layout = refl

pub set_step : (layout : SetupParts) (line : ℕ) (list : List Rule) → step_of layout (command.Rules line list) ≡ rules_step list (rules_fault layout list)
unfolding step_of
set_step layout line list = refl

pub prints_put : {U : Type 0} (u : U) (kind : Kind) (old new : Kept) (s t : Result StepParts RuleFault) (a : Option (List ℕ)) (x y before line : List ℕ) → t ≡ s → before ≡ [] → PutsStep old s new before line → y ≡ x ++ line → PrintsStep {U = U} (Ok u) kind old t new a x a y
prints_put u kind old new s t a x y before line q none p e =
    let put : PutsStep old t new before line = subst (λ (v : Result StepParts RuleFault). PutsStep old v new before line) (sym q) p in
    record {
      text = λ o h k. printed_buffered a x y (step_text kind o h t) (e ∙ ap (λ v. x ++ v) (put.text kind o h k ∙ ap (λ v. v ++ step_text kind o h t) none));
      after = put.after;
    }

on_ok : {U E P : Type 0} (r : Result U E) → P → OnOk r P
on_ok (Ok u) p = p
on_ok (Err e) p = tt

-- a record or none was taken
pub prints_taken : {U : Type 0} (r : Result U RunFault) (kind : Kind) (old new : Kept) (taken : Option RecordParts) (a b : Option (List ℕ)) (x y : List ℕ) → IsStep old step.Take (answer.Take taken) new → Printed r a x b y (answer_text old.layout kind (answer.Take taken)) → PrintsStep r kind old (Ok step.Take) new a x b y
prints_taken r kind old new taken a b x y is p = record {
  text = λ o h k. subst (λ v. Printed r a x b y v) (text_of kind old new step.Take (answer.Take taken) is o h k) p;
  after = on_ok r (λ o h k. (is o h k).1);
}

-- ---- a command after others

transcript-push : (kind : Kind) (o : Opening) (h : List StepParts) (cs : List CommandParts) (c : CommandParts) (more : List CommandParts) → transcript kind o h (cs ++ (c ∷ more)) ≡ transcript kind o h cs ++ (step_text kind o (history_after o h cs) (step_of o.layout c) ++ transcript kind o (followed (history_after o h cs) (step_of o.layout c)) more)
unfolding transcript history_after
transcript-push kind o h [] c more = refl
transcript-push kind o h (d ∷ cs) c more =
    let first : List ℕ = step_text kind o h (step_of o.layout d) in
    let g : List StepParts = followed h (step_of o.layout d) in
    let now : Result StepParts RuleFault = step_of o.layout c in
    let last : List ℕ = step_text kind o (history_after o g cs) now ++ transcript kind o (followed (history_after o g cs) now) more in
    ap (λ v. first ++ v) (transcript-push kind o g cs c more) ∙ sym (append_assoc first (transcript kind o g cs) last)

history-push : (o : Opening) (h : List StepParts) (cs : List CommandParts) (c : CommandParts) → history_after o h (cs ++ (c ∷ [])) ≡ followed (history_after o h cs) (step_of o.layout c)
unfolding history_after
history-push o h [] c = refl
history-push o h (d ∷ cs) c = history-push o (followed h (step_of o.layout d)) cs c

no_text : (kind : Kind) (o : Opening) (h : List StepParts) → transcript kind o h [] ≡ []
unfolding transcript
no_text kind o h = refl

no_history : (o : Opening) (h : List StepParts) → history_after o h [] ≡ h
unfolding history_after
no_history o h = refl

pub prints_sent : {U V : Type 0} (u : U) (r : Result V RunFault) (kind : Kind) (old new : Kept) (s : Result StepParts RuleFault) (a b c : Option (List ℕ)) (x y z : List ℕ) → PrintsStep {U = U} (Ok u) kind old s new a x b y → Printed r b y c z [] → IfErr r (λ e. e ≡ Output) → PrintsStep r kind old s new a x c z
prints_sent u r kind old new s a b c x y z p q f = record {
  text = λ o h k. subst (λ v. Printed r a x c z v) (append-nil (step_text kind o h s)) (printed_then r a b c x y z (step_text kind o h s) [] (p.text o h k) q f);
  after = on_ok r p.after;
}

-- after every history of which `old` is kept, these commands are answered, and `new` is kept
pub record Ran (kind : Kind) (old : Kept) (cs : List CommandParts) (new : Kept) (a : Option (List ℕ)) (x : List ℕ) (b : Option (List ℕ)) (y : List ℕ) : Type 0 where
  pub text : (o : Opening) (h : List StepParts) → kept o h ≡ old → Wrote a b y (x ++ transcript kind o h cs)
  pub after : (o : Opening) (h : List StepParts) → kept o h ≡ old → kept o (history_after o h cs) ≡ new

pub ran_none : (kind : Kind) (k : Kept) (a : Option (List ℕ)) (x : List ℕ) → Ran kind k [] k a x a x
ran_none kind k a x = record {
  text = λ o h e. printed_buffered a x x (transcript kind o h []) (sym (append-nil x) ∙ ap (λ v. x ++ v) (sym (no_text kind o h)));
  after = λ o h e. ap (λ g. kept o g) (no_history o h) ∙ e;
}

step_here : (o : Opening) (h : List StepParts) (mid : Kept) (c : CommandParts) → kept o h ≡ mid → step_of mid.layout c ≡ step_of o.layout c
step_here o h mid c k = ap (λ (l : SetupParts). step_of l c) (sym (same_layout o h mid k))

pub ran_next : {U : Type 0} (u : U) (kind : Kind) (old mid new : Kept) (cs ds : List CommandParts) (c : CommandParts) (a b d : Option (List ℕ)) (x y z : List ℕ) → Ran kind old cs mid a x b y → PrintsStep {U = U} (Ok u) kind mid (step_of mid.layout c) new b y d z → ds ≡ cs ++ (c ∷ []) → Ran kind old ds new a x d z
ran_next u kind old mid new cs ds c a b d x y z r p q =
    let text : (o : Opening) (h : List StepParts) → kept o h ≡ old → Wrote a d z (x ++ transcript kind o h (cs ++ (c ∷ []))) =
    λ o h k.
    let g : List StepParts = history_after o h cs in
    let e : kept o g ≡ mid = r.after o h k in
    let t : List ℕ = step_text kind o g (step_of o.layout c) in
    let here : Wrote b d z (y ++ t) = subst (λ (v : Result StepParts RuleFault). Wrote b d z (y ++ step_text kind o g v)) (step_here o g mid c e) (p.text o g e) in
    let same : transcript kind o h (cs ++ (c ∷ [])) ≡ transcript kind o h cs ++ t =
    transcript-push kind o h cs c [] ∙ ap (λ v. transcript kind o h cs ++ v) (ap (λ v. t ++ v) (no_text kind o (followed g (step_of o.layout c))) ∙ append-nil t) in
    subst (λ v. Wrote a d z v) (append_assoc x (transcript kind o h cs) t ∙ ap (λ v. x ++ v) (sym same)) (wrote_then a b d y z (x ++ transcript kind o h cs) t (r.text o h k) here) in
    let after : (o : Opening) (h : List StepParts) → kept o h ≡ old → kept o (history_after o h (cs ++ (c ∷ []))) ≡ new =
    λ o h k.
    let g : List StepParts = history_after o h cs in
    let e : kept o g ≡ mid = r.after o h k in
    ap (λ v. kept o v) (history-push o h cs c ∙ ap (λ (v : Result StepParts RuleFault). followed g v) (sym (step_here o g mid c e))) ∙ p.after o g e in
    let all : Ran kind old (cs ++ (c ∷ [])) new a x d z = record { text = text; after = after } in
    subst (λ (v : List CommandParts). Ran kind old v new a x d z) (sym q) all

pub all_done : {U : Type 0} (u : U) (kind : Kind) (old new : Kept) (cs all : List CommandParts) (a b : Option (List ℕ)) (x y : List ℕ) → Ran kind old cs new a x b y → cs ≡ all → (o : Opening) (h : List StepParts) → kept o h ≡ old → AllPrinted {U = U} (Ok u) kind o h all a x b y
all_done u kind old new cs all a b x y r q o h k = subst (λ (v : List CommandParts). Wrote a b y (x ++ transcript kind o h v)) q (r.text o h k)

-- a fault says the same beside any value
refault : (U V : Type 0) (e : RunFault) (a b : Option (List ℕ)) (x y t : List ℕ) → Printed {U = V} (Err e) a x b y t → Printed {U = U} (Err e) a x b y t
refault U V Memory a b x y t p = p
refault U V Output a b x y t p = p
refault U V Input a b x y t p = p

stopped : (U : Type 0) (e : RunFault) (kind : Kind) (o : Opening) (h : List StepParts) (cs left all : List CommandParts) (c : CommandParts) (a b d : Option (List ℕ)) (x y z : List ℕ) → cs ++ (c ∷ left) ≡ all → Wrote a b y (x ++ transcript kind o h cs) → Printed {U = U} (Err e) b y d z (step_text kind o (history_after o h cs) (step_of o.layout c)) → AllPrinted {U = U} (Err e) kind o h all a x d z
stopped U Memory kind o h cs left all c a b d x y z q w p = record {
  done = cs;
  failed = c;
  left = left;
  list = q;
  wrote = subst (λ (v : Option (List ℕ)). Wrote a v z (x ++ transcript kind o h cs)) (sym p.0) (subst (λ v. Wrote a b v (x ++ transcript kind o h cs)) (sym p.1) w);
}
stopped U Output kind o h cs left all c a b d x y z q w p =
    let g : List StepParts = history_after o h cs in
    let t : List ℕ = step_text kind o g (step_of o.layout c) in
    let more : List ℕ = transcript kind o (followed g (step_of o.layout c)) left in
    let cut : Cut a d (x ++ (transcript kind o h cs ++ (t ++ more))) =
    subst (λ v. Cut a d v) (append_assoc (x ++ transcript kind o h cs) t more ∙ append_assoc x (transcript kind o h cs) (t ++ more)) (cut_more a d ((x ++ transcript kind o h cs) ++ t) more (cut_then a b d y (x ++ transcript kind o h cs) t w p.0)) in
    (subst (λ (v : List ℕ). Cut a d (x ++ v)) (sym (transcript-push kind o h cs c left) ∙ ap (λ (v : List CommandParts). transcript kind o h v) q) cut, p.1)
stopped U Input kind o h cs left all c a b d x y z q w p = absurd p

pub all_stopped : {U V : Type 0} (r : Result U RunFault) (e : RunFault) (kind : Kind) (old mid new : Kept) (cs left all : List CommandParts) (c : CommandParts) (a b d : Option (List ℕ)) (x y z : List ℕ) → Ran kind old cs mid a x b y → all ≡ cs ++ (c ∷ left) → PrintsStep {U = V} (Err e) kind mid (step_of mid.layout c) new b y d z → IsErrAnd r (λ v. v ≡ e) → (o : Opening) (h : List StepParts) → kept o h ≡ old → AllPrinted r kind o h all a x d z
all_stopped {U = U} {V = V} r e kind old mid new cs left all c a b d x y z ran q p err o h k =
    let f = err_from_is_err_and r err in
    let g : List StepParts = history_after o h cs in
    let here : kept o g ≡ mid = ran.after o h k in
    let t : List ℕ = step_text kind o g (step_of o.layout c) in
    let cut : Printed {U = U} (Err e) b y d z t =
    refault U V e b d y z t (subst (λ (v : Result StepParts RuleFault). Printed {U = V} (Err e) b y d z (step_text kind o g v)) (step_here o g mid c here) (p.text o g here)) in
    subst (λ (v : Result U RunFault). AllPrinted v kind o h all a x d z) (sym (raised r f.0 e f.1 f.2)) (stopped U e kind o h cs left all c a b d x y z (sym q) (ran.text o h k) cut)

pub map_push : {X Y : Type 0} (f : X → Y) (xs : List X) (x : X) → map f (xs ++ (x ∷ [])) ≡ map f xs ++ (f x ∷ [])
map_push f [] x = refl
map_push f (y ∷ xs) x = ap (λ l. f y ∷ l) (map_push f xs x)

map_both : {X Y : Type 0} (f : X → Y) (xs ys : List X) → map f (xs ++ ys) ≡ map f xs ++ map f ys
map_both f [] ys = refl
map_both f (x ∷ xs) ys = ap (λ l. f x ∷ l) (map_both f xs ys)

parted : {X : Type 0} (n : ℕ) (all : List X) (x : X) → n < length all → x ≡ get_or all n x → all ≡ take n all ++ (x ∷ drop (suc n) all)
parted zero [] x h e = absurd (omega arith)
parted zero (y ∷ ys) x h e = ap (λ v. v ∷ ys) (sym e)
parted (suc n) [] x h e = absurd (omega arith)
parted (suc n) (y ∷ ys) x h e = ap (λ l. y ∷ l) (parted n ys x (omega arith) e)

-- the items before one of a list, that one, and those after it
map_at : {X Y : Type 0} (f : X → Y) (xs all : List X) (x : X) → map (λ v. v) xs ≡ take (length xs) all → (length xs < length all) × (x ≡ get_or all (length xs) x) → map f all ≡ map f xs ++ (f x ∷ map f (drop (suc (length xs)) all))
map_at {X = X} f xs all x e t =
    let front : take (length xs) all ≡ xs = sym e ∙ map-id xs in
    let cut : all ≡ xs ++ (x ∷ drop (suc (length xs)) all) = parted (length xs) all x t.0 t.1 ∙ ap (λ (l : List X). l ++ (x ∷ drop (suc (length xs)) all)) front in
    ap (λ l. map f l) cut ∙ map_both f xs (x ∷ drop (suc (length xs)) all)

-- so of the items that an iterator has given, and the one that it gives next
pub next_at : {S X Y : Type 0} {steps : S → Option X → S → Type 0} {s : S} {all : List X} (f : X → Y) → YieldsList steps (λ v. v) s all → (xs : List X) (t : S) → Yields steps s xs t → (r : Option X) (u : S) (x : X) → r ≡ Some x → steps t r u → map f all ≡ map f xs ++ (f x ∷ map f (drop (suc (length xs)) all))
next_at {all = all} f e xs t y r u x is step = map_at f xs all x (YieldsList-so_far e xs t y) (YieldsList-turn e xs t y r u x is step)

-- where it gives none, it has given them all
pub all_given : {S X Y : Type 0} {steps : S → Option X → S → Type 0} {s : S} {all : List X} (f : X → Y) → YieldsList steps (λ v. v) s all → (xs : List X) (t : S) → Yields steps s xs t → (r : Option X) (u : S) → r ≡ None → steps t r u → map f xs ≡ map f all
all_given f e xs t y r u none step = ap (map f) (sym (map-id xs) ∙ (YieldsList-end e xs t y r u none step).0)

same_kind : (layout : SetupParts) (r : RecordParts) (kind : Kind) → (file layout r kind).head.kind ≡ kind
unfolding file
same_kind layout r kind = refl

taken_is : (layout : SetupParts) (kind : Kind) (r : RecordParts) → answer_text layout kind (answer.Take (Some r)) ≡ record_text r.extent (cfg (file layout r kind).head) (dat kind (file layout r kind))
unfolding answer_text taken_text
taken_is layout kind r = refl

none_is : (layout : SetupParts) (kind : Kind) → answer_text layout kind (answer.Take None) ≡ codes "take none\n"
unfolding answer_text
none_is layout kind = refl

pub prints_record : {U : Type 0} (r : Result U RunFault) (kind : Kind) (old new : Kept) (taken : RecordParts) (l : SetupParts) (extent : Extent) (c d : List ℕ) (a b : Option (List ℕ)) (x y : List ℕ) → IsStep old step.Take (answer.Take (Some taken)) new → l ≡ old.layout → extent ≡ taken.extent → c ≡ cfg (file l taken kind).head → d ≡ dat (file l taken kind).head.kind (file l taken kind) → Printed r a x b y (record_text extent c d) → PrintsStep r kind old (Ok step.Take) new a x b y
prints_record r kind old new taken l extent c d a b x y is lay ext isc isd p =
    let heads : c ≡ cfg (file old.layout taken kind).head = isc ∙ ap (λ (v : SetupParts). cfg (file v taken kind).head) lay in
    let bytes : d ≡ dat kind (file old.layout taken kind) = isd ∙ ap (λ (v : Kind). dat v (file l taken kind)) (same_kind l taken kind) ∙ ap (λ (v : SetupParts). dat kind (file v taken kind)) lay in
    let same : record_text extent c d ≡ answer_text old.layout kind (answer.Take (Some taken)) =
    ap (λ (v : Extent). record_text v c d) ext ∙ ap (λ v. record_text taken.extent v d) heads ∙ ap (λ v. record_text taken.extent (cfg (file old.layout taken kind).head) v) bytes ∙ sym (taken_is old.layout kind taken) in
    prints_taken r kind old new (Some taken) a b x y is (subst (λ v. Printed r a x b y v) same p)

pub prints_none : {U : Type 0} (u : U) (kind : Kind) (old new : Kept) (a : Option (List ℕ)) (x y : List ℕ) → IsStep old step.Take (answer.Take None) new → y ≡ x ++ codes "take none\n" → PrintsStep {U = U} (Ok u) kind old (Ok step.Take) new a x a y
prints_none u kind old new a x y is e =
    prints_taken (Ok u) kind old new None a a x y is (printed_buffered a x y (answer_text old.layout kind (answer.Take None)) (e ∙ ap (λ v. x ++ v) (sym (none_is old.layout kind))))

pub prints_as : {U : Type 0} (r : Result U RunFault) (kind : Kind) (old new : Kept) (s t : Result StepParts RuleFault) (a b : Option (List ℕ)) (x y : List ℕ) → t ≡ s → PrintsStep r kind old s new a x b y → PrintsStep r kind old t new a x b y
prints_as r kind old new s t a b x y q p = subst (λ (v : Result StepParts RuleFault). PrintsStep r kind old v new a x b y) (sym q) p

-- a front of what the first commands print is one of what all print
pub transcript-more : (kind : Kind) (o : Opening) (h : List StepParts) (done left : List CommandParts) (a b : Option (List ℕ)) → Cut a b (transcript kind o h done) → Cut a b (transcript kind o h (done ++ left))
transcript-more kind o h done [] a b k = subst (λ (v : List CommandParts). Cut a b (transcript kind o h v)) (sym (append-nil done)) k
transcript-more kind o h done (c ∷ left) a b k = subst (λ v. Cut a b v) (sym (transcript-push kind o h done c left)) (cut_more a b (transcript kind o h done) _ k)
