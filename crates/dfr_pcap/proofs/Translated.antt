-- Pieces of a capture in either form.
use Rattle.std.proofs.Common.{◌≡◌, ◌∙◌, ℕ, ◌+◌, ◌≤◌, false, List, [], ◌++◌, length, drop, Result, Ok, Err, refl, sym, ap, subst, append_assoc, append-nil, inl, inr, arith}
use Rattle.std.specs.Prelude.{nat_lt}
use Rattle.std.proofs.lemmas.Bool.{cases_Bool, ltb-false, le-ltb}
use Rattle.std.proofs.lemmas.List.{length-append, get_or_append_left}
use Rattle.dfr_bus.specs.Bytes.{big_4}
use Rattle.dfr_pcap.specs.declared.blocks.TranslateFault.{TranslateFault}
use Rattle.dfr_pcap.specs.declared.blocks.TranslateFault.TheVariants as faults
use Rattle.dfr_pcap.specs.declared.translation.Form.{Form}
use Rattle.dfr_pcap.specs.declared.translation.Form.TheVariants as forms
use Rattle.dfr_pcap.specs.Walks.{start, BlocksParts, IsOf, Goes, GoesUpTo, Adds, classic_head, added}
use Rattle.dfr_pcap.specs.Translations.{TranslationParts, parts, form_of, IsSoFar, TakesIn, TakesUpTo, StopsAt, PassesOn, BeginsUpTo}
use Rattle.dfr_pcap.proofs.Walks.{is_new, is_added}

abbrev IsUnknown : Form → Type 0
IsUnknown forms.Unknown = Unit {0}
IsUnknown forms.Classic = ⊥
IsUnknown forms.Blocks = ⊥

-- the first four bytes stay
form_more : (came piece : List ℕ) → (IsUnknown (form_of came) → ⊥) → form_of (came ++ piece) ≡ form_of came
unfolding form_of
form_more came piece known =
    elim (cases_Bool (nat_lt (length came) 4)) [
      | inl short ↦ absurd (known (rw short tt))
      | inr long ↦
          let le : 4 ≤ length came = ltb-false (length came) 4 long in
          let n : length (came ++ piece) ≡ length came + length piece = length-append came piece in
          let longer : nat_lt (length (came ++ piece)) 4 ≡ false = le-ltb (length (came ++ piece)) 4 (omega (arith, n, le)) in
          let first : big_4 (came ++ piece) 0 ≡ big_4 came 0 =
          rw (
            get_or_append_left came piece 0 0 (omega (arith, le)),
            get_or_append_left came piece 0 1 (omega (arith, le)),
            get_or_append_left came piece 0 2 (omega (arith, le)),
            get_or_append_left came piece 0 3 (omega (arith, le)),
          ) refl in
          rw (long, longer, first) refl
    ]

form_known : (came piece : List ℕ) (f : Form) → (IsUnknown f → ⊥) → f ≡ form_of came → f ≡ form_of (came ++ piece)
form_known came piece f known e =
    e ∙ sym (form_more came piece (λ u. known (subst (λ (g : Form). IsUnknown g) (sym e) u)))

pub none_yet : IsSoFar [] [] (record { form = forms.Unknown; blocks = record { state = start; came = 0; passed = 0; bytes = [] } })
unfolding form_of
none_yet = record { form = refl; gives = (refl, is_new, refl) }

pub blocks_taken : (piece : List ℕ) (p q : BlocksParts) (before after : List ℕ) → Goes (added piece p) q before after
    → TakesIn piece (parts forms.Blocks p) (parts forms.Blocks q) before after
blocks_taken piece p q before after g = (
  g.0,
  g.1,
  λ came given so.
      record {
        form = form_known came piece forms.Blocks (λ u. u) so.form;
        gives = g.2 (came ++ piece) given (is_added came given piece p so.gives);
      },
)

pub classic_taken : (piece : List ℕ) (p : BlocksParts) (before : List ℕ) → TakesIn piece (parts forms.Classic p) (parts forms.Classic p) before (before ++ piece)
classic_taken piece p before = (
  piece,
  refl,
  λ came given so.
      record {
        form = form_known came piece forms.Classic (λ u. u) so.form;
        gives = ap (λ (x : List ℕ). x ++ piece) so.gives;
      },
)

-- ---- the piece that says the form

-- all bytes are left
all_left : (came piece : List ℕ) (p : BlocksParts) → IsOf came classic_head p → p.passed ≡ 0 → (added piece p).bytes ≡ came ++ piece
all_left came piece p so zero = (is_added came classic_head piece p so).left ∙ ap (λ (n : ℕ). drop n (came ++ piece)) zero

pub unknown_taken : (piece : List ℕ) (p : BlocksParts) (before : List ℕ) → forms.Unknown ≡ form_of (added piece p).bytes
    → TakesIn piece (parts forms.Unknown p) (parts forms.Unknown (added piece p)) before before
unknown_taken piece p before e = (
  [],
  sym (append-nil before),
  λ came given so.
      record {
        form = e ∙ ap (λ (x : List ℕ). form_of x) (all_left came piece p so.gives.1 so.gives.2);
        gives = (append-nil given ∙ so.gives.0, is_added came classic_head piece p so.gives.1, so.gives.2);
      },
)

pub first_classic : (piece : List ℕ) (p : BlocksParts) (before : List ℕ) → forms.Classic ≡ form_of (added piece p).bytes
    → TakesIn piece (parts forms.Unknown p) (parts forms.Classic (added piece p)) before (before ++ (added piece p).bytes)
first_classic piece p before e = (
  (added piece p).bytes,
  refl,
  λ came given so.
      record {
        form = e ∙ ap (λ (x : List ℕ). form_of x) (all_left came piece p so.gives.1 so.gives.2);
        gives = ap (λ (x : List ℕ). x ++ (added piece p).bytes) so.gives.0 ∙ all_left came piece p so.gives.1 so.gives.2;
      },
)

pub first_blocks : (piece : List ℕ) (p q : BlocksParts) (before after : List ℕ) → forms.Blocks ≡ form_of (added piece p).bytes
    → Goes (added piece p) q (before ++ classic_head) after → TakesIn piece (parts forms.Unknown p) (parts forms.Blocks q) before after
first_blocks piece p q before after e g = (
  classic_head ++ g.0,
  g.1 ∙ append_assoc before classic_head g.0,
  λ came given so.
      record {
        form = e ∙ ap (λ (x : List ℕ). form_of x) (all_left came piece p so.gives.1 so.gives.2);
        gives =
            subst (λ (x : List ℕ). IsOf (came ++ piece) (x ++ (classic_head ++ g.0)) q) (sym so.gives.0)
            (g.2 (came ++ piece) classic_head (is_added came classic_head piece p so.gives.1));
      },
)

-- ---- what a call answers

pub refused : (piece : List ℕ) (e : TranslateFault) (f : Form) (p q : BlocksParts) (out : List ℕ) → Adds piece (Err e) p q
    → TakesUpTo piece (Err e) (parts f p) (parts f q) out out
refused piece faults.Memory f p q out h = tt
refused piece (faults.Damaged at flaw) f p q out h = absurd h
refused piece faults.Long f p q out h = (ap (λ (x : BlocksParts). parts f x) h.0, refl)

pub refused_stops : (piece : List ℕ) (e : TranslateFault) (f : Form) (p q : BlocksParts) → Adds piece (Err e) p q → StopsAt (Err e) (parts f q)
refused_stops piece (faults.Damaged at flaw) f p q h = absurd h
refused_stops piece faults.Memory forms.Unknown p q h = tt
refused_stops piece faults.Memory forms.Classic p q h = tt
refused_stops piece faults.Memory forms.Blocks p q h = tt
refused_stops piece faults.Long forms.Unknown p q h = tt
refused_stops piece faults.Long forms.Classic p q h = tt
refused_stops piece faults.Long forms.Blocks p q h = tt

blocks_up_to : (piece : List ℕ) (r : Result (Unit {0}) TranslateFault) (p q : BlocksParts) (before after : List ℕ) → (r ≡ Err faults.Long → ⊥)
    → GoesUpTo r (added piece p) q before after → TakesUpTo piece r (parts forms.Blocks p) (parts forms.Blocks q) before after
blocks_up_to piece (Ok u) p q before after short g = blocks_taken piece p q before after g
blocks_up_to piece (Err faults.Memory) p q before after short g = tt
blocks_up_to piece (Err (faults.Damaged at flaw)) p q before after short g = blocks_taken piece p q before after g
blocks_up_to piece (Err faults.Long) p q before after short g = absurd (short refl)

pub goes_taken : (piece : List ℕ) (r : Result (Unit {0}) TranslateFault) (p m q : BlocksParts) (before after : List ℕ) → m ≡ added piece p
    → (r ≡ Err faults.Long → ⊥) → GoesUpTo r m q before after → TakesUpTo piece r (parts forms.Blocks p) (parts forms.Blocks q) before after
goes_taken piece r p m q before after e short g =
    blocks_up_to piece r p q before after short (subst (λ (x : BlocksParts). GoesUpTo r x q before after) e g)

first_up_to : (piece : List ℕ) (r : Result (Unit {0}) TranslateFault) (p q : BlocksParts) (before mid after : List ℕ) → (r ≡ Err faults.Long → ⊥)
    → forms.Blocks ≡ form_of (added piece p).bytes → mid ≡ before ++ classic_head → GoesUpTo r (added piece p) q mid after
    → TakesUpTo piece r (parts forms.Unknown p) (parts forms.Blocks q) before after
first_up_to piece (Ok u) p q before mid after short e is g =
    first_blocks piece p q before after e (subst (λ (x : List ℕ). Goes (added piece p) q x after) is g)
first_up_to piece (Err faults.Memory) p q before mid after short e is g = tt
first_up_to piece (Err (faults.Damaged at flaw)) p q before mid after short e is g =
    first_blocks piece p q before after e (subst (λ (x : List ℕ). Goes (added piece p) q x after) is g)
first_up_to piece (Err faults.Long) p q before mid after short e is g = absurd (short refl)

pub blocks_begin : (r : Result (Unit {0}) TranslateFault) (m q : BlocksParts) (before mid after : List ℕ) → (r ≡ Err faults.Long → ⊥)
    → forms.Blocks ≡ form_of m.bytes → mid ≡ before ++ classic_head → GoesUpTo r m q mid after → BeginsUpTo r forms.Blocks m q before after
blocks_begin r m q before mid after short e is g piece p same =
    first_up_to piece r p q before mid after short (e ∙ ap (λ (x : BlocksParts). form_of x.bytes) same) is
    (subst (λ (x : BlocksParts). GoesUpTo r x q mid after) same g)

pub classic_begin : (r : Result (Unit {0}) TranslateFault) (m : BlocksParts) (before after : List ℕ) → forms.Classic ≡ form_of m.bytes
    → PassesOn r m.bytes before after → BeginsUpTo r forms.Classic m m before after
unfolding first_classic
classic_begin (Ok u) m before after e h piece p same =
    let known : forms.Classic ≡ form_of (added piece p).bytes = e ∙ ap (λ (x : BlocksParts). form_of x.bytes) same in
    let is : after ≡ before ++ (added piece p).bytes = h ∙ ap (λ (x : BlocksParts). before ++ x.bytes) same in
    let t = first_classic piece p before known in
    (t.0, is, λ came given so. subst (λ (x : BlocksParts). IsSoFar (came ++ piece) (given ++ t.0) (parts forms.Classic x)) (sym same) (t.2 came given so))
classic_begin (Err faults.Memory) m before after e h piece p same = tt
classic_begin (Err (faults.Damaged at flaw)) m before after e h piece p same = absurd h
classic_begin (Err faults.Long) m before after e h piece p same = absurd h

unknown_begin : (m : BlocksParts) (out : List ℕ) → forms.Unknown ≡ form_of m.bytes → BeginsUpTo (Ok tt) forms.Unknown m m out out
unknown_begin m out e piece p same =
    let t = unknown_taken piece p out (e ∙ ap (λ (x : BlocksParts). form_of x.bytes) same) in
    (t.0, t.1, λ came given so. subst (λ (x : BlocksParts). IsSoFar (came ++ piece) (given ++ t.0) (parts forms.Unknown x)) (sym same) (t.2 came given so))

pub passed_stops : (r : Result (Unit {0}) TranslateFault) (m : BlocksParts) (bytes before after : List ℕ) → PassesOn r bytes before after
    → StopsAt r (parts forms.Classic m)
passed_stops (Ok u) m bytes before after h = tt
passed_stops (Err faults.Memory) m bytes before after h = tt
passed_stops (Err (faults.Damaged at flaw)) m bytes before after h = absurd h
passed_stops (Err faults.Long) m bytes before after h = absurd h

-- no head of a capture was written
pub unwritten : (e : TranslateFault) (f : Form) (m : BlocksParts) (bytes before after : List ℕ) → PassesOn (Err e) bytes before after
    → BeginsUpTo (Err e) f m m before after
unwritten faults.Memory f m bytes before after h piece p same = tt
unwritten (faults.Damaged at flaw) f m bytes before after h piece p same = absurd h
unwritten faults.Long f m bytes before after h piece p same = absurd h

pub unwritten_stops : (e : TranslateFault) (m : BlocksParts) (bytes before after : List ℕ) → PassesOn (Err e) bytes before after
    → StopsAt (Err e) (parts forms.Blocks m)
unwritten_stops faults.Memory m bytes before after h = tt
unwritten_stops (faults.Damaged at flaw) m bytes before after h = absurd h
unwritten_stops faults.Long m bytes before after h = absurd h

classic_up_to : (piece : List ℕ) (r : Result (Unit {0}) TranslateFault) (p : BlocksParts) (before after : List ℕ) → PassesOn r piece before after
    → TakesUpTo piece r (parts forms.Classic p) (parts forms.Classic p) before after
unfolding classic_taken
classic_up_to piece (Ok u) p before after h = let t = classic_taken piece p before in (t.0, h, t.2)
classic_up_to piece (Err faults.Memory) p before after h = tt
classic_up_to piece (Err (faults.Damaged at flaw)) p before after h = absurd h
classic_up_to piece (Err faults.Long) p before after h = absurd h

-- where the form is known by another name

pub unknown_any : (f : Form) (m : BlocksParts) (out : List ℕ) → f ≡ forms.Unknown → f ≡ form_of m.bytes → BeginsUpTo (Ok tt) f m m out out
unknown_any f m out e h =
    subst (λ (x : Form). BeginsUpTo (Ok tt) x m m out out) (sym e) (unknown_begin m out (sym e ∙ h))

pub classic_any : (piece : List ℕ) (r : Result (Unit {0}) TranslateFault) (t : TranslationParts) (before after : List ℕ) → t.form ≡ forms.Classic
    → PassesOn r piece before after → TakesUpTo piece r t t before after
classic_any piece r t before after e h =
    subst (λ (x : Form). TakesUpTo piece r (parts x t.blocks) (parts x t.blocks) before after) (sym e) (classic_up_to piece r t.blocks before after h)
