-- Reading ASDUs one after the other, as a loop does.
use Rattle.std.proofs.Common.{◌≡◌, ℕ, zero, suc, ◌-◌, ◌+◌, ◌≤◌, ◌<◌, List, [], ◌∷◌, ◌++◌, Result, Ok, Err, refl, sym, ap, ◌∙◌, append_assoc, eq-eqb, true, false, arith}
use Rattle.std.specs.Prelude.{take, length, ◌==◌, if◌then◌else◌, slice_set}
use Rattle.std.proofs.lemmas.List.{append-nil}
use Rattle.std.proofs.lemmas.Bool.{ne_eqb}
use Rattle.dfr_bus.specs.declared.span.Span.{Span}
use Rattle.dfr_bus.specs.declared.fault.Fault.{Fault}
use Rattle.dfr_bus.specs.declared.fault.Wrong.TheVariants.{Trailing}
use Rattle.dfr_bus.specs.declared.asdu.Asdu.{Asdu}
use Rattle.dfr_bus.specs.Readings.{◌>>=◌, fault}
use Rattle.dfr_bus.specs.Ber.{element_at}
use Rattle.dfr_bus.specs.SampledValues.{asdu_at, asdus_at}

-- what was read before, and what is still read
abbrev pub after : List Asdu → Result (List Asdu) Fault → Result (List Asdu) Fault
after front read = read >>= λ asdus. Ok (front ++ asdus)

regroup : (front : List Asdu) (asdu : Asdu) (read : Result (List Asdu) Fault) → after front (read >>= λ x. Ok (asdu ∷ x)) ≡ after (front ++ asdu ∷ []) read
regroup front asdu (Ok x) = ap Ok (simp append_assoc)
regroup front asdu (Err f) = refl

-- one ASDU more
pub goes_on : (front : List Asdu) (bytes : List ℕ) (at end count i : ℕ) (content : Span) (asdu : Asdu) (total : Result (List Asdu) Fault) → i < count
    → element_at bytes at end 48 ≡ Ok content → asdu_at bytes content.from content.to ≡ Ok asdu
    → after front (asdus_at bytes at end (count - i)) ≡ total → after (front ++ asdu ∷ []) (asdus_at bytes content.to end (count - (i + 1))) ≡ total
unfolding asdus_at
goes_on front bytes at end count i content asdu total lt outer inner so_far =
    let k : count - i ≡ suc (count - (i + 1)) = omega arith in
    let one : after front (asdus_at bytes at end (count - i)) ≡ after (front ++ asdu ∷ []) (asdus_at bytes content.to end (count - (i + 1))) =
    rw (k, outer, inner) (regroup front asdu (asdus_at bytes content.to end (count - (i + 1)))) in
    sym one ∙ so_far

-- a fault in the element
pub fails_outside : (front : List Asdu) (bytes : List ℕ) (at end count i : ℕ) (f : Fault) (total : Result (List Asdu) Fault) → i < count
    → element_at bytes at end 48 ≡ Err f → after front (asdus_at bytes at end (count - i)) ≡ total → total ≡ Err f
unfolding asdus_at
fails_outside front bytes at end count i f total lt outer so_far =
    let k : count - i ≡ suc (count - (i + 1)) = omega arith in
    let one : after front (asdus_at bytes at end (count - i)) ≡ Err f = rw (k, outer) refl in
    sym so_far ∙ one

-- a fault in the ASDU
pub fails_inside : (front : List Asdu) (bytes : List ℕ) (at end count i : ℕ) (content : Span) (f : Fault) (total : Result (List Asdu) Fault) → i < count
    → element_at bytes at end 48 ≡ Ok content → asdu_at bytes content.from content.to ≡ Err f
    → after front (asdus_at bytes at end (count - i)) ≡ total → total ≡ Err f
unfolding asdus_at
fails_inside front bytes at end count i content f total lt outer inner so_far =
    let k : count - i ≡ suc (count - (i + 1)) = omega arith in
    let one : after front (asdus_at bytes at end (count - i)) ≡ Err f = rw (k, outer, inner) refl in
    sym so_far ∙ one

-- the end: nothing is left
pub is_done : (front : List Asdu) (bytes : List ℕ) (at end count i : ℕ) (total : Result (List Asdu) Fault) → count ≤ i → at ≡ end
    → after front (asdus_at bytes at end (count - i)) ≡ total → total ≡ Ok front
unfolding asdus_at
is_done front bytes at end count i total le same so_far =
    let k : count - i ≡ zero = omega arith in
    let e : (at == end) ≡ true = eq-eqb at end same in
    let one : after front (asdus_at bytes at end (count - i)) ≡ Ok front = rw (k, e) (ap Ok (append-nil front)) in
    sym so_far ∙ one

-- the end: bytes are left
pub is_trailing : (front : List Asdu) (bytes : List ℕ) (at end count i : ℕ) (total : Result (List Asdu) Fault) → count ≤ i → (at ≡ end → ⊥)
    → after front (asdus_at bytes at end (count - i)) ≡ total → total ≡ Err (fault at Trailing)
unfolding asdus_at
is_trailing front bytes at end count i total le differs so_far =
    let k : count - i ≡ zero = omega arith in
    let e : (at == end) ≡ false = ne_eqb at end differs in
    let one : after front (asdus_at bytes at end (count - i)) ≡ Err (fault at Trailing) = rw (k, e) refl in
    sym so_far ∙ one
