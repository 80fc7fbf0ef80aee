-- What a sequence has are the phases of one unit.
use Rattle.std.proofs.Common.{◌≡◌, ℕ, ◌+◌, ◌<◌, Bool, true, false, List, length, take, drop, position, Option, Some, None, IfSome, option_map, option_and_then, cond, slice_get, is_some, refl, sym, ap, ◌∙◌, subst, arith}
use Rattle.std.proofs.lemmas.List.{get_or-take, get_or-drop, length-take, length-drop}
use Rattle.std.proofs.lemmas.List.Quantifiers.{position-Some}
use Rattle.dfr_channels.specs.Parts.{AnalogParts}
use Rattle.comtrade_analysis.specs.Sequences.{is_phase, has_phase, has_other, after, stretch, stretch_begin, only, partner, sequence_of, sequence_with, sequence_at, IsPhaseAt, ArePhases}
use Rattle.comtrade_analysis.specs.declared.phases.Phase.{Phase}
use Rattle.comtrade_analysis.specs.declared.phases.Phase.TheVariants.{A, B, C, Neutral}
use Rattle.comtrade_analysis.specs.declared.sequences.Sequence.{Sequence}

-- the only one is the first one
only_first : (one : AnalogParts) (phase : Phase) (channels : List AnalogParts) (o : Option ℕ) (k : ℕ)
    → option_and_then (λ j. cond (is_some (position (is_phase one phase) (drop (j + 1) channels))) None (Some j)) o ≡ Some k → o ≡ Some k
only_first one phase channels (Some j) k e = by_more (is_some (position (is_phase one phase) (drop (j + 1) channels))) e
  where
    by_more : (more : Bool) → cond more None (Some j) ≡ Some k → Some j ≡ Some k
    by_more true e = let no : ⊥ = cc in absurd no
    by_more false e = e
only_first one phase channels None k e = let no : ⊥ = cc in absurd no

-- a number that comes from an offset
from_offset : (begin j : ℕ) (P : ℕ → Type 0) (o : Option ℕ) → ((k : ℕ) → o ≡ Some k → P (begin + k)) → option_map (λ k. begin + k) o ≡ Some j → P j
from_offset begin j P (Some k) each e = let same : begin + k ≡ j = cc in subst P same (each k refl)
from_offset begin j P None each e = let no : ⊥ = cc in absurd no

module _ (channels : List AnalogParts) (place : ℕ) (one : AnalogParts) (phase : Phase) where
  -- of the first n channels
  in_front : (n k : ℕ) (xs : List AnalogParts) → position (is_phase one phase) (take n xs) ≡ Some k → IsPhaseAt xs one phase k
  in_front n k xs e =
      let least = length-take n xs in record {
        within = let h = position-Some (is_phase one phase) (take n xs) k one e in let lt : k < length (take n xs) = h.0 in omega arith;
        holds = λ d.
            let h = position-Some (is_phase one phase) (take n xs) k d e in
            let lt : k < length (take n xs) = h.0 in
            let few : k < n = omega arith in ap (is_phase one phase) (sym (get_or-take n xs k d few)) ∙ h.1;
      }

  -- of those that are left
  in_rest : (n k : ℕ) → IsPhaseAt (drop n channels) one phase k → IsPhaseAt channels one phase (n + k)
  in_rest n k h = record {
    within = let long = length-drop n channels in let lt : k < length (drop n channels) = h.within in omega arith;
    holds = λ d. ap (is_phase one phase) (sym (get_or-drop n channels k d)) ∙ h.holds d;
  }

  -- of all
  in_all : (k : ℕ) → position (is_phase one phase) channels ≡ Some k → IsPhaseAt channels one phase k
  in_all k e = record {
    within = let h = position-Some (is_phase one phase) channels k one e in h.0;
    holds = λ d. let h = position-Some (is_phase one phase) channels k d e in h.1;
  }

  -- of the stretch
  in_stretch : (b : Bool) (k : ℕ) → position (is_phase one phase) (cond b (after channels place one) channels) ≡ Some k
      → IsPhaseAt channels one phase (cond b (place + 1) 0 + k)
  in_stretch true k e = in_rest (place + 1) k (in_front _ k (drop (place + 1) channels) e)
  in_stretch false k e = let same : k ≡ 0 + k = omega arith in subst (IsPhaseAt channels one phase) same (in_all k e)

  partner_is : (j : ℕ) → partner channels place one phase ≡ Some j → IsPhaseAt channels one phase j
  partner_is j e =
      from_offset (stretch_begin channels place one) j (IsPhaseAt channels one phase) (only one phase (stretch channels place one))
      (λ k at. in_stretch (has_other channels place one) k
      (only_first one phase (stretch channels place one) (position (is_phase one phase) (stretch channels place one)) k at)) e

some_is : (x y : Sequence) → Some x ≡ Some y → x ≡ y
some_is x y e = cc

optional : (P : ℕ → Type 0) (o : Option ℕ) → ((j : ℕ) → o ≡ Some j → P j) → IfSome o P
optional P None h = tt
optional P (Some j) h = h j refl

module _ (channels : List AnalogParts) (place : ℕ) (one : AnalogParts) (at : slice_get channels place ≡ Some one) where
  sequence_of_is : (b c n : Option ℕ) (s : Sequence) → has_phase A one ≡ true → ((j : ℕ) → b ≡ Some j → IsPhaseAt channels one B j)
      → ((j : ℕ) → c ≡ Some j → IsPhaseAt channels one C j) → ((j : ℕ) → n ≡ Some j → IsPhaseAt channels one Neutral j)
      → sequence_of place b c n ≡ Some s → ArePhases channels s
  sequence_of_is (Some b) (Some c) n s first second third fourth e =
      let same : record { a = place; b = b; c = c; neutral = n } ≡ s = some_is (record { a = place; b = b; c = c; neutral = n }) s e in
      subst (ArePhases channels) same (record {
        one = one;
        first = at;
        a = first;
        b = second b refl;
        c = third c refl;
        neutral = optional (IsPhaseAt channels one Neutral) n fourth;
      })
  sequence_of_is (Some b) None n s first second third fourth e = let no : ⊥ = cc in absurd no
  sequence_of_is None c n s first second third fourth e = let no : ⊥ = cc in absurd no

  chosen : (v : Bool) (o : Option Sequence) (s : Sequence) → cond v o None ≡ Some s → (v ≡ true) × (o ≡ Some s)
  chosen true o s e = (refl, e)
  chosen false o s e = let no : ⊥ = cc in absurd no

  sequence_with_is : (s : Sequence) → sequence_with channels place one ≡ Some s → ArePhases channels s
  sequence_with_is s e =
      let found = sequence_of place (partner channels place one B) (partner channels place one C) (partner channels place one Neutral) in
      let both = chosen (has_phase A one) found s e in
      sequence_of_is (partner channels place one B) (partner channels place one C) (partner channels place one Neutral) s both.0
      (partner_is channels place one B) (partner_is channels place one C) (partner_is channels place one Neutral) both.1

pub sequence_is : (channels : List AnalogParts) (place : ℕ) (s : Sequence) → sequence_at channels place ≡ Some s → ArePhases channels s
sequence_is channels place s e = by_channel (slice_get channels place) refl e
  where
    by_channel : (o : Option AnalogParts) → slice_get channels place ≡ o → option_and_then (sequence_with channels place) o ≡ Some s → ArePhases channels s
    by_channel (Some one) at e = sequence_with_is channels place one at s e
    by_channel None at e = let no : ⊥ = cc in absurd no

-- the sequence of a channel that is phase A, with its partners
pub sequence_made : (channels : List AnalogParts) (place : ℕ) (one : AnalogParts) (b c : ℕ) (n : Option ℕ) → slice_get channels place ≡ Some one → has_phase A one ≡ true
    → partner channels place one B ≡ Some b → partner channels place one C ≡ Some c → partner channels place one Neutral ≡ n
    → Some (record { a = place; b = b; c = c; neutral = n }) ≡ sequence_at channels place
sequence_made channels place one b c n at first second third fourth =
    let found = sequence_of place (partner channels place one B) (partner channels place one C) (partner channels place one Neutral) in
    sym (
    ap (λ (o : Option AnalogParts). option_and_then (sequence_with channels place) o) at
    ∙ ap (λ (v : Bool). cond v found None) first
    ∙ ap (λ (o : Option ℕ). sequence_of place o (partner channels place one C) (partner channels place one Neutral)) second
    ∙ ap (λ (o : Option ℕ). sequence_of place (Some b) o (partner channels place one Neutral)) third
    ∙ ap (λ (o : Option ℕ). sequence_of place (Some b) (Some c) o) fourth
    )
