-- What a set-up without a fault has.
use Rattle.std.proofs.Common.{◌≡◌, ℕ, suc, ◌+◌, ◌≤◌, Bool, true, false, cond, ltb, not, nat_le, List, [], ◌∷◌, length, take, Option, Some, None, refl, arith, ℤ, ◌≤ℤ◌}
use Rattle.std.specs.Prelude.{option_map, position, int_le}
use Rattle.std.specs.List.{list_all, position_or_len}
use Rattle.std.proofs.lemmas.List.{take_all}
use Rattle.std.proofs.lemmas.Bool.{and_parts}
use Rattle.std.proofs.lemmas.Bool.Decides.{nat_tests}
use Rattle.std.proofs.lemmas.Int.{ints}
use Rattle.comtrade_values.specs.Faults.{◌or◌, fault_unless}
use Rattle.dfr_channels.specs.Parts.{SetupParts}
use Rattle.comtrade_values.specs.Texts.{is_name}
use Rattle.comtrade_values.proofs.Comparing.{le-so, int_le-so}
use Rattle.comtrade_values.proofs.Cuts.{place_none}
use Rattle.dfr_channels.specs.Setups.{has_analog_texts, has_status_texts, place_fault, has_span, setup_fault, IsLawful}

-- neither of two faults is there
pub or-none : {F : Type 0} (a b : Option F) → a or b ≡ None → (a ≡ None) × (b ≡ None)
or-none None b e = (refl, e)
or-none (Some f) b e = absurd cc

pub unless-none : {F : Type 0} (b : Bool) (f : F) → fault_unless b f ≡ None → b ≡ true
unless-none true f e = refl
unless-none false f e = absurd cc

pub map-none : {F G : Type 0} (f : F → G) (o : Option F) → option_map f o ≡ None → o ≡ None
map-none f None e = refl
map-none f (Some x) e = absurd cc

all_from_len : {X : Type 0} (p : X → Bool) (xs : List X) → length xs ≤ position_or_len (λ x. not (p x)) xs → list_all p xs ≡ true
all_from_len p [] h = refl
all_from_len p (x ∷ xs) h = at (all_from_len p xs) (p x) refl
  where
    at : (length xs ≤ position_or_len (λ y. not (p y)) xs → list_all p xs ≡ true) → (b : Bool) → p x ≡ b → list_all p (x ∷ xs) ≡ true
    at rest true e = let g : suc (length xs) ≤ 1 + position_or_len (λ y. not (p y)) xs = rw e at h in rw e (rest (omega arith))
    at rest false e = let g : suc (length xs) ≤ 0 = rw e at h in absurd (omega arith)

-- no item fails
pub none_fails : {X : Type 0} (p : X → Bool) (xs : List X) → position (λ x. not (p x)) xs ≡ None → list_all p xs ≡ true
none_fails p xs e = all_from_len p xs (place_none (position_or_len (λ x. not (p x)) xs) (length xs) _ refl e)

pub record Texts (s : SetupParts) : Type 0 where
  pub station : is_name s.station ≡ true
  pub device : is_name s.device ≡ true
  pub analog : list_all has_analog_texts (take 256 s.analog) ≡ true
  pub status : list_all has_status_texts (take 256 s.status) ≡ true

texts : (s : SetupParts) → place_fault s ≡ None → Texts s
unfolding place_fault
texts s e =
    let a = or-none _ _ e in
    let b = or-none _ _ a.1 in
    let c = or-none _ _ b.1 in
    record {
      station = unless-none _ _ a.0;
      device = unless-none _ _ b.0;
      analog = none_fails has_analog_texts (take 256 s.analog) (map-none _ _ c.0);
      status = none_fails has_status_texts (take 256 s.status) (map-none _ _ c.1);
    }

pub lawful : (s : SetupParts) → setup_fault s ≡ None → IsLawful s
unfolding setup_fault
lawful s e =
    let a = or-none _ _ e in
    let b = or-none _ _ a.1 in
    let c = or-none _ _ b.1 in
    let d = or-none _ _ c.1 in
    let t = texts s (map-none _ _ a.0) in
    let few = and_parts _ _ (unless-none _ _ b.0) in
    let kinds = and_parts _ _ few.0 in
    let analog_few : length s.analog ≤ 256 = le-so _ _ kinds.0 in
    let status_few : length s.status ≤ 256 = le-so _ _ kinds.1 in
    let rate = and_parts _ _ (unless-none _ _ d.0) in
    let start = and_parts _ _ (unless-none _ _ d.1) in
    record {
      station = t.station;
      device = t.device;
      analog_texts = rw (take_all 256 s.analog analog_few) at t.analog;
      status_texts = rw (take_all 256 s.status status_few) at t.status;
      analog_few = analog_few;
      status_few = status_few;
      some = le-so _ _ few.1;
      spans = none_fails has_span s.analog (map-none _ _ c.0);
      rate_low = le-so _ _ rate.0;
      rate_high = le-so _ _ rate.1;
      start_low = int_le-so _ _ start.0;
      start_high = int_le-so _ _ start.1;
    }
