use Rattle.std.proofs.Common.{◌≡◌, ℕ, ◌+◌, ◌-◌, ◌*◌, ◌/◌, ◌%◌, ◌^◌, ◌<◌, ◌≤◌, w64, FitsSigned, unsigned_abs, List, ◌++◌, take, decimal, ap, ◌∙◌, subst, arith, rules}
use Rattle.std.proofs.Math.Nat.{one-le-pow, le-mul_of_pos_right}
use Rattle.std.proofs.lemmas.Int.{to_z-of_z}
use Rattle.comtrade_values.specs.Written.{minus}
use Rattle.comtrade_format.specs.Places.{IsShown, places_text}
use Rattle.comtrade_values.specs.Arithmetic.{number_of}
use Rattle.comtrade_format.proofs.ValueParts.{after_below, after_fits, few_places, shown_last_digit, signed, three_parts, trimmed_value, units_whole, value_text}
use Rattle.comtrade_format.proofs.values.aligned.write_shortened.Goals as goal

pub write_places-requires-clause-few : goal.write_places-requires-clause-few
write_places-requires-clause-few c = omega (arith, c.in_ok-parts.ensures.parts.after, after_fits c.unsigned_abs.result c.args.places (omega arith))

pub returns-clause-value : goal.returns-clause-value
returns-clause-value c =
    let slot = c.args.slot.now in
    let z = c.args.units in
    let p = c.args.places in
    let before = c.in_ok-parts.parts.before in
    let after = c.in_ok-parts.parts.after in
    let parts = c.in_ok-parts.ensures.parts in
    let w = c.write_places.ensures in
    let k = w.count in
    let m : ℕ = after / 10 ^ (16 - k) in
    let fits : FitsSigned w64 z = search rules in
    let size : c.unsigned_abs.result ≡ unsigned_abs z = simp to_z-of_z at c.unsigned_abs.ensures.value in
    let le : k ≤ p = few_places (c.unsigned_abs.result % 10 ^ p) p k (subst (λ (x : ℕ). IsShown 16 x k) parts.after w.shown) in
    let whole : (before * 10 ^ k + m) * 10 ^ (p - k) ≡ unsigned_abs z = units_whole c.unsigned_abs.result p k before after (omega arith) parts.before parts.after w.shown ∙ size in
    let few : m < 10 ^ k = after_below after k w.shown.within (omega (arith, parts.after, after_fits c.unsigned_abs.result p (omega arith))) in
    let small : before * 10 ^ k + m < 2 ^ 64 = omega (arith, le-mul_of_pos_right (before * 10 ^ k + m) (one-le-pow (p - k) 10 (omega arith)), whole, size, c.unsigned_abs.ensures.bound) in
    let sign : take c.write_minus-start.result c.write_minus-start.new.slot ≡ take c.args.at slot ++ minus z = simp to_z-of_z at c.write_minus-start.ensures.text in
    record {
      shown = number_of (signed z (before * 10 ^ k + m)) k;
      trimmed = trimmed_value z p k (before * 10 ^ k + m) le whole (shown_last_digit before after k w.shown);
      within = omega (arith, w.longest, c.write_front-point.ensures.longest, c.write_minus-start.ensures.longest);
      text =
          three_parts (take c.args.at slot) (minus z) (decimal before) (places_text k m) _ _ _ sign c.write_front-point.ensures.text w.text
          ∙ ap (λ (text : List ℕ). take c.args.at slot ++ text) (value_text z k before m (10 ^ (p - k)) few small whole);
    }

pub returns-clause-some : goal.returns-clause-some
returns-clause-some c = search rules depth 1

pub returns-then-places-gt-MOST_PLACES-clause-none : goal.returns-then-places-gt-MOST_PLACES-clause-none
returns-then-places-gt-MOST_PLACES-clause-none c = search rules depth 1
