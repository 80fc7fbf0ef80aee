-- A number in its plain spelling is a reading, where it fits.
use Rattle.std.proofs.Common.{◌≡◌, ℕ, ◌^◌, ◌≤◌, Bool, true, false, cond, eqb, ltb, List, [], ◌∷◌, length, Option, Some, None, refl, ap, ◌∙◌, arith}
use Rattle.std.specs.Prelude.{◌&&◌, ℤ, pos, negsuc, ◌≤ℤ◌}
use Rattle.std.specs.Str.Parse.{digits_value, signed_digits_value}
use Rattle.std.proofs.lemmas.Bool.{eqb-true, le-leb}
use Rattle.std.proofs.lemmas.Int.{ints}
use Rattle.comtrade_values.specs.Spelling.{whole_number}
use Rattle.comtrade_values.specs.PlainNumbers as numbers
use Rattle.dfr_channels.specs.declared.scan.Reading.TheVariants.{Value}
use Rattle.comtrade_values.specs.Fields.{within}
use Rattle.dfr_script.specs.Fields.{small}
use Rattle.dfr_script.specs.ScanLines.{fields, fields_behind, reading}
use Rattle.dfr_script.specs.Plain.{Begins}

none_is : {P : Type 0} (a b : Bool) (v : Option ℤ) (z : ℤ) → cond ((a && false) && b) v None ≡ Some z → P
none_is true b v z h = absurd cc
none_is false b v z h = absurd cc

no_star : {P : Type 0} (x : ℕ) (xs : List ℕ) (z : ℤ) → x ≡ 42 → whole_number (x ∷ xs) ≡ Some z → P
no_star x xs z is h =
    let g : whole_number (42 ∷ xs) ≡ Some z = rw is at h in
    none_is (ltb 0 (length (42 ∷ xs))) (ltb (digits_value 10 (42 ∷ xs)) (10 ^ 36)) (Some (signed_digits_value 10 (42 ∷ xs))) z g

reads : (f : List ℕ) (z : ℤ) → whole_number f ≡ Some z → within (negsuc 2147483647) (pos 2147483647) (Some z) ≡ Some z → reading f ≡ Some (Value z)
unfolding reading small
reads [] z h w = absurd cc
reads (x ∷ xs) z h w = with_test (eqb x 42) refl
  where
    with_test : (b : Bool) → eqb x 42 ≡ b → reading (x ∷ xs) ≡ Some (Value z)
    with_test true e = no_star x xs z (eqb-true x 42 e) h
    with_test false e = rw (e, h, w) refl

fits : (z : ℤ) → negsuc 2147483647 ≤ℤ z → z ≤ℤ pos 2147483647 → within (negsuc 2147483647) (pos 2147483647) (Some z) ≡ Some z
fits (pos v) low high = let few : v ≤ 2147483647 = omega (arith, ints) in rw (le-leb v 2147483647 few) refl
fits (negsuc v) low high = let few : v ≤ 2147483647 = omega (arith, ints) in rw (le-leb v 2147483647 few) refl

same_behind : (behind : Option (List ℕ)) → numbers.fields_behind behind ≡ fields_behind behind
unfolding fields
same_behind None = refl
same_behind (Some text) = refl

pub begins : (text : List ℕ) (z : ℤ) (behind : Option (List ℕ)) → numbers.Begins text z behind → negsuc 2147483647 ≤ℤ z → z ≤ℤ pos 2147483647 → Begins text z behind
unfolding fields
begins text z behind b low high = record {
  field = b.field;
  cut = b.cut ∙ ap (λ (fs : List (List ℕ)). b.field ∷ fs) (same_behind behind);
  says = reads b.field z b.says (fits z low high);
}
