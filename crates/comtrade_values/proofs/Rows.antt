-- Worked rows of the definitions: the tables of spellings, and what is written of them.
use Rattle.std.proofs.Common.{◌≡◌, ℕ, true, false, [], ◌∷◌, Option, Some, None, refl, ℤ, pos, negsuc}
use Rattle.std.specs.Prelude.{codes}
use Rattle.comtrade_values.specs.Spelling.{Number, trimmed, whole_number, decimal_number}
use Rattle.comtrade_values.specs.Written.{filled, with_point, pointed, decimal_text}
use Rattle.std.specs.Fmt.{digits}
use Rattle.comtrade_values.specs.Texts.{is_plain}
use Rattle.comtrade_values.specs.Lines.{lines, fields}

abbrev number : ℤ → ℕ → Option Number
number units places = Some (record { units = units; places = places })

abbrev no_number : Option Number
no_number = None

small_fraction : decimal_number (codes "1.5E-3") ≡ number (pos 15) 4
small_fraction = refl

zeros_kept : decimal_number (codes "1.50") ≡ number (pos 150) 2
zeros_kept = refl

no_whole_part : decimal_number (codes ".5") ≡ number (pos 5) 1
no_whole_part = refl

minus_zero : decimal_number (codes "-0.0") ≡ number (pos 0) 1
minus_zero = refl

sixteen_bits : decimal_number (codes "4.76837158203125E-07") ≡ number (pos 476837158203125) 21
sixteen_bits = refl

too_great : decimal_number (codes "1E36") ≡ no_number
too_great = refl

too_fine : decimal_number (codes "1E-81") ≡ no_number
too_fine = refl

nothing : decimal_number [] ≡ no_number
nothing = refl

whole_minus_zero : whole_number (codes "-0") ≡ Some (pos 0)
whole_minus_zero = refl

whole_signed : whole_number (codes "-007") ≡ Some (negsuc 6)
whole_signed = refl

blanks_dropped : trimmed (codes "  a b ") ≡ codes "a b"
blanks_dropped = refl

written_small : decimal_text (record { units = pos 15; places = 4 }) ≡ codes "0.0015"
unfolding filled with_point pointed decimal_text digits
written_small = refl

written_minus : decimal_text (record { units = negsuc 4; places = 1 }) ≡ codes "-0.5"
unfolding filled with_point pointed decimal_text digits
written_minus = refl

comma_refused : is_plain 0 64 (codes "a,b") ≡ false
unfolding is_plain
comma_refused = refl

blank_end_refused : is_plain 0 64 (codes "DFR ") ≡ false
unfolding is_plain
blank_end_refused = refl

cut : lines (codes "a\r\nb\n \n") ≡ codes "a" ∷ codes "b" ∷ []
cut = refl

cut_fields : fields (codes " Bay 1 , DFR,1999") ≡ codes "Bay 1" ∷ codes "DFR" ∷ codes "1999" ∷ []
cut_fields = refl
