use Rattle.std.proofs.Common.{◌≡◌, ℕ, ◌<◌, true, List, length, take, get_or, append-nil, refl, sym, ◌∙◌, arith}
use Rattle.std.specs.Char.{is_ascii_digit}
use Rattle.std.specs.Str.{all_ascii_digits}
use Rattle.std.proofs.lemmas.List.{take_more, take_all}
use Rattle.comtrade_values.proofs.Capped.{digit_is}
use Rattle.comtrade_values.proofs.PlainNumbers.{digits_more, value_more}
use Rattle.comtrade_values.proofs.SampleNumbers.{sample_end, sample_comma, sample_stops}
use Rattle.comtrade_values.proofs.sample_numbers.at_end.Goals as goal

five_digits : (text : List ℕ) → 4 < length text → all_ascii_digits (take 4 text) ≡ true → is_ascii_digit (get_or text 4 0) ≡ true → all_ascii_digits (take 5 text) ≡ true
five_digits text long all digit = rw (take_more text 4 0 long) (digits_more (take 4 text) (get_or text 4 0) all digit)

pub returns-then-text-eq4-clause-sample : goal.returns-then-text-eq4-clause-sample
returns-then-text-eq4-clause-sample c = sym (sample_end c.args.text.now 4 c.if-text-eq4.true (omega arith) (omega arith) c.requires.digits)

pub returns-then-fifth-eq44-clause-sample : goal.returns-then-fifth-eq44-clause-sample
returns-then-fifth-eq44-clause-sample c =
    let inside : 4 < length c.args.text.now = omega (arith, c.if-text-eq4.false, c.requires.long) in
    sym (sample_comma c.args.text.now 4 inside (omega arith) (omega arith) c.requires.digits c.if-fifth-eq44.true)

pub returns-then-not-is_ascii_digit-clause-sample : goal.returns-then-not-is_ascii_digit-clause-sample
returns-then-not-is_ascii_digit-clause-sample c =
    let inside : 4 < length c.args.text.now = omega (arith, c.if-text-eq4.false, c.requires.long) in
    sym (sample_stops c.args.text.now 4 inside c.requires.digits (sym c.is_ascii_digit.ensures.value ∙ c.if-not-is_ascii_digit.true) c.if-fifth-eq44.false)

pub returns-clause-sample : goal.returns-clause-sample
returns-clause-sample c =
    let inside : 4 < length c.args.text.now = omega (arith, c.if-text-eq4.false, c.requires.long) in
    let digit = sym c.is_ascii_digit.ensures.value ∙ c.if-not-is_ascii_digit.false in
    sym (sample_end c.args.text.now 5 (omega (arith, c.requires.few)) (omega arith) (omega arith) (five_digits c.args.text.now inside c.requires.digits digit))

pub returns-clause-first : goal.returns-clause-first
returns-clause-first c =
    let text : List ℕ = c.args.text.now in
    let d : ℕ = get_or text 4 0 in
    let inside : 4 < length text = omega (arith, c.if-text-eq4.false, c.requires.long) in
    let digit = sym c.is_ascii_digit.ensures.value ∙ c.if-not-is_ascii_digit.false in
    record {
      digits = take 5 text;
      some = rw (take_all 5 text (omega (arith, c.requires.few))) (omega arith);
      all = five_digits text inside c.requires.digits digit;
      value = rw (take_more text 4 0 inside, value_more (take 4 text) d 0, ← c.requires.value, digit_is d digit) refl;
      cut = rw (take_all 5 text (omega (arith, c.requires.few)), append-nil text) refl;
    }
