use Rattle.std.proofs.Common.{◌≡◌, true, take, sym, ◌∙◌}
use Rattle.std.proofs.lemmas.Bool.{ne_eqb, eq-eqb}
use Rattle.std.specs.Str.{all_ascii_digits}
use Rattle.comtrade_values.proofs.FourDigits.{judged, judges, value_is}
use Rattle.comtrade_values.proofs.sample_numbers.four_digits.Goals as goal

pub returns-then-digits-ne0-clause-digits : goal.returns-then-digits-ne0-clause-digits
returns-then-digits-ne0-clause-digits c = sym (ne_eqb (judged (take 4 c.args.text.now)) 0 c.if-digits-ne0.true) ∙ judges c.args.text.now c.type_inv.text c.requires

pub returns-clause-digits : goal.returns-clause-digits
returns-clause-digits c = sym (eq-eqb (judged (take 4 c.args.text.now)) 0 c.if-digits-ne0.false) ∙ judges c.args.text.now c.type_inv.text c.requires

pub returns-clause-value : goal.returns-clause-value
returns-clause-value c =
    let all : all_ascii_digits (take 4 c.args.text.now) ≡ true = sym (judges c.args.text.now c.type_inv.text c.requires) ∙ eq-eqb (judged (take 4 c.args.text.now)) 0 c.if-digits-ne0.false in
    value_is c.args.text.now c.requires all
