use Rattle.std.proofs.Common.{◌≡◌, rules, refl, sym, w32, ◌∙◌, ap, length}
use Rattle.std.specs.Prelude.{Some}
use Rattle.std.proofs.lemmas.List.{length-map}
use Rattle.std.proofs.lemmas.Result.{err_from_is_err_and}
use Rattle.std.proofs.lemmas.Int.{to_z-of_z}
use Rattle.comtrade_values.specs.Lines.{texts}
use Rattle.dfr_channels.specs.LineFields.{analog_from}
use Rattle.comtrade_read.specs.Fields.{scale}
use Rattle.comtrade_read.specs.Head.{analog_line}
use Rattle.comtrade_read.proofs.Signed.{signed, other, same}
use Rattle.comtrade_read.proofs.channels.scaling_in.Goals as goal

pub returns-in_err-number-clause-says : goal.returns-in_err-number-clause-says
unfolding analog_line analog_from scale
returns-in_err-number-clause-says c =
    let many : length (texts c.args.fields.now) ≡ 13 = length-map c.args.fields.now (λ y. y.now) ∙ c.if-fields-ne13.false in
    let p = err_from_is_err_and c.from_residual.result c.from_residual.ensures.1 in
    rw (p.1, p.2) (λ _. rw (
      many,
      c.in_err-number.ensures.0,
      c.in_err-number.ensures.1,
    ) refl)

pub returns-in_err-a-clause-says : goal.returns-in_err-a-clause-says
unfolding analog_line analog_from scale
returns-in_err-a-clause-says c =
    let many : length (texts c.args.fields.now) ≡ 13 = length-map c.args.fields.now (λ y. y.now) ∙ c.if-fields-ne13.false in
    let p = err_from_is_err_and c.from_residual-in_err-a.result c.from_residual-in_err-a.ensures.1 in
    rw (p.1, p.2) (λ _. rw (
      many,
      c.in_ok-number.ensures,
      c.in_err-a.ensures.0,
      c.in_err-a.ensures.1,
    ) refl)

pub returns-in_err-b-clause-says : goal.returns-in_err-b-clause-says
unfolding analog_line analog_from scale
returns-in_err-b-clause-says c =
    let many : length (texts c.args.fields.now) ≡ 13 = length-map c.args.fields.now (λ y. y.now) ∙ c.if-fields-ne13.false in
    let p = err_from_is_err_and c.from_residual-in_err-b.result c.from_residual-in_err-b.ensures.1 in
    rw (p.1, p.2) (λ _. rw (
      many,
      c.in_ok-number.ensures,
      c.in_ok-a.ensures,
      c.in_err-b.ensures.0,
      c.in_err-b.ensures.1,
    ) refl)

pub returns-in_err-skew-clause-says : goal.returns-in_err-skew-clause-says
unfolding analog_line analog_from scale
returns-in_err-skew-clause-says c =
    let many : length (texts c.args.fields.now) ≡ 13 = length-map c.args.fields.now (λ y. y.now) ∙ c.if-fields-ne13.false in
    let p = err_from_is_err_and c.from_residual-in_err-skew.result c.from_residual-in_err-skew.ensures.1 in
    rw (p.1, p.2) (λ _. rw (
      many,
      c.in_ok-number.ensures,
      c.in_ok-a.ensures,
      c.in_ok-b.ensures,
      c.in_err-skew.ensures.0,
      c.in_err-skew.ensures.1,
    ) refl)

pub returns-in_err-min-clause-says : goal.returns-in_err-min-clause-says
unfolding analog_line analog_from scale
returns-in_err-min-clause-says c =
    let many : length (texts c.args.fields.now) ≡ 13 = length-map c.args.fields.now (λ y. y.now) ∙ c.if-fields-ne13.false in
    let p = err_from_is_err_and c.from_residual-in_err-min.result c.from_residual-in_err-min.ensures.1 in
    rw (p.1, p.2) (λ _. rw (
      many,
      c.in_ok-number.ensures,
      c.in_ok-a.ensures,
      c.in_ok-b.ensures,
      c.in_ok-skew.ensures,
      c.in_err-min.ensures.0,
      c.in_err-min.ensures.1,
    ) refl)

pub returns-in_err-max-clause-says : goal.returns-in_err-max-clause-says
unfolding analog_line analog_from scale
returns-in_err-max-clause-says c =
    let many : length (texts c.args.fields.now) ≡ 13 = length-map c.args.fields.now (λ y. y.now) ∙ c.if-fields-ne13.false in
    let p = err_from_is_err_and c.from_residual-in_err-max.result c.from_residual-in_err-max.ensures.1 in
    rw (p.1, p.2) (λ _. rw (
      many,
      c.in_ok-number.ensures,
      c.in_ok-a.ensures,
      c.in_ok-b.ensures,
      c.in_ok-skew.ensures,
      c.in_ok-min.ensures,
      c.in_err-max.ensures.0,
      c.in_err-max.ensures.1,
    ) refl)

pub returns-in_err-primary-clause-says : goal.returns-in_err-primary-clause-says
unfolding analog_line analog_from scale
returns-in_err-primary-clause-says c =
    let many : length (texts c.args.fields.now) ≡ 13 = length-map c.args.fields.now (λ y. y.now) ∙ c.if-fields-ne13.false in
    let p = err_from_is_err_and c.from_residual-in_err-primary.result c.from_residual-in_err-primary.ensures.1 in
    rw (p.1, p.2) (λ _. rw (
      many,
      c.in_ok-number.ensures,
      c.in_ok-a.ensures,
      c.in_ok-b.ensures,
      c.in_ok-skew.ensures,
      c.in_ok-min.ensures,
      c.in_ok-max.ensures,
      c.in_err-primary.ensures.0,
      c.in_err-primary.ensures.1,
    ) refl)

pub returns-in_err-secondary-clause-says : goal.returns-in_err-secondary-clause-says
unfolding analog_line analog_from scale
returns-in_err-secondary-clause-says c =
    let many : length (texts c.args.fields.now) ≡ 13 = length-map c.args.fields.now (λ y. y.now) ∙ c.if-fields-ne13.false in
    let p = err_from_is_err_and c.from_residual-in_err-secondary.result c.from_residual-in_err-secondary.ensures.1 in
    rw (p.1, p.2) (λ _. rw (
      many,
      c.in_ok-number.ensures,
      c.in_ok-a.ensures,
      c.in_ok-b.ensures,
      c.in_ok-skew.ensures,
      c.in_ok-min.ensures,
      c.in_ok-max.ensures,
      c.in_ok-primary.ensures,
      c.in_err-secondary.ensures.0,
      c.in_err-secondary.ensures.1,
    ) refl)

pub returns-in_err-side-clause-says : goal.returns-in_err-side-clause-says
unfolding analog_line analog_from scale
returns-in_err-side-clause-says c =
    let many : length (texts c.args.fields.now) ≡ 13 = length-map c.args.fields.now (λ y. y.now) ∙ c.if-fields-ne13.false in
    let p = err_from_is_err_and c.from_residual-in_err-side.result c.from_residual-in_err-side.ensures.1 in
    rw (p.1, p.2) (λ _. rw (
      many,
      c.in_ok-number.ensures,
      c.in_ok-a.ensures,
      c.in_ok-b.ensures,
      c.in_ok-skew.ensures,
      c.in_ok-min.ensures,
      c.in_ok-max.ensures,
      c.in_ok-primary.ensures,
      c.in_ok-secondary.ensures,
      c.in_err-side.ensures.0,
      c.in_err-side.ensures.1,
    ) refl)

pub returns-then-number-n-clause-says : goal.returns-then-number-n-clause-says
unfolding analog_line analog_from scale
returns-then-number-n-clause-says c =
    let many : length (texts c.args.fields.now) ≡ 13 = length-map c.args.fields.now (λ y. y.now) ∙ c.if-fields-ne13.false in
    λ n. rw (
      many,
      c.in_ok-number.ensures,
      c.in_ok-a.ensures,
      c.in_ok-b.ensures,
      c.in_ok-skew.ensures,
      c.in_ok-min.ensures,
      c.in_ok-max.ensures,
      c.in_ok-primary.ensures,
      c.in_ok-secondary.ensures,
      c.in_ok-side.ensures,
      other c.in_ok-number.number c.args.n c.if-number-n.true,
    ) refl

pub returns-clause-says : goal.returns-clause-says
unfolding analog_line analog_from scale
returns-clause-says c =
    let many : length (texts c.args.fields.now) ≡ 13 = length-map c.args.fields.now (λ y. y.now) ∙ c.if-fields-ne13.false in
    let number = c.in_ok-number.ensures ∙ ap (λ z. Some z) (signed c.in_ok-number.number c.args.n (search rules) (search rules) c.if-number-n.false) in
    let min = c.in_ok-min.ensures ∙ ap (λ z. Some z) (sym (to_z-of_z w32 c.in_ok-min.min (search rules))) in
    let max = c.in_ok-max.ensures ∙ ap (λ z. Some z) (sym (to_z-of_z w32 c.in_ok-max.max (search rules))) in
    rw (
      many,
      number,
      c.in_ok-a.ensures,
      c.in_ok-b.ensures,
      c.in_ok-skew.ensures,
      min,
      max,
      c.in_ok-primary.ensures,
      c.in_ok-secondary.ensures,
      c.in_ok-side.ensures,
      same c.args.n,
    ) refl
