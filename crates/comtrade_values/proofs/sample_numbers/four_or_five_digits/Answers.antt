use Rattle.std.proofs.Common.{sym, arith, length, ◌<◌}
use Rattle.comtrade_values.proofs.SampleNumbers.{sample_no, sample_comma, sample_stops}
use Rattle.comtrade_values.proofs.sample_numbers.four_or_five_digits.Goals as goal

pub returns-then-text-lt4-clause-sample : goal.returns-then-text-lt4-clause-sample
returns-then-text-lt4-clause-sample c = sym (sample_no c.args.text.now (λ long. absurd (omega (arith, long, c.if-text-lt4.true))))

pub returns-in_default-clause-sample : goal.returns-in_default-clause-sample
returns-in_default-clause-sample c = sym (sample_no c.args.text.now (λ _. sym c.in_default.ensures.digits))

pub returns-then-text-count-ne44-clause-sample : goal.returns-then-text-count-ne44-clause-sample
returns-then-text-count-ne44-clause-sample c =
    let e = c.with_fifth-count.ensures in
    let inside : c.with_fifth-count.result.0 < length c.args.text.now = omega (arith, e.few, c.if-text-lt6.false) in
    sym (sample_stops c.args.text.now c.with_fifth-count.result.0 inside e.digits e.all c.if-text-count-ne44.true)

pub returns-clause-sample : goal.returns-clause-sample
returns-clause-sample c =
    let e = c.with_fifth-count.ensures in
    let inside : c.with_fifth-count.result.0 < length c.args.text.now = omega (arith, e.few, c.if-text-lt6.false) in
    sym (sample_comma c.args.text.now c.with_fifth-count.result.0 inside (omega (arith, e.some)) (omega (arith, e.few)) e.digits c.if-text-count-ne44.false)
