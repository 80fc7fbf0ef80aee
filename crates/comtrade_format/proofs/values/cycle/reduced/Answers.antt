use Rattle.std.proofs.Common.{◌≡◌, ◌*◌, ◌/◌, sym, ap, ◌∙◌, rules}
use Rattle.comtrade_format.proofs.Cycles.{same-quotient}
use Rattle.comtrade_format.proofs.values.cycle.reduced.Goals as goal

pub returns : goal.returns
returns c =
    let cycles = c.args.cycles in
    let rows = c.args.rows in
    let g = c.common-divisor.result in
    let less : c.in_ok-ok.field-0 ≡ cycles / g = search rules in
    let fewer : c.in_ok-ok-2.field-0 ≡ rows / g = search rules in
    ap (λ n. n * rows) less ∙ same-quotient cycles rows g c.common-divisor.ensures ∙ sym (ap (λ n. n * cycles) fewer)
