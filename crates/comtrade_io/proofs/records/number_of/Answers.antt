use Rattle.std.proofs.Common.{◌≡◌, Some, ap, ◌∙◌, rules}
use Rattle.comtrade_values.specs.Spelling.{capped_size}
use Rattle.comtrade_io.proofs.Cutting.{read_again}
use Rattle.comtrade_io.proofs.records.number_of.Goals as goal

pub returns-in_err-numeral_of : goal.returns-in_err-numeral_of
returns-in_err-numeral_of c = λ n small e.
    let r : capped_size c.args.digits.now ≡ Some n = ap capped_size e ∙ read_again n small in
    let none = c.in_err-numeral_of.was in
    absurd (cc (r, none, c.numeral_of.ensures))

pub returns : goal.returns
returns c = λ n small e.
    let r : capped_size c.args.digits.now ≡ Some n = ap capped_size e ∙ read_again n small in
    let same : c.in_ok-numeral_of.field-0 ≡ n = cc (r, c.in_ok-numeral_of.was, c.numeral_of.ensures) in
    search rules
