use Rattle.std.proofs.Common.{arith}
use Rattle.comtrade_format.proofs.ValuePlaces.{point_stored, written}
use Rattle.comtrade_format.proofs.values.places.write_four.Goals as goal

pub returns-else-shown-eq0 : goal.returns-else-shown-eq0
returns-else-shown-eq0 c =
    let text = point_stored 4 c.args.slot.now _ c.args.at c.four_digits.result c.args.n (omega arith) c.requires.room c.four_digits.ensures.digits c.write_u64.ensures in
    written 4 c.args.n _ c.args.at _ c.args.slot.now _ (omega arith) c.requires.few (omega arith) c.shown_of_four-shown.ensures text (λ h. absurd (c.if-shown-eq0.false h)) (λ _. omega arith)
