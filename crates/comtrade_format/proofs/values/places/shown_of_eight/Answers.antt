use Rattle.std.proofs.Common.{refl}
use Rattle.comtrade_format.proofs.ValuePlaces.{shown_four_first, shown_four_last}
use Rattle.comtrade_format.proofs.values.places.shown_of_eight.Goals as goal

pub returns-then-last-eq0 : goal.returns-then-last-eq0
returns-then-last-eq0 c = shown_four_first c.args.n _ c.if-last-eq0.true c.shown_of_four.ensures

pub returns-else-last-eq0 : goal.returns-else-last-eq0
returns-else-last-eq0 c = shown_four_last c.args.n _ _ refl c.if-last-eq0.false c.shown_of_four-else-last-eq0.ensures
