use Rattle.std.proofs.Common.{arith}
use Rattle.comtrade_format.proofs.ValuePlaces.{widened}
use Rattle.comtrade_format.proofs.values.places.write_places.Goals as goal

pub returns-then-n-eq0 : goal.returns-then-n-eq0
returns-then-n-eq0 c = widened 4 12 _ c.args.n _ _ _ _ (omega arith) c.write_four.ensures

pub returns-then-low-eq0 : goal.returns-then-low-eq0
returns-then-low-eq0 c = widened 8 8 _ c.args.n _ _ _ _ (omega arith) c.write_eight.ensures
