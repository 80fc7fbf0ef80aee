use Rattle.std.proofs.Common.{refl}
use Rattle.comtrade_format.proofs.ValuePlaces as places
use Rattle.comtrade_format.proofs.values.places.four_digits.Goals as goal

pub returns-clause-digits : goal.returns-clause-digits
returns-clause-digits c = places.four_digits c.args.n _ _ _ c.requires c.pair_of.ensures c.pair_of-2.ensures refl
