use Rattle.std.proofs.Common.{refl}
use Rattle.comtrade_format.proofs.ValuePlaces as places
use Rattle.comtrade_format.proofs.values.places.eight_digits.Goals as goal

pub returns : goal.returns
returns c =
    places.eight_digits c.args.n _ _ _ c.requires c.four_digits.ensures.digits c.four_digits.ensures.size c.four_digits-2.ensures.digits refl
