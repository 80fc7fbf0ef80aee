use Rattle.std.proofs.Common.{refl}
use Rattle.comtrade_format.proofs.Places as places
use Rattle.comtrade_format.proofs.value_text.five_digits.Goals as goal

pub returns : goal.returns
returns c = places.five_digits c.args.n _ _ _ c.requires c.pair_of-high.ensures c.pair_of-low.ensures refl
