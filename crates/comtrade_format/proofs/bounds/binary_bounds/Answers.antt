use Rattle.std.proofs.Common.{refl}
use Rattle.comtrade_format.proofs.bounds.binary_bounds.Goals as goal

pub returns : goal.returns
returns c = refl
