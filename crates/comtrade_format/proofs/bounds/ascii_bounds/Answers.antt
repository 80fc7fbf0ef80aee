use Rattle.std.proofs.Common.{refl}
use Rattle.comtrade_format.proofs.bounds.ascii_bounds.Goals as goal

pub returns : goal.returns
returns c = refl
