use Rattle.std.proofs.Common.{rules}
use Rattle.dfr_live.proofs.token.Token.pumped.Goals as goal

pub returns : goal.returns
returns g c = search rules depth 1
