use Rattle.std.proofs.Common.{rules}
use Rattle.dfr_live.proofs.opened.Opened.share_with.Goals as goal

pub returns-clause-tokens : goal.returns-clause-tokens
returns-clause-tokens g c = search rules depth 1
