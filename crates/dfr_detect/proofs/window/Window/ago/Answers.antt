use Rattle.std.proofs.Common.{rules}
use Rattle.dfr_detect.proofs.Summed.{ago_past}
use Rattle.dfr_detect.proofs.window.Window.ago.Goals as goal

pub returns-in-None-clause-value : goal.returns-in-None-clause-value
returns-in-None-clause-value g c = ago_past c.args.n c.args.self.now.items (search rules)
