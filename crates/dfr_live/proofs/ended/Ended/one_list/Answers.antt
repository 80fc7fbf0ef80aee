use Rattle.dfr_live.proofs.Woven.{one-list}
use Rattle.dfr_live.proofs.ended.Ended.one_list.Goals as goal

pub returns : goal.returns
returns g c = λ x source tokens h. one-list x source tokens c.args.self.now h
