use Rattle.std.proofs.Common.{◌≡◌, length, rules}
use Rattle.dfr_detect.proofs.Each.{written_lost}
use Rattle.dfr_detect.proofs.detectors.Detectors.lose.Goals as goal

pub returns : goal.returns
returns g c =
    let same : c.deref_mut.result.now ≡ c.args.self.now = search rules in
    let long : length c.lose_each.new.list ≡ c.self.inside.list.len = search rules in
    written_lost c.args.self.now c.deref_mut.result.now c.lose_each.new.list _ _ c.lose_each.ensures same long
