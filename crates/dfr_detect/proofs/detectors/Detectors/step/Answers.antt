use Rattle.std.proofs.Common.{◌≡◌, length, rules}
use Rattle.dfr_detect.proofs.Each.{written}
use Rattle.dfr_detect.proofs.detectors.Detectors.step.Goals as goal

pub returns-clause-ok : goal.returns-clause-ok
returns-clause-ok g c =
    let same : c.deref_mut.result.now ≡ c.args.self.now = search rules in
    let long : length c.append_bits.new.list ≡ c.self.inside.list.len = search rules in
    written c.args.self.now c.deref_mut.result.now c.args.readings.now c.args.status.now.items c.try_reserve.new.self.items c.append_bits.new.bits.items c.append_bits.new.list _ _ c.append_bits.ensures same c.try_reserve.ensures.items long
