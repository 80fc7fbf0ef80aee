use Rattle.std.proofs.Common.{◌≡◌, length, rules}
use Rattle.dfr_sequence.proofs.Each.{written}
use Rattle.dfr_sequence.proofs.sequence.Sequence.step.Goals as goal

pub returns-clause-ok : goal.returns-clause-ok
returns-clause-ok g c =
    let same : c.deref_mut.result.now ≡ c.args.self.now.contacts = search rules in
    let long : length c.step_each.new.contacts ≡ c.self.inside.contacts.len = search rules in
    written c.args.self.now c.deref_mut.result.now c.args.scan c.args.bits.now c.args.changes.now.items c.try_reserve.new.self.items c.step_each.new.changes.items c.step_each.new.contacts _ _ (search rules) same c.try_reserve.ensures.items long
