use Rattle.std.proofs.Common.{arith}
use Rattle.dfr_sequence.proofs.Beginning.{begun_more}
use Rattle.dfr_sequence.proofs.sequence.contacts_of.Goals as goal

pub loop-channel-preserved : goal.loop-channel-preserved
loop-channel-preserved g c =
    begun_more c.args.limit c.args.normal.now c.loop-channel.channel _ c.loop-channel.contacts.items c.push.new.self.items c.in_ok-contact.contact c.loop-channel.invariant (omega arith) c.in_ok-contact.ensures c.in_ok-push.ensures.items
