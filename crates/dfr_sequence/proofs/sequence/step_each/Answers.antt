use Rattle.std.proofs.Common.{arith}
use Rattle.std.proofs.lemmas.List.{length-set}
use Rattle.dfr_sequence.proofs.Each.{stepped_none, stepped_more, stepped_all}
use Rattle.dfr_sequence.proofs.sequence.step_each.Goals as goal

pub loop-contact-init : goal.loop-contact-init
loop-contact-init g c = record { room = omega arith; done = stepped_none c.args.contacts.now c.args.place c.args.bits.now c.args.changes.now.items }

pub push_told-requires : goal.push_told-requires
push_told-requires g c = omega (arith, c.loop-contact.invariant.room, c.loop-contact-test.true)

pub loop-contact-preserved : goal.loop-contact-preserved
loop-contact-preserved g c =
    let same = length-set c.loop-contact.contacts c.loop-contact.contact-index c.step-told.new.self in
    record {
      room = omega (arith, same, c.push_told.ensures.few, c.push_told.ensures.room, c.loop-contact.invariant.room, c.loop-contact-test.true);
      done = stepped_more c.args.contacts.now c.args.place c.args.bits.now c.args.changes.now.items c.loop-contact.changes.items c.loop-contact.contacts c.loop-contact.contact-index c.contact-item.result c.step-told.result c.step-told.new.self c.push_told.new.changes.items c.loop-contact.invariant.done (omega arith) c.step-told.ensures c.push_told.ensures.items;
    }

pub returns : goal.returns
returns g c = stepped_all c.args.contacts.now c.args.place c.args.bits.now c.args.changes.now.items c.loop-contact.changes.items c.loop-contact.contacts c.loop-contact.contact-index c.loop-contact.invariant.done (omega arith)
