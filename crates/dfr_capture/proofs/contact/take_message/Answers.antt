use Rattle.std.proofs.Common.{◌∙◌, ◌<◌, length, arith}
use Rattle.std.proofs.lemmas.List.{length-set}
use Rattle.dfr_capture.specs.Contacts.{after_message}
use Rattle.dfr_capture.proofs.Listenings.{map_more}
use Rattle.dfr_capture.proofs.contact.take_message.Goals as goal

pub loop-one-preserved : goal.loop-one-preserved
loop-one-preserved c =
    let so = c.loop-one.invariant in
    let inside : c.loop-one.one-index < length c.args.held.now = omega (arith, so.long, c.loop-one-test.true) in
    record {
      long = length-set c.loop-one.held c.loop-one.one-index c.after_message.result ∙ so.long;
      held = map_more (after_message c.args.bytes.now c.args.content c.args.block) c.args.held.now c.loop-one.held c.loop-one.one-index _ c.after_message.result inside so.held c.after_message.ensures;
    }
