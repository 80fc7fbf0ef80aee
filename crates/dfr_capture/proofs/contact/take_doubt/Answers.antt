use Rattle.std.proofs.Common.{◌∙◌, ◌<◌, length, arith}
use Rattle.std.proofs.lemmas.List.{length-set}
use Rattle.dfr_capture.specs.Contacts.{at_rest}
use Rattle.dfr_capture.proofs.Listenings.{map_more}
use Rattle.dfr_capture.proofs.contact.take_doubt.Goals as goal

pub loop-one-preserved : goal.loop-one-preserved
loop-one-preserved c =
    let so = c.loop-one.invariant in
    let inside : c.loop-one.one-index < length c.args.held.now = omega (arith, so.long, c.loop-one-test.true) in
    record {
      long = length-set c.loop-one.held c.loop-one.one-index c.at_rest.result ∙ so.long;
      held = map_more (at_rest c.args.block) c.args.held.now c.loop-one.held c.loop-one.one-index _ c.at_rest.result inside so.held c.at_rest.ensures;
    }
