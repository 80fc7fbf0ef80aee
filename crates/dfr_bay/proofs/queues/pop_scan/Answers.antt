use Rattle.std.proofs.Common.{◌∙◌, ◌<◌, length, arith}
use Rattle.std.proofs.lemmas.List.{length-set}
use Rattle.dfr_bay.proofs.Popping.{queues_more, heads_more}
use Rattle.dfr_bay.proofs.queues.pop_scan.Goals as goal

pub loop-queue-preserved : goal.loop-queue-preserved
loop-queue-preserved g c =
    let so = c.loop-queue.invariant in
    let stays = length-set c.loop-queue.queues c.loop-queue.queue-index c.pop.new.queue in
    let inside : c.loop-queue.queue-index < length c.args.queues.now = omega (arith, so.long, c.loop-queue-test.true) in
    record {
      room = omega (arith, stays, c.push_reserved.ensures.len, c.push_reserved.ensures.capacity, so.room, c.loop-queue-test.true);
      same = c.push_reserved.ensures.capacity ∙ so.same;
      long = stays ∙ so.long;
      scans = heads_more c.args.queues.now c.loop-queue.queues c.loop-queue.queue-index c.queue-item.result _ _ _ c.pop.result inside so.queues c.pop.ensures.value so.scans c.push_reserved.ensures.items;
      queues = queues_more c.args.queues.now c.loop-queue.queues c.loop-queue.queue-index c.queue-item.result c.pop.new.queue inside so.queues c.pop.ensures.rest;
    }
