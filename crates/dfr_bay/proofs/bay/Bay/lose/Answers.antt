use Rattle.std.proofs.Common.{◌∙◌, length, arith}
use Rattle.std.proofs.Math.Nat.{add-mul}
use Rattle.dfr_bay.proofs.Boards.{lost_more, given_more}
use Rattle.dfr_bay.proofs.bay.Bay.lose.Goals as goal

pub loop-i-preserved : goal.loop-i-preserved
loop-i-preserved g c =
    let so = c.loop-i.invariant in
    let more = add-mul c.loop-i.i 1 (length c.args.self.now.queues) in
    record {
      kept = lost_more c.args.stream c.loop-i.i c.args.self.now c.loop-i.self c.place.new.self so.kept c.place.ensures.kept;
      scans = given_more c.args.stream c.loop-i.i c.args.self.now c.loop-i.self _ _ _ so.kept so.scans c.place.ensures.scans;
      streams = c.place.ensures.streams ∙ so.streams;
      len = omega (arith, more, so.len, so.streams, c.place.ensures.len);
      room = c.place.ensures.room ∙ so.room;
    }
