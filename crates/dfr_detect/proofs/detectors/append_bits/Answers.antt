use Rattle.std.proofs.Common.{arith}
use Rattle.std.proofs.lemmas.List.{length-set}
use Rattle.dfr_detect.proofs.Each.{stepped_none, stepped_more, stepped_all}
use Rattle.dfr_detect.proofs.detectors.append_bits.Goals as goal

pub loop-detector-init : goal.loop-detector-init
loop-detector-init g c = record { room = omega arith; done = stepped_none c.args.list.now c.args.readings.now c.args.bits.now.items }

pub unreachable-requires : goal.unreachable-requires
unreachable-requires g c =
    let full = c.in_default.ensures.full in
    omega (arith, full, c.loop-detector.invariant.room, c.loop-detector-test.true)

pub loop-detector-preserved : goal.loop-detector-preserved
loop-detector-preserved g c =
    let same = length-set c.loop-detector.list c.loop-detector.detector-index c.step-bit.new.self in
    record {
      room = omega (arith, same, c.in-Ok.ensures.len, c.in-Ok.ensures.capacity, c.loop-detector.invariant.room, c.loop-detector-test.true);
      done = stepped_more c.args.list.now c.args.readings.now c.args.bits.now.items c.loop-detector.bits.items c.loop-detector.list c.loop-detector.detector-index c.detector-item.result c.step-bit.result c.step-bit.new.self c.push.new.self.items c.loop-detector.invariant.done (omega arith) c.step-bit.ensures c.in-Ok.ensures.items;
    }

pub returns : goal.returns
returns g c = stepped_all c.args.list.now c.args.readings.now c.args.bits.now.items c.loop-detector.bits.items c.loop-detector.list c.loop-detector.detector-index c.loop-detector.invariant.done (omega arith)
