use Rattle.std.proofs.Common.{arith, rules}
use Rattle.dfr_detect.proofs.Runs.{ran_more, ran_all}
use Rattle.dfr_detect.proofs.run.bits_of.Goals as goal

pub loop-scan-preserved : goal.loop-scan-preserved
loop-scan-preserved g c =
    ran_more c.args.detector.now c.args.scans.now c.loop-scan.bits.items c.loop-scan.detector c.loop-scan.scan-index c.scan-item.result c.analog.result.now c.step-bit.result c.step-bit.new.self
    c.push.new.self.items c.loop-scan.invariant (omega arith) (search rules) c.step-bit.ensures c.in_ok-push.ensures.items

pub returns : goal.returns
returns g c = ran_all c.args.detector.now c.args.scans.now c.loop-scan.bits.items c.loop-scan.detector c.loop-scan.scan-index c.loop-scan.invariant (omega arith)
