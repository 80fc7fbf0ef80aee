use Rattle.dfr_pcap.proofs.Walks.{goes_none, goes_by, leaves_fewer}
use Rattle.dfr_pcap.proofs.blocks.Blocks.go_on.Goals as goal

pub loop-at-init : goal.loop-at-init
loop-at-init g c = goes_none _ _

pub loop-at-preserved : goal.loop-at-preserved
loop-at-preserved g c =
    goes_by c.args.self.now c.loop-at.self c.take.new.self c.args.out.now.items c.loop-at.out.items c.take.new.out.items c.in-Pass.found
    c.loop-at.invariant c.in-Pass.ensures.value c.in-Ok.ensures.passed c.in-Ok.ensures.given

pub loop-at-smaller : goal.loop-at-smaller
loop-at-smaller g c =
    leaves_fewer c.loop-at.self c.take.new.self c.in-Pass.found c.in-Ok.ensures.passed c.in-Pass.ensures.sound.0 c.in-Pass.ensures.inside
