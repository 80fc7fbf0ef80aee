use Rattle.std.proofs.Common.{◌+◌, arith}
use Rattle.comtrade_format.specs.Lines.{line}
use Rattle.comtrade_format.specs.Cfg.{status_fields}
use Rattle.comtrade_format.proofs.Numbered.{numbered-written}
use Rattle.comtrade_format.proofs.cfg.put_statuses.Goals as goal

pub loop-i-preserved : goal.loop-i-preserved
loop-i-preserved g c =
    numbered-written line status_fields 1 c.args.channels.now c.loop-i.i (c.loop-i.i + 1) c.index-channels-i.result c.loop-i.out.items _ _ (omega arith) c.loop-i-test.true c.index-channels-i.is c.in_ok-put_status.ensures c.loop-i.invariant
