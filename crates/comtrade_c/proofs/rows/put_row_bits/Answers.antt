use Rattle.std.proofs.Common.{rules, false}
use Rattle.comtrade_c.specs.Tables.{bit_of}
use Rattle.comtrade_c.proofs.Laid.{laid_more}
use Rattle.comtrade_c.proofs.rows.put_row_bits.Goals as goal

pub loop-k-preserved : goal.loop-k-preserved
loop-k-preserved c =
    laid_more bit_of c.args.bits.now c.loop-k.to c.args.to.now c.loop-k.k false _ (search rules) (search rules) c.loop-k.invariant (search rules)
