use Rattle.std.proofs.Common.{rules, ◌∙◌, pos, w32}
use Rattle.std.proofs.lemmas.Int.{to_z-of_z}
use Rattle.dfr_channels.specs.declared.scan.Reading.TheVariants.{Value}
use Rattle.comtrade_c.specs.Tables.{sample_of}
use Rattle.comtrade_c.proofs.Laid.{laid_more}
use Rattle.comtrade_c.proofs.rows.put_row.Goals as goal

pub loop-k-preserved : goal.loop-k-preserved
loop-k-preserved c =
    laid_more sample_of c.args.readings.now c.loop-k.to c.args.to.now c.loop-k.k (Value (pos 0)) _ (search rules) (search rules) c.loop-k.invariant
    (to_z-of_z w32 c.sample_of.result (search rules) ∙ c.sample_of.ensures)
