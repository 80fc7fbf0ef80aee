use Rattle.std.proofs.Common.{Result, subst}
use Rattle.comtrade_analysis.specs.declared.mean_square.MeanFault.{MeanFault}
use Rattle.comtrade_analysis.specs.declared.mean_square.MeanSquare.{MeanSquare}
use Rattle.comtrade_c.specs.Measures.{MeanIs}
use Rattle.comtrade_c.proofs.measure.rms_of.Goals as goal

pub returns-in_ok-rms-in-Ok : goal.returns-in_ok-rms-in-Ok
returns-in_ok-rms-in-Ok c = record {
  mean = c.in-Ok.mean;
  of_values = subst (λ (r : Result MeanSquare MeanFault). MeanIs c.args.channel.now c.args.samples.now r) c.in-Ok.is c.in_ok-mean.ensures;
  rms = c.in_ok-rms-in-Ok.ensures;
}
