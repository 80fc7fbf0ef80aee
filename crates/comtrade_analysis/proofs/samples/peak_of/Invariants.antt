use Rattle.comtrade_analysis.specs.Peaks.{IsPeakWithin}
use Rattle.comtrade_analysis.proofs.samples.peak_of.Given as goal

abbrev pub invariant-loop-index : goal.invariant-loop-index
invariant-loop-index l = IsPeakWithin l.scale l.samples l.index l.peak
