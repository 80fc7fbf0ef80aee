use Rattle.std.proofs.Common.{take}
use Rattle.examples.specs.Samples.{samples, Spans}
use Rattle.examples.proofs.peaks.span.span_of.Given as goal

abbrev pub invariant-loop-row : goal.invariant-loop-row
invariant-loop-row l = Spans (samples l.channel (take l.row-index l.rows)) l.span
