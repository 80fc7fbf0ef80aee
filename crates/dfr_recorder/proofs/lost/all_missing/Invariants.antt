use Rattle.std.proofs.Common.{◌≡◌, replicate}
use Rattle.dfr_channels.specs.declared.scan.Reading.TheVariants as reading
use Rattle.dfr_recorder.proofs.lost.all_missing.Given as goal

abbrev pub invariant-loop : goal.invariant-loop
invariant-loop g l = l.readings.items ≡ replicate l.counter reading.Missing
