use Rattle.std.proofs.Common.{map}
use Rattle.dfr_detect.specs.Detection.{readings_of}
use Rattle.dfr_detect.proofs.Runs.{Ran}
use Rattle.dfr_detect.proofs.run.bits_of.Given as goal

abbrev pub invariant-loop-scan : goal.invariant-loop-scan
invariant-loop-scan g l = Ran l.fn.detector (map readings_of l.scans) l.bits.items l.detector l.scan-index
