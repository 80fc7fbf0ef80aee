use Rattle.std.proofs.Common.{arith}
use Rattle.std.proofs.Math.Nat.{div-le_self}
use Rattle.dfr_detect.proofs.cycle.cycle_scans.Goals as goal

pub nearest-scans-requires-clause-whole : goal.nearest-scans-requires-clause-whole
nearest-scans-requires-clause-whole c =
    let less = div-le_self c.scans_times-times.result c.unsigned_abs-of.result in
    omega (arith, less, c.scans_times-times.ensures.bound)
