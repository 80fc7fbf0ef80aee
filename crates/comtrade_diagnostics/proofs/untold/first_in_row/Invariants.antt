use Rattle.std.proofs.Common.{◌≡◌, ℕ, ◌<◌}
use Rattle.std.specs.Prelude.{slice_get}
use Rattle.comtrade_diagnostics.specs.Told as spec
use Rattle.comtrade_diagnostics.proofs.untold.first_in_row.Given as goal

abbrev pub invariant-loop-channel : goal.invariant-loop-channel
invariant-loop-channel g l = (c : ℕ) → c < l.channel → spec.IsToldAt l.notes l.unfit l.row c (slice_get l.own c) (slice_get l.written c)
