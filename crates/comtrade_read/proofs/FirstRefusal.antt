-- A refusal that isn't for memory is the first one.
use Rattle.std.proofs.Common.{◌≡◌, ◌≢◌, Option, Some, refl}
use Rattle.comtrade_format.specs.declared.fault.WriteFault.{WriteFault}
use Rattle.comtrade_format.specs.declared.fault.WriteFault.TheVariants as faults
use Rattle.comtrade_format.specs.Refusals.{Fails}

pub is_first : (e : WriteFault) (refusal : Option WriteFault) → e ≢ faults.Memory → Fails e refusal → refusal ≡ Some e
is_first faults.Memory refusal other h = absurd (other refl)
is_first faults.Shape refusal other h = h
is_first (faults.Text line field) refusal other h = h
is_first (faults.Value row channel) refusal other h = h
is_first (faults.Stamp row) refusal other h = h
