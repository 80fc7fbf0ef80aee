-- What a writer's answer says of a file.
use Rattle.std.proofs.Common.{◌≡◌, ◌≢◌, Option, Some, refl}
use Rattle.comtrade_format.specs.declared.fault.WriteFault.{WriteFault}
use Rattle.comtrade_format.specs.declared.fault.WriteFault.TheVariants.{Shape, Text, Value, Stamp, Memory}
use Rattle.comtrade_format.specs.Refusals.{Fails}

pub refused : (why : WriteFault) (refusal : Option WriteFault) → Fails why refusal → why ≢ Memory → refusal ≡ Some why
refused Memory refusal fails told = absurd (told refl)
refused Shape refusal fails told = fails
refused (Text line field) refusal fails told = fails
refused (Value row channel) refusal fails told = fails
refused (Stamp row) refusal fails told = fails
