use Rattle.std.proofs.Common.{◌≡◌, ◌*◌, take}
use Rattle.std.specs.List.{flat_map}
use Rattle.byteorder.specs.Endian.{little_bytes}
use Rattle.comtrade_format.specs.Binary.{reading_number}
use Rattle.comtrade_format.proofs.rows_binary.write_readings.Given as goal

abbrev pub invariant-loop-i : goal.invariant-loop-i
invariant-loop-i l = take (2 * l.i) l.slot ≡ flat_map (λ v. little_bytes 2 (reading_number v)) (take l.i l.readings)
