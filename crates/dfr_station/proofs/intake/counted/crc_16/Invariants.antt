use Rattle.std.proofs.Common.{◌≡◌, fold, take}
use Rattle.dfr_station.specs.Counted.{crc_byte}
use Rattle.dfr_station.proofs.intake.counted.crc_16.Given as goal

abbrev pub invariant-loop-byte : goal.invariant-loop-byte
invariant-loop-byte l = l.crc ≡ fold crc_byte 65_535 (take l.byte-index l.bytes)
