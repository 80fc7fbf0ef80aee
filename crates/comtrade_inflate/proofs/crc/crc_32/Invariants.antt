use Rattle.std.proofs.Common.{◌≡◌, fold, take}
use Rattle.comtrade_inflate.specs.Crc.{crc_byte}
use Rattle.comtrade_inflate.proofs.crc.crc_32.Given as goal

abbrev pub invariant-loop-byte : goal.invariant-loop-byte
invariant-loop-byte l = l.crc ≡ fold crc_byte 4294967295 (take l.byte-index l.bytes)
