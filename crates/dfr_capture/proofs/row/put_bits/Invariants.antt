use Rattle.std.proofs.Common.{◌≡◌, ◌++◌, map, take}
use Rattle.dfr_capture.specs.Rows.{bit_text}
use Rattle.dfr_capture.proofs.row.put_bits.Given as goal

abbrev pub invariant-loop-bit : goal.invariant-loop-bit
invariant-loop-bit g l = l.out.items ≡ l.fn.out.items ++ map bit_text (take l.bit-index l.bits)
