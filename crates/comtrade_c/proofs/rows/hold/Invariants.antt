use Rattle.std.proofs.Common.{◌≡◌, ◌+◌, length, take}
use Rattle.comtrade_c.specs.Tables.{samples_of, bits_of}
use Rattle.comtrade_c.proofs.rows.hold.Given as goal

abbrev pub invariant-loop-row : goal.invariant-loop-row
invariant-loop-row l = record {
  samples : l.more_samples + length (samples_of (take l.row-index l.rows)) ≡ l.samples;
  bits : l.more_bits + length (bits_of (take l.row-index l.rows)) ≡ l.bits;
}
