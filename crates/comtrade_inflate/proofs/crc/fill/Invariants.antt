use Rattle.std.proofs.Common.{◌≡◌, ◌<◌, ℕ, length, slice_index}
use Rattle.comtrade_inflate.specs.Crc.{crc_entry}
use Rattle.comtrade_inflate.proofs.crc.fill.Given as goal

abbrev pub invariant-loop-n : goal.invariant-loop-n
invariant-loop-n l = record {
  size : length l.table ≡ 256;
  entries : (k : ℕ) → k < l.n → slice_index l.table k ≡ crc_entry k;
}
