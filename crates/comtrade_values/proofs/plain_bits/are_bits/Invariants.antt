use Rattle.std.proofs.Common.{◌≡◌, ◌⊎◌, ◌+◌, ◌*◌, ◌<◌, ℕ, true, slice_index}
use Rattle.comtrade_values.proofs.plain_bits.are_bits.Given as goal

abbrev pub invariant-loop-i : goal.invariant-loop-i
invariant-loop-i l = record {
  digits : l.all ≡ true → (k : ℕ) → k < l.i → (slice_index l.text (2 * k) ≡ 48) ⊎ (slice_index l.text (2 * k) ≡ 49);
  commas : l.all ≡ true → (k : ℕ) → k < l.i → slice_index l.text (2 * k + 1) ≡ 44;
}
