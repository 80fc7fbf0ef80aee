-- Bits read by groups of sixteen are the bits read one by one.
use Rattle.std.proofs.Common.{◌≡◌, ℕ, List, ◌+◌, ◌-◌, ◌*◌, ◌/◌, ◌%◌, ◌≤◌, false, eqb, ◌++◌, length, drop, refl, ◌∙◌, arith, inl, inr, length-append}
use Rattle.std.specs.Int.{bit_at}
use Rattle.std.proofs.lemmas.Bool.{cases_lt}
use Rattle.std.proofs.lemmas.List.{get_or_append_left, get_or-append_right}
use Rattle.std.proofs.lemmas.List.FromFn.{fill_by_all, length-map-range_with_len, get_or-map-range_with_len}
use Rattle.byteorder.specs.Endian.{little_number}
use Rattle.comtrade_format.specs.Packed.{bit_of, bits_at, group_bits}

-- the bits before a group, and bits of the group after them
pub group_behind : (bytes : List ℕ) (g d : ℕ) → d ≤ 16 → bits_at (16 * g) bytes ++ group_bits d (little_number 2 (drop (2 * g) bytes)) ≡ bits_at (16 * g + d) bytes
group_behind bytes g d le =
    let before = bits_at (16 * g) bytes in
    let bit = λ (i : ℕ). eqb (bit_at (little_number 2 (drop (2 * g) bytes)) i) 1 in
    let group = group_bits d (little_number 2 (drop (2 * g) bytes)) in
    let long : length before ≡ 16 * g = length-map-range_with_len (bit_of bytes) 0 (16 * g) in
    fill_by_all (bit_of bytes) (before ++ group) (16 * g + d) false (omega (arith, length-append before group, long, length-map-range_with_len bit 0 d)) (λ k lt. elim (cases_lt k (16 * g)) [
      | inl early ↦ get_or_append_left before group false k (omega arith) ∙ get_or-map-range_with_len (bit_of bytes) 0 (16 * g) k k false early (omega arith)
      | inr late ↦
          let quotient : k / 16 ≡ g = omega arith in
          let rest : k % 16 ≡ k - 16 * g = omega arith in
          get_or-append_right before group (16 * g) k false long late ∙ get_or-map-range_with_len bit 0 d (k - 16 * g) (k - 16 * g) false (omega arith) (omega arith) ∙ rw (quotient, rest) refl
    ])
