use Rattle.std.proofs.Common.{◌≡◌, ◌*◌, ◌∷◌, take}
use Rattle.std.specs.List.{flat_map}
use Rattle.comtrade_format.specs.Lines.{bit_text}
use Rattle.comtrade_format.proofs.rows_ascii.write_bits.Given as goal

abbrev pub invariant-loop-i : goal.invariant-loop-i
invariant-loop-i l = take (2 * l.i) l.slot ≡ flat_map (λ b. 44 ∷ bit_text b) (take l.i l.bits)
