use Rattle.std.proofs.Common.{◌≡◌, ◌+◌, ◌*◌, ◌/◌, ℕ, List, None, length, refl, sym, arith}
use Rattle.comtrade_values.specs.PlainBits.{AreBits}
use Rattle.dfr_script.proofs.FirstByte.{first_is_position}
use Rattle.dfr_script.proofs.PlainBits.{no_slash}
use Rattle.dfr_script.proofs.plain_bits.plain_bits.Goals as goal

pub returns-clause-slash : goal.returns-clause-slash
returns-clause-slash g c =
    let text : List ℕ = c.args.text.now in
    let n : ℕ = length text / 2 + 1 in
    let exact : length text + 1 ≡ 2 * n = omega (arith, c.if-text-eq0.false) in
    let are : AreBits text n = c.if-not-are_bits.ensures refl in
    sym (first_is_position 47 text None (λ k _ inside slash. no_slash text n are exact k inside slash))
