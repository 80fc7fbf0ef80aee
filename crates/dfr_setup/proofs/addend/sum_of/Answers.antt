use Rattle.std.proofs.Common.{◌≡◌, ◌≤◌, Err, rules, ℕ, List, length, arith}
use Rattle.std.specs.Borrow.{Bor}
use Rattle.dfr_setup.proofs.Made.{word_refused, is_refused}
use Rattle.dfr_setup.proofs.addend.sum_of.Goals as goal

pub returns-in_err-add_word : goal.returns-in_err-add_word
returns-in_err-add_word g c =
    let was : c.from_residual-in_err-add_word.result ≡ Err c.in_err-add_word.field-0.0 = search rules in
    let some : 1 ≤ length c.loop-left.left.now = omega arith in
    is_refused _ _ _ _ was
    (word_refused (λ (b : Bor (List ℕ)). b.now) c.args.channels.now c.args.test c.loop-left.sum c.loop-left.left.now _ _ _ some c.loop-left.invariant c.in_err-add_word.ensures)
