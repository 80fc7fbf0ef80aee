use Rattle.std.proofs.Common.{◌≡◌, ℕ, ◌+◌, ◌-◌, ◌*◌, ◌%◌, ◌<◌, ◌≤◌, sym, ap, ◌∙◌, arith}
use Rattle.std.proofs.Math.Nat.{mod-eq_of_lt, add-mul-mod_self_right}
use Rattle.comtrade_analysis.proofs.turning.Turning.next.Goals as goal
use Rattle.comtrade_analysis.proofs.turning.Turning.next.Goals.{then-self-left, else-self-left}

-- within a turn, and past its end
within_turn : (at cycles rows : ℕ) → at + cycles < rows → (at + cycles) % rows ≡ at + cycles
within_turn at cycles rows h = mod-eq_of_lt h

past_turn : (at cycles rows : ℕ) → at < rows → cycles ≤ rows → rows - at ≤ cycles → (at + cycles) % rows ≡ cycles - (rows - at)
past_turn at cycles rows below long past =
    let rest = cycles - (rows - at) in
    let same : at + cycles ≡ rest + 1 * rows = omega arith in
    ap (λ (n : ℕ). n % rows) same ∙ add-mul-mod_self_right rest 1 rows ∙ mod-eq_of_lt (omega arith)

pub returns-clause-angle : goal.returns-clause-angle
returns-clause-angle c =
    let at = c.args.self.at in
    let cycles = c.args.self.cycle.cycles in
    let rows = c.args.self.cycle.rows in
    let below : at < rows = c.args.self.within in
    let long : cycles ≤ rows = c.args.self.slow in
    elim c.if-self-left.branch [
      | then-self-left w ↦ w.at-is ∙ sym (within_turn at cycles rows (omega arith))
      | else-self-left w ↦ w.at-is ∙ sym (past_turn at cycles rows below long (omega (arith, w.if-self-left.false)))
    ]
