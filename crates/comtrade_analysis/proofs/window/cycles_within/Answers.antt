use Rattle.std.proofs.Common.{ℕ, ◌≤◌, ◌↔◌, sym, subst, arith}
use Rattle.comtrade_analysis.specs.Windows.{rows_in}
use Rattle.comtrade_analysis.proofs.WholeCycles.{most_fits, most_cycles}
use Rattle.comtrade_analysis.proofs.window.cycles_within.Goals as goal

pub overflow_cast-result : goal.overflow_cast-result
overflow_cast-result c =
    let cycle = c.args.cycle in
    let le = most_fits cycle.cycles cycle.rows c.args.rows c.requires.some c.requires.long in
    omega (arith, c.cycles_in.ensures c.requires.some (omega arith), le)

pub returns : goal.returns
returns c = λ n.
    let cycle = c.args.cycle in
    subst (λ (most : ℕ). (rows_in cycle n ≤ c.args.rows) ↔ (n ≤ most)) (sym (c.cycles_in.ensures c.requires.some (omega arith)))
    (most_cycles cycle.cycles cycle.rows c.args.rows c.requires.some c.requires.long n)
