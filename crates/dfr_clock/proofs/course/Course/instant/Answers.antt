use Rattle.std.proofs.Common.{arith, rules, ◌-◌}
use Rattle.dfr_clock.proofs.Lines.{gains}
use Rattle.dfr_clock.proofs.course.Course.instant.Goals as goal

pub returns-then-gone-window-clause-bound : goal.returns-then-gone-window-clause-bound
returns-then-gone-window-clause-bound c =
    let line = gains c.since-gone.result (c.args.self.now.to - c.args.self.now.from) c.from-window.result (search rules) (search rules) in
    omega (arith, line)
