use Rattle.std.proofs.Common.{rules, ◌≡◌, ◌+◌, subst, arith}
use Rattle.dfr_recorder.specs.Kept.{Kept, held}
use Rattle.dfr_recorder.specs.Sound.{IsSound}
use Rattle.dfr_recorder.proofs.Held.{held_bound, held_low}
use Rattle.dfr_recorder.proofs.recorder.Recorder.held.Goals as goal

pub scans_in-requires : goal.scans_in-requires
scans_in-requires g c = omega (arith, held_low _ c.self.invariant.sound)

pub overflow_add-result-2 : goal.overflow_add-result-2
overflow_add-result-2 g c = omega (arith, held_low _ c.self.invariant.sound, c.len.ensures.len, c.scans_so_far.ensures, c.scans_in.ensures)

pub returns-clause-bound : goal.returns-clause-bound
returns-clause-bound g c =
    let sum : c.len.result + c.scans_so_far.result + c.scans_in.result ≡ held c.args.self.now = search rules in
    omega (arith, sum, held_bound c.args.self.now (subst (λ (k : Kept). IsSound k) c.self.view_is c.self.invariant.sound))
