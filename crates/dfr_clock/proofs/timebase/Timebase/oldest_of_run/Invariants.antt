use Rattle.std.proofs.Common.{◌≡◌, drop}
use Rattle.dfr_clock.specs.Courses.{IsCourse}
use Rattle.dfr_clock.specs.Dating.{oldest_of_run}
use Rattle.dfr_clock.proofs.timebase.Timebase.oldest_of_run.Given as goal

abbrev pub invariant-loop-i : goal.invariant-loop-i
invariant-loop-i g l = record {
  rest : oldest_of_run l.found (drop l.i l.self.past) ≡ oldest_of_run l.self.follower.course l.self.past;
  sound : IsCourse l.self.settings.window l.found;
}
