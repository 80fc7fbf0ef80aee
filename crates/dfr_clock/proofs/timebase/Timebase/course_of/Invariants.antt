use Rattle.std.proofs.Common.{◌≡◌, drop}
use Rattle.dfr_clock.specs.Courses.{course_at, IsCourse}
use Rattle.dfr_clock.proofs.timebase.Timebase.course_of.Given as goal

abbrev pub invariant-loop-i : goal.invariant-loop-i
invariant-loop-i g l = record {
  rest : course_at l.found (drop l.i l.self.past) l.place ≡ course_at l.self.follower.course l.self.past l.place;
  sound : IsCourse l.self.settings.window l.found;
}
