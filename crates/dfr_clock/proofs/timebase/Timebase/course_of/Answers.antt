use Rattle.std.proofs.Common.{◌≡◌, ◌∙◌, sym, ◌<◌, length, drop, Some, None, rules}
use Rattle.std.specs.Prelude.{slice_get}
use Rattle.dfr_clock.proofs.Lookups.{course_here, course_older, none_inside}
use Rattle.dfr_clock.proofs.timebase.Timebase.course_of.Goals as goal

pub returns-then-found-place-clause-value : goal.returns-then-found-place-clause-value
returns-then-found-place-clause-value g c = sym (course_here c.loop-i.found (drop c.loop-i.i c.args.self.now.past) c.args.place c.if-found-place.true) ∙ c.loop-i.invariant.rest

pub unreachable-requires : goal.unreachable-requires
unreachable-requires g c =
    let none : slice_get c.args.self.now.past c.loop-i.i ≡ None = search rules in
    let inside : c.loop-i.i < length c.args.self.now.past = search rules in
    none_inside c.args.self.now.past c.loop-i.i none inside

pub loop-i-preserved : goal.loop-i-preserved
loop-i-preserved g c =
    let some : slice_get c.args.self.now.past c.loop-i.i ≡ Some c.in-Some.older = search rules in
    record {
      rest = course_older c.loop-i.found c.in-Some.older c.args.self.now.past c.loop-i.i c.args.place c.if-found-place.false some ∙ c.loop-i.invariant.rest;
      sound = search rules;
    }
