use Rattle.std.proofs.Common.{◌≡◌, ◌∙◌, sym, ◌<◌, length, Some, None, rules}
use Rattle.std.specs.Prelude.{slice_get}
use Rattle.dfr_clock.proofs.Lookups.{run_here, run_older, none_inside}
use Rattle.dfr_clock.proofs.timebase.Timebase.oldest_of_run.Goals as goal

pub returns-then-older-found-clause-value : goal.returns-then-older-found-clause-value
returns-then-older-found-clause-value g c =
    let some : slice_get c.args.self.now.past c.loop-i.i ≡ Some c.in-Some.older = search rules in
    sym (run_here c.loop-i.found c.in-Some.older c.args.self.now.past c.loop-i.i c.if-older-found.true some) ∙ c.loop-i.invariant.rest

pub unreachable-requires : goal.unreachable-requires
unreachable-requires g c =
    let none : slice_get c.args.self.now.past c.loop-i.i ≡ None = search rules in
    let inside : c.loop-i.i < length c.args.self.now.past = search rules in
    none_inside c.args.self.now.past c.loop-i.i none inside

pub loop-i-preserved : goal.loop-i-preserved
loop-i-preserved g c =
    let some : slice_get c.args.self.now.past c.loop-i.i ≡ Some c.in-Some.older = search rules in
    record {
      rest = run_older c.loop-i.found c.in-Some.older c.args.self.now.past c.loop-i.i c.if-older-found.false some ∙ c.loop-i.invariant.rest;
      sound = search rules;
    }
