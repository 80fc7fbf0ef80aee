use Rattle.std.proofs.Common.{◌≡◌, ◌∷◌, ◌+◌, ◌<◌, ◌^◌, arith, rules, Some, None}
use Rattle.std.specs.Prelude.{slice_get}
use Rattle.dfr_detect.proofs.Times.{times_bounded, time_left, times_none, times_one, left_small}
use Rattle.dfr_detect.proofs.spans.Spans.push.Goals as goal

pub overflow_add-self : goal.overflow_add-self
overflow_add-self g c =
    let most = times_bounded _ _ _ c.self.invariant in
    let fits : c.self.inside.total + c.args.time < 2 ^ 64 = omega (arith, most, c.requires) in
    search (rules, fits)

pub overflow_sub-self : goal.overflow_sub-self
overflow_sub-self g c =
    let was : slice_get (c.args.time ∷ c.self.inside.ring.items) c.self.inside.ring.capacity ≡ Some c.in-Some.oldest = search rules in
    time_left c.args.time c.in-Some.oldest c.self.inside.ring.items c.self.inside.ring.capacity c.self.inside.total c.self.invariant c.requires was

pub invariant_of-self : goal.invariant_of-self
invariant_of-self g c =
    let was : slice_get (c.args.time ∷ c.self.inside.ring.items) c.self.inside.ring.capacity ≡ Some c.in-Some.oldest = search rules in
    times_one c.args.time c.in-Some.oldest c.self.inside.ring.items c.push_front-leaving.new.self c.self.inside.ring.capacity c.self.inside.total c.self.invariant c.requires was c.push_front-leaving.ensures.items

pub invariant_of-self-in_default : goal.invariant_of-self-in_default
invariant_of-self-in_default g c =
    let was : slice_get (c.args.time ∷ c.self.inside.ring.items) c.self.inside.ring.capacity ≡ None = search rules in
    times_none c.args.time c.self.inside.ring.items c.push_front-leaving.new.self c.self.inside.ring.capacity c.self.inside.total c.self.invariant c.requires was c.push_front-leaving.ensures.items

pub returns-in-Some-clause-bound : goal.returns-in-Some-clause-bound
returns-in-Some-clause-bound g c =
    let was : slice_get (c.args.time ∷ c.self.inside.ring.items) c.self.inside.ring.capacity ≡ Some c.in-Some.oldest = search rules in
    left_small c.args.time c.in-Some.oldest c.self.inside.ring.items c.self.inside.ring.capacity c.self.inside.total c.self.invariant c.requires was
