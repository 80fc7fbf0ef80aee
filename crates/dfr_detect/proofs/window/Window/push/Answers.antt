use Rattle.std.proofs.Common.{◌≡◌, ◌∷◌, arith, rules, take, SFits, w64, Some, None}
use Rattle.std.specs.Prelude.{slice_get}
use Rattle.std.proofs.lemmas.Int.{to_z-of_z}
use Rattle.circular_buffer.specs.Buffer.{buffer}
use Rattle.dfr_detect.specs.Windows.{square}
use Rattle.dfr_detect.proofs.Leaving.{one_leaves}
use Rattle.dfr_detect.proofs.Summed.{squares_bounded, square_small, summed_none, summed_one}
use Rattle.dfr_detect.proofs.window.Window.push.Goals as goal

pub overflow_add-self : goal.overflow_add-self
overflow_add-self g c =
    let most = squares_bounded _ _ _ c.self.invariant in
    let more = square_small c.args.x c.requires in
    let x : SFits w64 c.args.x = c.ranges.x in
    let added = simp to_z-of_z at c.square.ensures in
    search (rules, most, more, added)

pub overflow_sub-self : goal.overflow_sub-self
overflow_sub-self g c =
    let x : SFits w64 c.args.x = c.ranges.x in
    let y : SFits w64 c.in-Some.oldest = search rules in
    let added = simp to_z-of_z at c.square.ensures in
    let left = simp to_z-of_z at c.square-in-Some.ensures in
    let was : slice_get (c.args.x ∷ c.self.inside.ring.items) c.self.inside.ring.capacity ≡ Some c.in-Some.oldest = search rules in
    let cut = one_leaves square c.args.x c.in-Some.oldest _ _ c.self.invariant.few was in
    omega (arith, added, left, cut, c.self.invariant.summed)

pub invariant_of-self : goal.invariant_of-self
invariant_of-self g c =
    let x : SFits w64 c.args.x = c.ranges.x in
    let y : SFits w64 c.in-Some.oldest = search rules in
    let added = simp to_z-of_z at c.square.ensures in
    let left = simp to_z-of_z at c.square-in-Some.ensures in
    let was : slice_get (c.args.x ∷ c.self.inside.ring.items) c.self.inside.ring.capacity ≡ Some c.in-Some.oldest = search rules in
    let took : c.push_front-leaving.new.self ≡ buffer (take c.self.inside.ring.capacity (c.args.x ∷ c.self.inside.ring.items)) c.self.inside.ring.capacity = search rules in
    summed_one c.args.x c.in-Some.oldest _ _ _ _ _ _ c.self.invariant c.requires was took added left

pub invariant_of-self-in_default : goal.invariant_of-self-in_default
invariant_of-self-in_default g c =
    let x : SFits w64 c.args.x = c.ranges.x in
    let added = simp to_z-of_z at c.square.ensures in
    let was : slice_get (c.args.x ∷ c.self.inside.ring.items) c.self.inside.ring.capacity ≡ None = search rules in
    let took : c.push_front-leaving.new.self ≡ buffer (take c.self.inside.ring.capacity (c.args.x ∷ c.self.inside.ring.items)) c.self.inside.ring.capacity = search rules in
    summed_none c.args.x _ _ _ _ _ c.self.invariant c.requires was took added
