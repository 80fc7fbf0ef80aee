use Rattle.std.proofs.Common.{◌≡◌, ◌∙◌, sym, ap, subst, ◌∷◌, ◌<◌, List, take, get_or, rules}
use Rattle.std.specs.Prelude.{slice_get}
use Rattle.circular_buffer.specs.Buffer.{buffer}
use Rattle.dfr_detect.specs.Phasors.{after, gone, less, moved, other_moved, IsChange}
use Rattle.dfr_detect.specs.Sums.{AreSmall}
use Rattle.dfr_detect.specs.declared.sample.Sample.{Sample}
use Rattle.dfr_detect.specs.declared.turns.Pair.{Pair}
use Rattle.dfr_detect.proofs.Weighing.{less_small}
use Rattle.dfr_detect.proofs.Phased.{real_bounded, imaginary_bounded, other_real, other_imaginary, gone_small, found, found_small, waves_more}
use Rattle.dfr_detect.proofs.waves.Waves.push.Goals as goal

pub moved-self-inside-requires-clause-real : goal.moved-self-inside-requires-clause-real
moved-self-inside-requires-clause-real g c = real_bounded _ _ _ _ _ c.self.invariant.one c.self.invariant.small c.self.invariant.few c.self.invariant.bounded

pub moved-self-inside-requires-clause-imaginary : goal.moved-self-inside-requires-clause-imaginary
moved-self-inside-requires-clause-imaginary g c = imaginary_bounded _ _ _ _ _ c.self.invariant.one c.self.invariant.small c.self.invariant.few c.self.invariant.bounded

pub other_moved-self-inside-requires-clause-real : goal.other_moved-self-inside-requires-clause-real
other_moved-self-inside-requires-clause-real g c = other_real _ _ _ _ _ _ c.self.invariant.two c.self.invariant.small c.self.invariant.few c.self.invariant.bounded

pub other_moved-self-inside-requires-clause-imaginary : goal.other_moved-self-inside-requires-clause-imaginary
other_moved-self-inside-requires-clause-imaginary g c = other_imaginary _ _ _ _ _ _ c.self.invariant.two c.self.invariant.small c.self.invariant.few c.self.invariant.bounded

pub moved-self-inside-requires-clause-weights : goal.moved-self-inside-requires-clause-weights
moved-self-inside-requires-clause-weights g c =
    let n = c.self.inside.ring.capacity in
    let k = c.after-self-inside.result in
    let low : k < n = search rules in
    let same : c.items.result.now ≡ c.self.inside.table = search rules in
    let read : c.pair_at-pair.result ≡ get_or c.self.inside.table k c.pair_at-pair.result = c.pair_at-pair.ensures ∙ ap (λ (us : List Pair). get_or us k c.pair_at-pair.result) same in
    let is = found n k c.self.inside.first c.self.inside.other c.self.inside.table c.pair_at-pair.result c.self.invariant.weights low read in
    (found_small n k c.self.inside.first c.self.inside.other c.pair_at-pair.result is).0

pub other_moved-self-inside-requires-clause-weights : goal.other_moved-self-inside-requires-clause-weights
other_moved-self-inside-requires-clause-weights g c =
    let n = c.self.inside.ring.capacity in
    let k = c.after-self-inside.result in
    let low : k < n = search rules in
    let same : c.items.result.now ≡ c.self.inside.table = search rules in
    let read : c.pair_at-pair.result ≡ get_or c.self.inside.table k c.pair_at-pair.result = c.pair_at-pair.ensures ∙ ap (λ (us : List Pair). get_or us k c.pair_at-pair.result) same in
    let is = found n k c.self.inside.first c.self.inside.other c.self.inside.table c.pair_at-pair.result c.self.invariant.weights low read in
    (found_small n k c.self.inside.first c.self.inside.other c.pair_at-pair.result is).1

pub moved-self-inside-requires-clause-change : goal.moved-self-inside-requires-clause-change
moved-self-inside-requires-clause-change g c =
    let n = c.self.inside.ring.capacity in
    let left : slice_get (c.args.x ∷ c.self.inside.ring.items) n ≡ c.push_front-oldest.result = search rules in
    let small = gone_small n c.args.x c.self.inside.ring.items c.push_front-oldest.result c.requires c.self.invariant.small left in
    let gone_is : AreSmall c.gone.result = subst AreSmall (sym c.gone.ensures) small in
    subst IsChange (sym c.less-change.ensures) (less_small c.args.x c.gone.result c.requires gone_is)

pub other_moved-self-inside-requires-clause-change : goal.other_moved-self-inside-requires-clause-change
other_moved-self-inside-requires-clause-change g c =
    let n = c.self.inside.ring.capacity in
    let left : slice_get (c.args.x ∷ c.self.inside.ring.items) n ≡ c.push_front-oldest.result = search rules in
    let small = gone_small n c.args.x c.self.inside.ring.items c.push_front-oldest.result c.requires c.self.invariant.small left in
    let gone_is : AreSmall c.gone.result = subst AreSmall (sym c.gone.ensures) small in
    subst IsChange (sym c.less-change.ensures) (less_small c.args.x c.gone.result c.requires gone_is)

pub invariant_of-self : goal.invariant_of-self
invariant_of-self g c =
    let n = c.self.inside.ring.capacity in
    let k = c.after-self-inside.result in
    let xs = c.self.inside.ring.items in
    let pair = c.pair_at-pair.result in
    let left : slice_get (c.args.x ∷ xs) n ≡ c.push_front-oldest.result = search rules in
    let at : k ≡ after n c.self.inside.number = search rules in
    let low : k < n = search rules in
    let same : c.items.result.now ≡ c.self.inside.table = search rules in
    let read : pair ≡ get_or c.self.inside.table k pair = c.pair_at-pair.ensures ∙ ap (λ (us : List Pair). get_or us k pair) same in
    let is = found n k c.self.inside.first c.self.inside.other c.self.inside.table pair c.self.invariant.weights low read in
    let took : c.push_front-oldest.new.self ≡ buffer (take n (c.args.x ∷ xs)) n = search rules in
    let change : c.less-change.result ≡ less c.args.x (gone c.push_front-oldest.result) = c.less-change.ensures ∙ ap (λ (y : Sample). less c.args.x y) c.gone.ensures in
    waves_more n c.self.inside.first c.self.inside.other c.self.inside.number k c.args.x xs c.self.inside.table c.self.inside.one c.moved-self-inside.result c.self.inside.two c.other_moved-self-inside.result
    c.push_front-oldest.result pair c.push_front-oldest.new.self c.self.invariant c.requires left at is took
    (c.moved-self-inside.ensures ∙ ap (λ (y : Sample). moved c.self.inside.one pair.first y) change)
    (c.other_moved-self-inside.ensures ∙ ap (λ (y : Sample). other_moved c.self.inside.two pair.other y) change)

pub less-change-requires-clause-gone : goal.less-change-requires-clause-gone
less-change-requires-clause-gone g c =
    let left : slice_get (c.args.x ∷ c.self.inside.ring.items) c.self.inside.ring.capacity ≡ c.push_front-oldest.result = search rules in
    let small = gone_small c.self.inside.ring.capacity c.args.x c.self.inside.ring.items c.push_front-oldest.result c.requires c.self.invariant.small left in
    subst AreSmall (sym c.gone.ensures) small
