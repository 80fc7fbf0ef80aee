use Rattle.std.proofs.Common.{◌≡◌, ◌<◌, length, rules, arith}
use Rattle.circular_buffer.specs.Buffer.{buffer}
use Rattle.dfr_detect.specs.Rings.{ring_items}
use Rattle.dfr_detect.proofs.Turning.{buffer_full, buffer_some}
use Rattle.dfr_detect.proofs.ring.Ring.push_front.Goals as goal

pub returns-then-self-capacity-clause-items : goal.returns-then-self-capacity-clause-items
returns-then-self-capacity-clause-items g c =
    let size : c.len-capacity.result ≡ length c.self.inside.places.items = search rules in
    let low : c.turn-at.result < c.len-capacity.result = search rules in
    let seen : c.args.self.now ≡ buffer (ring_items c.self.inside.places.items c.self.inside.next c.self.inside.len) (length c.self.inside.places.items) = search rules in
    let full : c.self.inside.len ≡ c.len-capacity.result = search rules in
    (buffer_full _ _ _ _ _ c.args.x _ _ c.self.invariant size low c.turn-at.ensures.value c.index-oldest.ensures full seen).0

pub returns-then-self-capacity-clause-value : goal.returns-then-self-capacity-clause-value
returns-then-self-capacity-clause-value g c =
    let size : c.len-capacity.result ≡ length c.self.inside.places.items = search rules in
    let low : c.turn-at.result < c.len-capacity.result = search rules in
    let seen : c.args.self.now ≡ buffer (ring_items c.self.inside.places.items c.self.inside.next c.self.inside.len) (length c.self.inside.places.items) = search rules in
    let full : c.self.inside.len ≡ c.len-capacity.result = search rules in
    (buffer_full _ _ _ _ _ c.args.x _ _ c.self.invariant size low c.turn-at.ensures.value c.index-oldest.ensures full seen).1

pub returns-clause-items : goal.returns-clause-items
returns-clause-items g c =
    let size : c.len-capacity.result ≡ length c.self.inside.places.items = search rules in
    let low : c.turn-at.result < c.len-capacity.result = search rules in
    let seen : c.args.self.now ≡ buffer (ring_items c.self.inside.places.items c.self.inside.next c.self.inside.len) (length c.self.inside.places.items) = search rules in
    let some : c.self.inside.len < c.len-capacity.result = (let few = c.self.invariant.few in omega (arith, size)) in
    (buffer_some _ _ _ _ _ c.args.x _ _ c.self.invariant size low c.turn-at.ensures.value c.index-oldest.ensures some seen).0

pub returns-clause-value : goal.returns-clause-value
returns-clause-value g c =
    let size : c.len-capacity.result ≡ length c.self.inside.places.items = search rules in
    let low : c.turn-at.result < c.len-capacity.result = search rules in
    let seen : c.args.self.now ≡ buffer (ring_items c.self.inside.places.items c.self.inside.next c.self.inside.len) (length c.self.inside.places.items) = search rules in
    let some : c.self.inside.len < c.len-capacity.result = (let few = c.self.invariant.few in omega (arith, size)) in
    (buffer_some _ _ _ _ _ c.args.x _ _ c.self.invariant size low c.turn-at.ensures.value c.index-oldest.ensures some seen).1
