use Rattle.std.proofs.Common.{◌≡◌, ◌∙◌, ◌<◌, sym, ap, length, map, rules}
use Rattle.std.proofs.lemmas.List.{take_at}
use Rattle.dfr_bay.specs.Waiting.{entered, popped, is_ready}
use Rattle.dfr_bay.proofs.Bounds.{sound_ready, sound_waiting}
use Rattle.dfr_bay.proofs.bay.Bay.place.Goals as goal

pub invariant_of-self : goal.invariant_of-self
invariant_of-self g c =
    let inside : c.args.stream < length c.self.inside.queues.items = search rules in
    let made : length c.enter.new.queues ≡ c.self.inside.queues.len = search rules in
    let left : length c.pop_scan.new.queues ≡ c.self.inside.queues.len = search rules in
    let is =
    take_at c.pop_scan.new.queues _ c.self.inside.queues.len left
    ∙ c.pop_scan.ensures.queues
    ∙ ap (map popped)
    (c.deref_mut-then-is_ready.ensures.value
    ∙ take_at c.enter.new.queues _ c.self.inside.queues.len made
    ∙ c.enter.ensures
    ∙ ap (entered c.self.inside.settings.limit c.args.stream c.args.sample) c.deref_mut.ensures.value) in
    sound_ready c.self.inside.settings c.self.inside.due _ c.self.inside.queues.items _ _ c.args.stream c.args.sample c.self.invariant inside c.next_count-self-inside.ensures.below is

pub invariant_of-self-else-is_ready : goal.invariant_of-self-else-is_ready
invariant_of-self-else-is_ready g c =
    let inside : c.args.stream < length c.self.inside.queues.items = search rules in
    let made : length c.enter.new.queues ≡ c.self.inside.queues.len = search rules in
    let is =
    take_at c.enter.new.queues _ c.self.inside.queues.len made
    ∙ c.enter.ensures
    ∙ ap (entered c.self.inside.settings.limit c.args.stream c.args.sample) c.deref_mut.ensures.value in
    let waiting = ap (is_ready c.self.inside.settings.limit) (sym c.deref.ensures.value) ∙ sym c.is_ready.ensures ∙ c.if-is_ready.false in
    sound_waiting c.self.inside.settings c.self.inside.due c.self.inside.queues.items _ _ c.args.stream c.args.sample c.self.invariant inside is waiting
