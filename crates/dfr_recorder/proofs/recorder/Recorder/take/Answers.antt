use Rattle.std.proofs.Common.{rules, arith, ◌≡◌, deque_capacity}
use Rattle.dfr_recorder.proofs.Body.{take_body}
use Rattle.dfr_recorder.proofs.Told.{is_step}
use Rattle.dfr_recorder.proofs.Lawful.{sound_made}
use Rattle.dfr_recorder.proofs.recorder.Recorder.take.Goals as goal

pub returns-clause-step : goal.returns-clause-step
returns-clause-step g c = is_step _ _ _ _ (take_body _ _ _ _ c.self.view_is c.pop_front.ensures.items c.pop_front.ensures.rest)

pub invariant_of-self : goal.invariant_of-self
invariant_of-self g c =
    let room : deque_capacity c.pop_front.new.self ≡ deque_capacity c.self.inside.shelf = search rules in
    record {
      sound = sound_made _ _ _ _ _ c.self.view_is (take_body _ _ _ _ c.self.view_is c.pop_front.ensures.items c.pop_front.ensures.rest) c.self.invariant.sound;
      fit = c.self.invariant.fit;
      early = c.self.invariant.early;
      ring = c.self.invariant.ring;
      shelf = omega (arith, room, c.self.invariant.shelf);
    }
