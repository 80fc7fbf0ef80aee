use Rattle.std.proofs.Common.{rules, ◌≡◌, ◌+◌, ◌≤◌, [], None, List, sym, subst, arith, deque_capacity}
use Rattle.dfr_channels.specs.Parts.{ScanParts}
use Rattle.dfr_recorder.specs.Parts.{RecordParts}
use Rattle.dfr_recorder.specs.Kept.{kept_by}
use Rattle.dfr_recorder.specs.Sound.{IsSoundBody}
use Rattle.dfr_recorder.proofs.Lawful.{none_opened, sound_new}
use Rattle.dfr_recorder.proofs.recorder.Recorder.new.Goals as goal

pub invariant_of-result : goal.invariant_of-result
invariant_of-result g c =
    let ring : c.in-Ok.ring.items ≡ [] = search rules in
    let places : c.in-Ok.ring.capacity ≡ c.args.limits.pre + 1 = search rules in
    let shelf : c.in-Ok-with_capacity.shelf.items ≡ [] = search rules in
    let room : c.args.limits.shelf ≤ deque_capacity c.in-Ok-with_capacity.shelf = search rules in
    let P : List ScanParts → Type 0 = λ l. IsSoundBody (kept_by c.args.layout c.args.limits c.args.rules 0 l none_opened None c.in-Ok-with_capacity.shelf.items) c.in-Ok.ring.capacity (deque_capacity c.in-Ok-with_capacity.shelf) in
    let Q : List RecordParts → Type 0 = λ l. IsSoundBody (kept_by c.args.layout c.args.limits c.args.rules 0 [] none_opened None l) c.in-Ok.ring.capacity (deque_capacity c.in-Ok-with_capacity.shelf) in
    subst P (sym ring) (subst Q (sym shelf) (record {
      sound = sound_new c.args.layout c.args.limits c.args.rules c.requires.limits;
      fit = c.requires.rules;
      early = omega arith;
      ring = places;
      shelf = room;
    }))
