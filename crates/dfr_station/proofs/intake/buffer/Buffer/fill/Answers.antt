use Rattle.std.proofs.Common.{◌≡◌, ℕ, ◌-◌, ◌≤◌, List, ◌++◌, length, take, drop, Option, ap, ◌∙◌, arith, length-append, length-drop}
use Rattle.std.specs.Vec.{with_items}
use Rattle.std.proofs.lemmas.List.{length-take, length-take-le, with_items_is}
use Rattle.dfr_station.specs.Input.{Reads, count_of}
use Rattle.dfr_station.specs.declared.reading.Given.{Given}
use Rattle.dfr_station.specs.declared.reading.Given.TheVariants as given
use Rattle.dfr_station.proofs.Behind.{put_behind}
use Rattle.dfr_station.proofs.intake.buffer.Buffer.fill.Goals as goal

few_read : (before : Option (List ℕ)) (x : Given) (after : Option (List ℕ)) (room : List ℕ) → Reads before x after (take (count_of x) room) → count_of x ≤ length room
few_read before (given.Bytes n) after room reads = omega (arith, reads.1, length-take n room)
few_read before given.End after room reads = omega arith
few_read before given.Broken after room reads = omega arith

pub returns : goal.returns
returns g c =
    let v = c.self.inside.bytes in
    let m = c.move_up-self-inside.result in
    let n = count_of c.read_some-given.result in
    let moved = c.move_up-self-inside.new.bytes in
    let now = c.deref_mut-2.result.now in
    let room = c.read_some-given.new.room in
    let same : now ≡ moved = c.deref_mut-2.ensures.value ∙ with_items_is v moved (omega arith) in
    let waits : take m now ≡ c.args.self.now = ap (take m) same ∙ (rw c.move_up-self-inside.ensures.count c.move_up-self-inside.ensures.moved) ∙ ap (λ b. take (c.self.inside.end - c.self.inside.from) (drop c.self.inside.from b)) c.deref_mut.ensures.value ∙ c.self.view_is in
    let few : n ≤ length room = few_read _ _ _ room c.read_some-given.ensures in
    let front : length (take m now) ≡ m = length-take-le m now (omega arith) in
    let written = with_items_is (with_items v moved) (take m now ++ (room ++ drop (length now - m) (drop m now))) (simp (length-append, length-drop) (omega arith)) in (
      take n room,
      rw (written, c.count.ensures) (put_behind m n (take m now) room _ front few ∙ ap (λ w. w ++ take n room) waits),
      c.read_some-given.ensures,
    )
