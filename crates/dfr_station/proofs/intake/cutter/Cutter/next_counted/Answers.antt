use Rattle.std.proofs.Common.{◌≡◌, ◌≤◌, ◌<◌, ◌+◌, length, arith, ap}
use Rattle.dfr_station.specs.Input.{frame_size}
use Rattle.dfr_station.proofs.Counting.{cuts_on, waits_for_frame, hears_noise, hears_more_noise}
use Rattle.dfr_station.proofs.intake.cutter.Cutter.next_counted.Goals as goal

pub returns-in-Some : goal.returns-in-Some
returns-in-Some g c = λ last. cuts_on last c.args.self.now c.loop-lowest.self c.take_counted.new.self _ (c.loop-lowest.invariant.3 last) (c.take_counted.ensures last)

pub returns-then-not-self : goal.returns-then-not-self
returns-then-not-self g c =
    let d = c.loop-lowest.self in
    let i = c.loop-lowest.invariant in
    let whole : 5 + frame_size d.layout.now ≤ length d.buffer = rw (c.waiting.ensures.bytes, i.1) at c.loop-lowest-test.true in
    let none = rw (c.waiting-in-loop-lowest.ensures.bytes, i.1) at c.in_default.ensures in
    λ last. rw c.use_up.ensures (cuts_on last c.args.self.now d _ _ (i.3 last) (hears_noise c.args.lowest last d i.0 whole none c.if-not-self.true))

pub loop-lowest-preserved : goal.loop-lowest-preserved
loop-lowest-preserved g c =
    let d = c.loop-lowest.self in
    let i = c.loop-lowest.invariant in
    let whole : 5 + frame_size d.layout.now ≤ length d.buffer = rw (c.waiting.ensures.bytes, i.1) at c.loop-lowest-test.true in
    let none = rw (c.waiting-in-loop-lowest.ensures.bytes, i.1) at c.in_default.ensures in (
      i.0,
      i.1,
      i.2,
      λ last. rw c.use_up.ensures (cuts_on last c.args.self.now d _ _ (i.3 last) (hears_more_noise c.args.lowest last d i.0 whole none c.if-not-self.false)),
    )

pub returns : goal.returns
returns g c =
    let d = c.loop-lowest.self in
    let i = c.loop-lowest.invariant in
    let few : length d.buffer < 5 + frame_size d.layout.now = rw (c.waiting.ensures.bytes, i.1) at c.loop-lowest-test.false in
    let size : frame_size d.layout.now ≤ 1_024 = rw i.1 at i.2 in
    λ last. waits_for_frame c.args.lowest last c.args.self.now d (i.3 last) i.0 few (omega (arith, size))
