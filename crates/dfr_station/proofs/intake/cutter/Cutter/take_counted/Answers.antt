use Rattle.std.proofs.Common.{◌≡◌, ◌-◌, ◌+◌, arith}
use Rattle.dfr_station.proofs.Counting.{loses_missing, takes_frame, none_missed}
use Rattle.dfr_station.proofs.intake.cutter.Cutter.take_counted.Goals as goal

pub returns-in-Some : goal.returns-in-Some
returns-in-Some g c =
    let size = c.requires.size in
    λ last. loses_missing c.args.lowest last c.args.self.now c.requires.form (rw size at c.requires.whole) c.in-Some.due c.next_counter.result _ c.args.counter
    c.in-Some.ensures.0 (rw size at c.requires.counted.0) c.requires.counted.1 c.next_counter.type_inv c.ranges.counter.fits c.in-Some.ensures.1 c.next_counter.ensures

pub returns : goal.returns
returns g c =
    let size = c.requires.size in
    let few : 5 + c.args.size - 5 ≡ c.args.size = omega arith in
    let means = rw (c.waiting.ensures.bytes, few, size) at c.arrival_of_frame-arrival.ensures in
    λ last. rw (c.use_up.ensures, size) (takes_frame c.args.lowest last c.args.self.now c.requires.form (rw size at c.requires.whole) c.next_counter-2.result _ c.args.counter _
    (rw size at c.requires.counted.0) c.requires.counted.1 (none_missed c.args.self.now.due c.args.counter c.in_default.ensures) c.next_counter-2.ensures means)
