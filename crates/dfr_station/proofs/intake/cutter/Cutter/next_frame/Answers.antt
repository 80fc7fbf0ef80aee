use Rattle.std.proofs.Common.{◌≡◌, ◌<◌, ◌≤◌, length, arith}
use Rattle.dfr_station.specs.Input.{frame_size}
use Rattle.dfr_station.proofs.Coming.{no_frame, frame_leads}
use Rattle.dfr_station.proofs.intake.cutter.Cutter.next_frame.Goals as goal

pub returns-then-bytes-size : goal.returns-then-bytes-size
returns-then-bytes-size g c =
    let s = c.args.self.now in
    let size : c.frame_len-size.result ≡ frame_size s.layout.now = rw (c.analog.ensures, c.status.ensures) at c.frame_len-size.ensures in
    let short : length s.buffer < frame_size s.layout.now = rw (c.waiting-bytes.ensures.bytes, size) at c.if-bytes-size.true in
    λ last. record {
      room = omega (arith, c.rate-rate.ensures.lawful.analog_few, c.rate-rate.ensures.lawful.status_few);
      cut = record { first = λ more none xs comes. comes };
      over = λ is_last. no_frame s.layout.now c.args.lowest _ s.buffer c.requires short;
    }

pub returns : goal.returns
returns g c =
    let s = c.args.self.now in
    let size : c.frame_len-size.result ≡ frame_size s.layout.now = rw (c.analog.ensures, c.status.ensures) at c.frame_len-size.ensures in
    let whole : frame_size s.layout.now ≤ length s.buffer = rw (c.waiting-bytes.ensures.bytes, size) at c.if-bytes-size.false in
    let means = rw (c.waiting-bytes.ensures.bytes, size) at c.arrival_of_frame-arrival.ensures in
    let rest = rw size at c.use_up.ensures in
    λ last. record { first = λ more none xs comes. frame_leads s.layout.now c.args.lowest _ _ s.buffer more _ xs c.requires c.requires whole means (rw rest at comes) }
