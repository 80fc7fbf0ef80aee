use Rattle.std.proofs.Common.{◌∙◌, Ok, Err}
use Rattle.dfr_convert.specs.Conversions.{kept, state}
use Rattle.dfr_convert.proofs.Known.{known_after}
use Rattle.dfr_convert.proofs.Taken.{takes_none, takes_on, up_to_on}
use Rattle.dfr_convert.proofs.conversion.take_packets.Goals as goal

pub loop-at-init : goal.loop-at-init
loop-at-init g c = (takes_none _, λ first is. is)

pub loop-at-preserved : goal.loop-at-preserved
loop-at-preserved g c =
    let new = c.take_packet.new in (
      takes_on (state (kept c.args.pieces.now c.args.recorder.now) c.args.feed.now c.args.first.now)
          (state (kept c.loop-at.pieces c.loop-at.recorder) c.loop-at.feed c.loop-at.first) (state (kept new.pieces new.recorder) new.feed new.first)
          c.loop-at.invariant.0 c.in-Ok.ensures.takes,
      λ first is. known_after (Ok tt) c.in-Packet.packet new.feed.lines c.loop-at.first new.first c.in-Ok.ensures.first first (c.loop-at.invariant.1 first is),
    )

pub returns-in-Err-clause-takes : goal.returns-in-Err-clause-takes
returns-in-Err-clause-takes g c =
    let new = c.take_packet.new in
    up_to_on (Err c.in-Err.stop) (state (kept c.args.pieces.now c.args.recorder.now) c.args.feed.now c.args.first.now)
    (state (kept c.loop-at.pieces c.loop-at.recorder) c.loop-at.feed c.loop-at.first) (state (kept new.pieces new.recorder) new.feed new.first)
    c.loop-at.invariant.0 c.in-Err.ensures.takes

pub returns-in-Err-clause-short : goal.returns-in-Err-clause-short
returns-in-Err-clause-short g c = c.in-Err.ensures.short

pub returns-in-Err-clause-first : goal.returns-in-Err-clause-first
returns-in-Err-clause-first g c first is = c.in-Err.ensures.first ∙ c.loop-at.invariant.1 first is
