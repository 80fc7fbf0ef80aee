use Rattle.std.proofs.Common.{◌∙◌, ℕ, List, ap}
use Rattle.dfr_capture.specs.Recordings.{FeedParts}
use Rattle.dfr_convert.specs.Conversions.{noted}
use Rattle.dfr_convert.proofs.Taken.{takes_none, one_packet_of}
use Rattle.dfr_convert.proofs.conversion.take_packet.Goals as goal

pub returns-in_default-clause-takes : goal.returns-in_default-clause-takes
returns-in_default-clause-takes g c = takes_none _

pub returns-clause-takes : goal.returns-clause-takes
returns-clause-takes g c =
    one_packet_of c.args.pieces.now c.pass.new.self c.args.recorder.now c.take_in.new.self c.args.packet.now c.in-Some.time c.left.result.now c.args.feed.now
    c.take_in.new.feed c.args.first.now c.noted.result c.requires.next c.in-Some.ensures c.left.ensures c.requires.within c.in-Ok.ensures c.pass.ensures
    (c.noted.ensures ∙ ap (λ (ls : List ℕ). noted c.args.first.now ls c.in-Some.time) (c.deref.ensures.value ∙ ap (λ (f : FeedParts). f.lines) c.feed.view_is))
