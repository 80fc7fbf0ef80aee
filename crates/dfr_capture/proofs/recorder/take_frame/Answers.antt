use Rattle.std.proofs.Common.{◌∷◌, [], Ok, Err, refl}
use Rattle.dfr_capture.specs.declared.feed.Event.TheVariants.{Skipped}
use Rattle.dfr_capture.specs.Recordings.{came_at, FeedParts}
use Rattle.dfr_capture.proofs.Feeding.{feeds_told}
use Rattle.dfr_capture.proofs.Frames.{taken_of}
use Rattle.dfr_capture.proofs.recorder.take_frame.Goals as goal

pub returns-in_ok-take_payload-in-Ok : goal.returns-in_ok-take_payload-in-Ok
returns-in_ok-take_payload-in-Ok g c =
    let mid : FeedParts = record { lines = c.feed.inside.lines.items; events = c.pass.new.events.items; missing = c.feed.inside.missing.items } in
    rw (← c.feed.view_is)
    (taken_of c.args.plan.now (came_at c.args.bytes.now c.args.time) c.args.bay.now c.take_payload.new.bay c.args.listening.now c.pass.new.self c.take_payload.new.listening
    (Ok c.in-Ok.ethernet) _ mid c.take_payload.new.feed c.in_ok-pass.ensures.state c.in-Ok.ensures.exact refl refl c.in_ok-pass.ensures.events c.in_ok-take_payload-in-Ok.ensures.fed
    c.in_ok-take_payload-in-Ok.ensures.state)

pub returns-in_ok-skip-in-Err : goal.returns-in_ok-skip-in-Err
returns-in_ok-skip-in-Err g c =
    let mid : FeedParts = record { lines = c.feed.inside.lines.items; events = c.pass.new.events.items; missing = c.feed.inside.missing.items } in
    let after : FeedParts = record { lines = c.feed.inside.lines.items; events = c.skip.new.out.items; missing = c.feed.inside.missing.items } in
    rw (← c.feed.view_is)
    (taken_of c.args.plan.now (came_at c.args.bytes.now c.args.time) c.args.bay.now c.args.bay.now c.args.listening.now c.pass.new.self c.pass.new.self (Err c.in-Err.fault) _ mid
    after c.in_ok-pass.ensures.state c.in-Err.ensures.exact refl refl c.in_ok-pass.ensures.events
    (λ us w. feeds_told c.args.plan.now us (Skipped c.in-Err.fault ∷ []) mid after c.args.bay.now w refl refl c.in_ok-skip-in-Err.ensures)
    refl)
