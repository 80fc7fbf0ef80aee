use Rattle.std.proofs.Common.{◌∙◌, sym, refl}
use Rattle.dfr_capture.specs.Listening.{listening_of}
use Rattle.dfr_capture.proofs.Listenings.{passed_none, passed_more, told_none, told_more}
use Rattle.dfr_capture.proofs.listening.pass_blocks.Goals as goal

pub loop-n-init : goal.loop-n-init
loop-n-init g c =
    let s = listening_of c.args.blocks.now c.args.held.now in
    record { long = refl; state = sym (passed_none c.args.time s); events = told_none c.args.time s c.args.out.now.items }

pub loop-n-preserved : goal.loop-n-preserved
loop-n-preserved g c =
    let so = c.loop-n.invariant in
    let s = listening_of c.args.blocks.now c.args.held.now in
    let now = listening_of c.loop-n.blocks c.loop-n.held in
    record {
      long = c.pass_block.ensures.long ∙ so.long;
      state = passed_more c.args.time c.loop-n.n s now _ so.state c.in_ok-pass_block.ensures.state;
      events = told_more c.args.time c.loop-n.n s now c.args.out.now.items c.loop-n.out.items _ so.state so.events c.in_ok-pass_block.ensures.events;
    }
