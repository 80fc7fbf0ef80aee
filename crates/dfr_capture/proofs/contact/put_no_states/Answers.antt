use Rattle.std.proofs.Common.{◌∙◌, sym}
use Rattle.dfr_capture.proofs.Listenings.{state_more, state_end}
use Rattle.dfr_capture.proofs.contact.put_no_states.Goals as goal

pub loop-n-preserved : goal.loop-n-preserved
loop-n-preserved g c =
    state_more c.args.bytes.now c.args.content c.args.block c.args.held.now c.loop-n.n _ c.loop-n.out.items c.put_no_state.new.out.items c.loop-n-test.true c.in_ok-put_no_state.ensures
    ∙ c.loop-n.invariant

pub returns : goal.returns
returns g c = sym (state_end c.args.bytes.now c.args.content c.args.block c.args.held.now c.loop-n.n c.loop-n.out.items c.loop-n-test.false) ∙ c.loop-n.invariant
