use Rattle.std.proofs.Common.{refl}
use Rattle.dfr_capture.proofs.Listenings.{message_is, message_told}
use Rattle.dfr_capture.proofs.listening.take_block.Goals as goal

pub returns-clause-events : goal.returns-clause-events
returns-clause-events g c =
    message_told c.args.bytes.now c.args.goose.now c.args.blocks.now c.args.held.now c.args.n _ c.args.out.now.items c.put_turn.new.out.items _ c.requires c.in_ok-put_turn.ensures
    c.in_ok-put_states.ensures
