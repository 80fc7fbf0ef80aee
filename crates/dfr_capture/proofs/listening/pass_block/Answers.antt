use Rattle.std.proofs.Common.{ap}
use Rattle.std.specs.Prelude.{slice_set}
use Rattle.std.proofs.lemmas.List.{length-set}
use Rattle.dfr_capture.specs.declared.listened.Listened.{Listened}
use Rattle.dfr_capture.proofs.Listenings.{over_is, over_told}
use Rattle.dfr_capture.proofs.listening.pass_block.Goals as goal

pub returns-clause-state : goal.returns-clause-state
returns-clause-state g c =
    over_is c.args.blocks.now _ c.args.held.now _ c.args.time c.args.n _ c.requires
    (ap (λ (l : Listened). slice_set c.args.blocks.now c.args.n l) c.passed_block.ensures) c.pass_held.ensures

pub returns-clause-events : goal.returns-clause-events
returns-clause-events g c = over_told c.args.blocks.now c.args.out.now.items _ c.args.time c.args.n _ c.requires c.in_ok-put_over.ensures
