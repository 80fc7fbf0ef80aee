use Rattle.std.proofs.Common.{◌≡◌, map, take}
use Rattle.dfr_capture.specs.Listening.{unheard}
use Rattle.dfr_capture.proofs.listened.all_unheard.Given as goal

abbrev pub invariant-loop-block : goal.invariant-loop-block
invariant-loop-block g l = l.listened.items ≡ map unheard (take l.block-index l.blocks)
