use Rattle.std.proofs.Common.{◌≡◌, drop}
use Rattle.dfr_folder.specs.Events.{state_of}
use Rattle.dfr_folder.proofs.seen.state_in.Given as goal

abbrev pub invariant-loop-seen : goal.invariant-loop-seen
invariant-loop-seen l = state_of (drop l.seen-index l.names) l.name ≡ state_of l.names l.name
