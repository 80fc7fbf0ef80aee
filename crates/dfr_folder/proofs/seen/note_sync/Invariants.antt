use Rattle.std.proofs.Common.{◌≡◌, None, take}
use Rattle.dfr_folder.specs.Events.{state_of}
use Rattle.dfr_folder.proofs.seen.note_sync.Given as goal

abbrev pub invariant-loop-seen : goal.invariant-loop-seen
invariant-loop-seen l = record {
  same : l.names ≡ l.fn.names;
  none : state_of (take l.seen-index l.names) l.name ≡ None;
}
