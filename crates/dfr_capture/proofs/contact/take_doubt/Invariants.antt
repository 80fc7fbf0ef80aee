use Rattle.std.proofs.Common.{◌≡◌, ◌++◌, map, take, drop, length}
use Rattle.dfr_capture.specs.Contacts.{at_rest}
use Rattle.dfr_capture.proofs.contact.take_doubt.Given as goal

abbrev pub invariant-loop-one : goal.invariant-loop-one
invariant-loop-one l = record {
  long : length l.held ≡ length l.fn.held;
  held : l.held ≡ map (at_rest l.block) (take l.one-index l.fn.held) ++ drop l.one-index l.fn.held;
}
