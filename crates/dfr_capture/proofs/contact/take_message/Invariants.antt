use Rattle.std.proofs.Common.{◌≡◌, ◌++◌, map, take, drop, length}
use Rattle.dfr_capture.specs.Contacts.{after_message}
use Rattle.dfr_capture.proofs.contact.take_message.Given as goal

abbrev pub invariant-loop-one : goal.invariant-loop-one
invariant-loop-one l = record {
  long : length l.held ≡ length l.fn.held;
  held : l.held ≡ map (after_message l.bytes l.content l.block) (take l.one-index l.fn.held) ++ drop l.one-index l.fn.held;
}
