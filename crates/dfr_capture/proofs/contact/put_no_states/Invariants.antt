use Rattle.std.proofs.Common.{◌≡◌, ◌++◌, drop}
use Rattle.dfr_capture.specs.Contacts.{no_states}
use Rattle.dfr_capture.proofs.contact.put_no_states.Given as goal

abbrev pub invariant-loop-n : goal.invariant-loop-n
invariant-loop-n g l =
    l.out.items ++ no_states l.bytes l.content l.block l.n (drop l.n l.held) ≡ l.fn.out.items ++ no_states l.bytes l.content l.block 0 l.held
