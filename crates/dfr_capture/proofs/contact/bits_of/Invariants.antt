use Rattle.std.proofs.Common.{◌≡◌, take}
use Rattle.dfr_capture.specs.Contacts.{bits_of}
use Rattle.dfr_capture.proofs.contact.bits_of.Given as goal

abbrev pub invariant-loop-one : goal.invariant-loop-one
invariant-loop-one g l = l.bits.items ≡ bits_of (take l.one-index l.held)
