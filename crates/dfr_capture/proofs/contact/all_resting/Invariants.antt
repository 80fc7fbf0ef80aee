use Rattle.std.proofs.Common.{◌≡◌, map, take}
use Rattle.dfr_capture.specs.Contacts.{resting}
use Rattle.dfr_capture.proofs.contact.all_resting.Given as goal

abbrev pub invariant-loop-contact : goal.invariant-loop-contact
invariant-loop-contact g l = l.held.items ≡ map resting (take l.contact-index l.contacts)
