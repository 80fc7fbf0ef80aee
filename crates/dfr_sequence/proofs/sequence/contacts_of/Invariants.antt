use Rattle.std.proofs.Common.{◌≡◌, [], map, take}
use Rattle.dfr_sequence.specs.Contacts.{kept}
use Rattle.dfr_sequence.specs.Sequences.{all_wanted}
use Rattle.dfr_sequence.proofs.sequence.contacts_of.Given as goal

abbrev pub invariant-loop-channel : goal.invariant-loop-channel
invariant-loop-channel g l = l.contacts.items ≡ map (λ w. kept w []) (all_wanted l.limit 0 (take l.channel l.normal))
