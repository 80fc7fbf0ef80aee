use Rattle.std.proofs.Common.{◌≤◌, ◌+◌, ◌-◌, length, vec_len, vec_capacity}
use Rattle.dfr_sequence.proofs.Each.{Stepped}
use Rattle.dfr_sequence.proofs.sequence.step_each.Given as goal

abbrev pub invariant-loop-contact : goal.invariant-loop-contact
invariant-loop-contact g l = record {
  room : vec_len l.changes + (length l.contacts - l.contact-index) ≤ vec_capacity l.changes;
  done : Stepped l.fn.contacts l.place l.bits l.fn.changes.items l.changes.items l.contacts l.contact-index;
}
