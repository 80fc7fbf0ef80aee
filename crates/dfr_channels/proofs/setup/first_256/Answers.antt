use Rattle.std.proofs.Common.{sym, arith, inl, inr}
use Rattle.std.proofs.lemmas.List.{take_all}
use Rattle.dfr_channels.proofs.setup.first_256.Goals as goal

pub returns-in-None-clause-first : goal.returns-in-None-clause-first
returns-in-None-clause-first g c = elim c.in-None.ensures.lookup.0 [ inl never ↦ absurd (omega arith) | inr few ↦ sym (take_all 256 c.args.list.now (omega arith)) ]
