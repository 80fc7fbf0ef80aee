use Rattle.std.proofs.Common.{sym, ◌∙◌}
use Rattle.dfr_channels.proofs.layout.Layout.new.Goals as goal

pub returns-in-Some-clause-fault : goal.returns-in-Some-clause-fault
returns-in-Some-clause-fault g c = sym c.setup_fault.ensures ∙ c.in-Some.is
