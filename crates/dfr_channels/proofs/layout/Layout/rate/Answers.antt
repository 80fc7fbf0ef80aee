use Rattle.std.proofs.Common.{subst}
use Rattle.dfr_channels.specs.Parts.{SetupParts}
use Rattle.dfr_channels.specs.Setups.{IsLawful}
use Rattle.dfr_channels.proofs.Lawful.{lawful}
use Rattle.dfr_channels.proofs.layout.Layout.rate.Goals as goal

pub returns-clause-lawful : goal.returns-clause-lawful
returns-clause-lawful g c = subst (λ (s : SetupParts). IsLawful s) c.self.view_is (lawful _ c.self.invariant)
