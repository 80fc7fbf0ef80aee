use Rattle.std.proofs.Common.{All, List, subst}
use Rattle.dfr_channels.specs.Parts.{AnalogParts}
use Rattle.dfr_channels.specs.Decimals.{HasDecimals}
use Rattle.dfr_channels.proofs.numbers.layout_has_numbers.Goals as goal

pub returns-clause-analog : goal.returns-clause-analog
returns-clause-analog g c = subst (λ (l : List AnalogParts). All HasDecimals l) c.analog.ensures c.channels_have_numbers.ensures
