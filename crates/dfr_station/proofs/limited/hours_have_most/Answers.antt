use Rattle.dfr_station.proofs.Hours.{most_law}
use Rattle.dfr_station.proofs.limited.hours_have_most.Goals as goal

pub returns : goal.returns
returns c = most_law
