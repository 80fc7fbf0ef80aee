use Rattle.dfr_clock.proofs.Truth.{date_law}
use Rattle.dfr_clock.proofs.laws.dates_in_order.Goals as goal

pub returns : goal.returns
returns c = date_law
