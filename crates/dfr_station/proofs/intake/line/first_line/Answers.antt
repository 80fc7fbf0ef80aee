use Rattle.dfr_station.proofs.Cutting.{first_line_is}
use Rattle.dfr_station.proofs.intake.line.first_line.Goals as goal

pub returns : goal.returns
returns c = first_line_is _ _ _ (rw c.in_ok-feed.was at c.memchr.ensures) c.without_return.ensures
