use Rattle.dfr_station.proofs.Coming.{pays}
use Rattle.dfr_station.proofs.intake.cutter.Cutter.next.Goals as goal

pub returns-then-self : goal.returns-then-self
returns-then-self g c = rw c.saturating_add-self.ensures (pays c.args.is_last c.args.self.now c.in-Lines.is c.if-self.true)
