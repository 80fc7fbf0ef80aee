use Rattle.dfr_station.proofs.Coming.{last_of}
use Rattle.dfr_station.proofs.intake.cutter.Cutter.front_line.Goals as goal

pub returns-then-is_last : goal.returns-then-is_last
returns-then-is_last g c =
    last_of c.args.is_last c.args.self.now c.last_line.new.self c.last_line.result c.requires.ready c.if-is_last.true (rw c.in_default.ensures.0 at c.last_line.ensures)
