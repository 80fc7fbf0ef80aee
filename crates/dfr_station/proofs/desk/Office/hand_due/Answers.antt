use Rattle.dfr_station.proofs.Orders.{due_after}
use Rattle.dfr_station.proofs.desk.Office.hand_due.Goals as goal

pub returns-then-is_due : goal.returns-then-is_due
returns-then-is_due g c =
    due_after c.args.pumped c.args.self.now c.take_off.new.self c.hand_next.new.self c.hand_next.result c.take_off.ensures c.hand_next.ensures
