use Rattle.dfr_station.proofs.Orders.{answers_after}
use Rattle.dfr_station.proofs.desk.Office.asked_at.Goals as goal
use Rattle.dfr_station.proofs.desk.Office.asked_at.Goals.{in-Some-hand_next, in-None}

pub returns-then-pumped-ready : goal.returns-then-pumped-ready
returns-then-pumped-ready g c =
    let first = c.in_default.ensures.0 in
    let same = c.in_default-hand_operators.ensures in
    elim c.match-hand_next.branch [
      | in-Some-hand_next w ↦ rw w.result-is (answers_after c.args.pumped c.args.self.now c.hand_operators.new.self c.hand_next.new.self w.in-Some-hand_next.order (rw same first) (w.in-Some-hand_next.ensures c.args.pumped))
      | in-None w ↦ rw (w.result-is, w.in-None.ensures.0, same) (first, rw (← same) w.in-None.ensures.1)
    ]
