use Rattle.dfr_station.proofs.Orders.{asks_within}
use Rattle.dfr_station.proofs.desk.OfficeDeskRecording.next.Goals as goal
use Rattle.dfr_station.proofs.desk.OfficeDeskRecording.next.Goals.{in-Done, in_default-asked}

pub returns : goal.returns
returns g c =
    let within = asks_within c.args.standing c.in-Some.most c.watch_shelf.new.self c.asked_at-asked.new.self c.asked_at-asked.result c.in-Some.ensures.room c.asked_at-asked.ensures in
    let same = c.watch_shelf.ensures in
    elim c.match-asked.branch [
      | in-Done w ↦ rw (c.within.ensures, w.self-is, w.tell_missed.ensures, ← c.self.view_is) (rw same at within)
      | in_default-asked w ↦ rw (c.within.ensures, w.self-is, ← c.self.view_is) (rw same at within)
    ]
