use Rattle.std.proofs.Common.{sym, ◌∙◌}
use Rattle.std.proofs.lemmas.Bool.{false≢true}
use Rattle.dfr_station.proofs.Coming.{waits_for_rest}
use Rattle.dfr_station.proofs.intake.cutter.Cutter.take_line.Goals as goal
use Rattle.dfr_station.proofs.intake.cutter.Cutter.take_line.Goals.{then-self, else-self}

pub returns-then-self-2 : goal.returns-then-self-2
returns-then-self-2 g c =
    elim c.if-self.branch [
      | then-self w ↦
          let skips = rw w.self-is at c.if-self-2.true in
          let s = w.skip_on.ensures in
          rw w.self-is (waits_for_rest c.args.is_last c.args.self.now w.skip_on.new.self s.cut (s.same.0 ∙ c.requires.lines) (s.same.1 ∙ c.requires.paid) skips (s.rest skips))
      | else-self w ↦ absurd (false≢true (sym w.if-self.false ∙ (rw w.self-is at c.if-self-2.true)))
    ]
