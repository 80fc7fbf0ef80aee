use Rattle.dfr_detect.proofs.Summed.{squares_bounded}
use Rattle.dfr_detect.proofs.window.Window.squares.Goals as goal

pub returns-clause-bound : goal.returns-clause-bound
returns-clause-bound g c = squares_bounded _ _ _ c.self.invariant
