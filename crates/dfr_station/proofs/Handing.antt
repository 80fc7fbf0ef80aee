-- What is handed out after what came first.
use Rattle.std.proofs.Common.{ℕ, List, [], Option}
use Rattle.std.specs.Prelude.{◌≡◌}
use Rattle.dfr_station.specs.Arrivals.{CameFirst, HandsNext}
use Rattle.dfr_station.specs.Lines.{ArrivalParts}
use Rattle.dfr_station.specs.declared.intake.arrivals.Arrivals.{Arrivals}
use Rattle.dfr_station.specs.declared.intake.arrivals.Ending.TheVariants as ending
use Rattle.dfr_station.specs.declared.intake.arrivals.Next.{Next}
use Rattle.dfr_station.specs.declared.intake.arrivals.Next.TheVariants as next

pub hands_on : {I A : Type 0} (left : I → Option (List ℕ)) (s m t : Arrivals I A) (x : Next A) → CameFirst left s [] m → HandsNext left m x t → HandsNext left s x t
hands_on left s m t (next.Arrival a) first hands = record { before = λ xs comes. first.before _ (hands.before xs comes) }
hands_on left s m t next.Gap first hands = record { before = λ xs comes. first.before _ (hands.before xs comes) }
hands_on left s m t next.Read first hands = record { before = λ xs comes. first.before _ (hands.before xs comes) }
hands_on left s m t next.Drained first hands = record { before = λ xs comes. first.before _ (hands.before xs comes) }
hands_on left s m t (next.End ending.Broken) first hands = record { before = λ xs comes. first.before _ (hands.before xs comes) }
hands_on left s m t (next.End ending.Whole) first hands = (first.before [] hands.0, hands.1)
hands_on left s m t (next.End (ending.Cut count)) first hands = (first.before [] hands.0, hands.1)

-- the gap makes no difference to what comes
pub came_same : {I A : Type 0} (left : I → Option (List ℕ)) (s m t : Arrivals I A) (given : List ArrivalParts) → CameFirst left s given m
    → t.input ≡ m.input → t.cutter ≡ m.cutter → t.ending ≡ m.ending → CameFirst left s given t
came_same left s m t given first input cutter ending = record {
  before = λ xs comes. first.before xs (comes.0, rw (ending, input) at comes.1, rw cutter at comes.2);
}
