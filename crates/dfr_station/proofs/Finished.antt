-- How the record that is open at the end of the input ends.
use Rattle.std.proofs.Common.{◌≡◌, Bool, true, false, List, refl, subst}
use Rattle.std.specs.Prelude.{not, is_some, Option}
use Rattle.dfr_clock.specs.Dating.{Kept as Times}
use Rattle.dfr_recorder.specs.Kept.{Kept}
use Rattle.dfr_recorder.specs.declared.step.Scanned.{Scanned}
use Rattle.comtrade_format.specs.declared.file.Kind.{Kind}
use Rattle.dfr_station.specs.Finishing.{LosesScans, EndsOpen, FinishesOpen, Finishes}
use Rattle.dfr_station.specs.Storing.{StoresOf}
use Rattle.dfr_station.specs.declared.intake.ended.Counts.{Counts}

pub none_open : (b : Bool) → true ≡ not b → b ≡ false
none_open true h = cc
none_open false h = refl

pub one_open : (b : Bool) → false ≡ not b → b ≡ true
one_open true h = refl
one_open false h = cc

-- a record was open
pub finishes_open : {K : Type 0} (Stores : StoresOf K) (kind : Kind) (times : Option Times) (r : Kept) (c : Counts) (s : K) (t : Kept) (d : Counts) (u : K)
    → true ≡ is_some r.recording → (lost : List Scanned) (m : Kept) → LosesScans r lost m → EndsOpen Stores r.layout kind times m c s t d u
    → Finishes Stores kind times r c s t d u
finishes_open Stores kind times r c s t d u was lost m loses ends =
    subst (λ (b : Bool). FinishesOpen Stores kind times b r c s t d u) was (lost, m, loses, ends)
