use Rattle.std.proofs.Common.{ℕ, ◌≤◌, sym, subst, arith}
use Rattle.comtrade_analysis.specs.Wide.{number}
use Rattle.comtrade_analysis.specs.Roots.{IsFloor, IsTooLarge}
use Rattle.comtrade_analysis.proofs.Floors.{floor_shortened, too_large, if_none}
use Rattle.comtrade_analysis.proofs.mean_square.MeanSquare.coarser.Goals as goal

pub loop-shorter-preserved : goal.loop-shorter-preserved
loop-shorter-preserved c =
    let mean = c.args.self in
    let old = c.loop-shorter.square in
    let new = c.in-Some.shorter in
    let next = c.in-Some.ensures in
    record {
      floor = subst (λ (n : ℕ). IsFloor mean new.places n) (sym next.value)
          (floor_shortened mean new.places old.1.0 (number old.0) next.places c.loop-shorter.invariant.floor);
      enough = next.enough;
      few = let old : c.loop-shorter.square.1.0 ≤ 80 = c.loop-shorter.invariant.few in omega (arith, next.places);
    }

pub returns-in_err-short-clause-none : goal.returns-in_err-short-clause-none
returns-in_err-short-clause-none c =
    let square = c.loop-shorter.square in
    if_none (IsTooLarge c.args.self) c.from_residual.result
    (too_large c.args.self square.1.0 c.args.least (number square.0) c.loop-shorter.invariant.floor c.in_default.ensures.none c.requires.room c.in_err-short.ensures)
