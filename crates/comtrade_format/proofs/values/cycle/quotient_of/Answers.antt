use Rattle.std.proofs.Common.{◌≡◌, ◌*◌, unsigned_abs, Option, Some, None}
use Rattle.std.specs.Prelude.{IfSome}
use Rattle.comtrade_format.specs.Cycles.{Lasts}
use Rattle.comtrade_format.specs.declared.values.cycle.Cycle.{Cycle}
use Rattle.comtrade_format.proofs.Cycles.{same-places}
use Rattle.comtrade_format.proofs.values.cycle.quotient_of.Goals as goal

-- what follows of the value in a Some
along : (found : Option Cycle) (P Q : Cycle → Type 0) → ((cycle : Cycle) → P cycle → Q cycle) → IfSome found P → IfSome found Q
along None P Q next h = h
along (Some cycle) P Q next h = next cycle h

pub returns : goal.returns
returns c =
    let f = c.args.frequency in
    let r = c.args.rate in
    let cycles = c.in_ok-cycles.cycles in
    let rows = c.in_ok-rows.rows in
    along c.reduced.result (λ cycle. cycle.cycles * rows ≡ cycle.rows * cycles) (λ cycle. Lasts f r cycle.cycles cycle.rows)
    (λ cycle same. same-places (unsigned_abs f.units) (unsigned_abs r.units) f.places r.places cycle.cycles cycle.rows cycles rows
    c.in_ok-cycles.ensures c.in_ok-rows.ensures same)
    c.reduced.ensures
