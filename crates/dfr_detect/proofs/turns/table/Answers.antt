use Rattle.std.proofs.Common.{◌≡◌, [], subst, ℕ, arith, rules}
use Rattle.dfr_detect.specs.Turns.{IsTable}
use Rattle.dfr_detect.proofs.Tables.{table_none, table_more}
use Rattle.dfr_detect.proofs.turns.table.Goals as goal

pub loop-i-init : goal.loop-i-init
loop-i-init g c =
    let none : c.new-table.result.items ≡ [] = search rules in
    rw none (table_none c.args.n c.args.first c.args.other)

pub loop-i-preserved : goal.loop-i-preserved
loop-i-preserved g c =
    table_more c.args.n c.loop-i.i c.args.first c.args.other c.loop-i.table.items c.push.new.self.items c.weights_of.result c.weights_of-in-loop-i.result c.loop-i.invariant
    c.weights_of.ensures c.weights_of-in-loop-i.ensures c.in_ok-push.ensures.items

pub returns : goal.returns
returns g c =
    let all : c.loop-i.i ≡ c.args.n = omega arith in
    subst (λ (m : ℕ). IsTable c.args.n m c.args.first c.args.other c.loop-i.table.items) all c.loop-i.invariant
