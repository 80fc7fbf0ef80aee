use Rattle.std.proofs.Common.{◌+◌, ◌-◌, ◌*◌, List, ◌++◌, length, sym, ap, ◌∙◌, arith}
use Rattle.comtrade_fault.specs.Courses.{course, chain, disturbances}
use Rattle.comtrade_fault.specs.declared.disturbance.Disturbance.{Disturbance}
use Rattle.comtrade_fault.proofs.Chains.{chain_none, chain_some, chain_last, enough_rows}
use Rattle.comtrade_fault.proofs.disturbance.disturbances_in.Goals as goal

pub returns-in_default : goal.returns-in_default
returns-in_default g c =
    let i = course c.args.scans.now c.args.weights c.args.remainder in
    let v = course c.args.voltages.now c.args.voltage_weights c.args.remainder in
    let left = length c.args.scans.now - c.loop-i.i in
    chain_none i v c.of-bounds.result c.args.cycle left c.loop-i.from c.loop-i.found.items (disturbances i v c.args.cycle)
    (sym c.next_from-next.ensures.value ∙ c.in_default.is)
    (c.loop-i.invariant.found ∙ enough_rows i v c.args.cycle c.of-bounds.result (omega arith) c.of-bounds.ensures.value)

pub returns-in_default-resumed : goal.returns-in_default-resumed
returns-in_default-resumed g c =
    let i = course c.args.scans.now c.args.weights c.args.remainder in
    let v = course c.args.voltages.now c.args.voltage_weights c.args.remainder in
    let rows = length c.args.scans.now in
    c.in_ok-push.ensures.items
    ∙ chain_last i v c.of-bounds.result c.args.cycle (rows - (c.loop-i.i + 1)) (rows - c.loop-i.i) c.loop-i.from c.loop-i.found.items
    (disturbances i v c.args.cycle) c.in-Some.next (omega arith) (sym c.next_from-next.ensures.value ∙ c.in-Some.is)
    (c.loop-i.invariant.found ∙ enough_rows i v c.args.cycle c.of-bounds.result (omega arith) c.of-bounds.ensures.value)
    (sym c.resumed.ensures.value ∙ c.in_default-resumed.is)

pub loop-i-preserved : goal.loop-i-preserved
loop-i-preserved g c =
    let i = course c.args.scans.now c.args.weights c.args.remainder in
    let v = course c.args.voltages.now c.args.voltage_weights c.args.remainder in
    let rows = length c.args.scans.now in
    let b = c.of-bounds.result in
    record {
      back = c.in-Some-resumed.ensures.back;
      found =
          ap (λ (k : List Disturbance). k ++ chain i v b c.args.cycle (rows - (c.loop-i.i + 1)) c.in-Some-resumed.row) c.in_ok-push.ensures.items
          ∙ chain_some i v b c.args.cycle (rows - (c.loop-i.i + 1)) (rows - c.loop-i.i) c.loop-i.from c.loop-i.found.items
          (chain i v b c.args.cycle rows (2 * c.args.cycle)) c.in-Some.next (omega arith) (sym c.next_from-next.ensures.value ∙ c.in-Some.is)
          c.loop-i.invariant.found c.in-Some-resumed.row (sym c.resumed.ensures.value ∙ c.in-Some-resumed.is);
    }
