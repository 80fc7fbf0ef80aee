use Rattle.std.proofs.Common.{◌≡◌, length, ap, map, refl, sym, ◌∙◌, arith}
use Rattle.std.specs.Prelude.{Ok}
use Rattle.std.proofs.lemmas.List.{length-drop}
use Rattle.dfr_script.specs.Commands.{parts_of}
use Rattle.dfr_script.specs.Scripts.{commands}
use Rattle.dfr_script.proofs.FirstFault.{next_of, commands_go_on, commands_refuse}
use Rattle.dfr_script.proofs.script.commands_of.Goals as goal

pub loop-line-init : goal.loop-line-init
unfolding commands
loop-line-init g c = record {
  within = omega arith;
  left = refl;
  made = ap (λ cs. Ok (map parts_of cs)) (sym c.new-list.ensures.items);
}

pub loop-line-preserved : goal.loop-line-preserved
loop-line-preserved g c =
    let before = c.loop-line.invariant in
    let next = next_of c.args.lines c.loop-line.count c.in-Some.line.now c.next.new.self (sym before.left ∙ c.in-Some.ensures.steps) in
    record {
      within = omega (arith, next.within);
      left = next.behind;
      made = commands_go_on c.args.from c.args.lines c.loop-line.count (map parts_of c.loop-line.list.items) _ before.made (rw next.is c.in-Ok.ensures);
    }

pub returns-in-Err : goal.returns-in-Err
returns-in-Err g c =
    let before = c.loop-line.invariant in
    let next = next_of c.args.lines c.loop-line.count c.in-Some.line.now c.next.new.self (sym before.left ∙ c.in-Some.ensures.steps) in
    rw c.refused_at.ensures (commands_refuse c.args.from c.args.lines c.loop-line.count (map parts_of c.loop-line.list.items) _ (length c.args.lines) before.made (rw next.is c.in-Err.ensures) next.within)

pub returns : goal.returns
returns g c =
    let before = c.loop-line.invariant in
    let none = ap length (sym before.left ∙ c.in_default.ensures.steps.0) in
    let end : length c.args.lines ≡ c.loop-line.count = omega (arith, before.within, length-drop c.loop-line.count c.args.lines, none) in
    rw end before.made
