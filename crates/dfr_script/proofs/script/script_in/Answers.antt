use Rattle.std.proofs.Common.{◌≡◌, ◌∷◌, drop, length, ap, arith, tests, rules}
use Rattle.std.specs.Prelude.{not}
use Rattle.std.proofs.lemmas.List.{length-drop}
use Rattle.std.proofs.lemmas.List.Sums.{prefix_len-le-length}
use Rattle.dfr_script.specs.Scripts.{is_go}
use Rattle.dfr_script.proofs.FirstFault.{go_refused, command_refused}
use Rattle.dfr_script.proofs.script.script_in.Goals as goal

pub fault_at-requires : goal.fault_at-requires
fault_at-requires g c =
    omega (arith, c.requires, c.in_ok-draft.ensures.place, prefix_len-le-length (λ l. not (is_go l)) c.args.lines)

pub commands_of-requires : goal.commands_of-requires
commands_of-requires g c =
    let left : drop c.in_ok-draft.field-0.count c.args.lines ≡ c.in-Some.go.now ∷ c.opening_of.new.lines = rw c.in-Some.is at c.in_ok-draft.ensures.left in
    omega (arith, c.requires, ap length left, length-drop c.in_ok-draft.field-0.count c.args.lines)

pub returns-in_err-set_up : goal.returns-in_err-set_up
returns-in_err-set_up g c =
    let left : drop c.in_ok-draft.field-0.count c.args.lines ≡ c.in-Some.go.now ∷ c.opening_of.new.lines = rw c.in-Some.is at c.in_ok-draft.ensures.left in
    let fault = go_refused c.args.lines c.in_ok-draft.field-0.count c.in_ok-draft.field-0.draft c.in-Some.go.now c.opening_of.new.lines _ c.in_ok-draft.ensures.place (rw c.new.ensures at c.in_ok-draft.ensures.draft) left c.in_err-set_up.ensures in
    search (tests, rules, fault)

pub returns-in_err-commands : goal.returns-in_err-commands
returns-in_err-commands g c =
    let left : drop c.in_ok-draft.field-0.count c.args.lines ≡ c.in-Some.go.now ∷ c.opening_of.new.lines = rw c.in-Some.is at c.in_ok-draft.ensures.left in
    let fault = command_refused c.args.lines c.in_ok-draft.field-0.count c.in_ok-draft.field-0.draft c.in-Some.go.now c.opening_of.new.lines c.in_ok-set_up.set_up _ c.in_ok-draft.ensures.place (rw c.new.ensures at c.in_ok-draft.ensures.draft) left c.in_ok-set_up.ensures c.in_err-commands.ensures in
    search (tests, rules, fault)
