use Rattle.std.proofs.Common.{◌≡◌, ◌<◌, ap, refl, sym, ◌∙◌, arith}
use Rattle.std.specs.List.{position_or_len}
use Rattle.dfr_script.specs.Scripts.{draft, is_go}
use Rattle.dfr_script.proofs.FirstFault.{next_of, ahead_here, ahead_more, draft_goes_on, draft_refuses}
use Rattle.dfr_script.proofs.set_up.opening_of.Goals as goal

pub loop-line-init : goal.loop-line-init
unfolding draft
loop-line-init g c = record {
  within = omega arith;
  left = refl;
  ahead = omega arith;
  said = refl;
}

pub loop-line-preserved : goal.loop-line-preserved
loop-line-preserved g c =
    let before = c.loop-line.invariant in
    let next = next_of c.args.lines.now c.loop-line.count c.in-Some.line.now c.next.new.self (sym before.left ∙ c.in-Some.ensures.steps) in
    let ahead = ap (position_or_len is_go) c.in-Some.ensures.steps ∙ ahead_more is_go c.in-Some.line.now c.next.new.self (sym c.is_go.ensures ∙ c.if-is_go.false) in
    record {
      within = omega (arith, next.within);
      left = next.behind;
      ahead = omega (arith, before.ahead, ahead);
      said = draft_goes_on c.args.first c.args.lines.now c.loop-line.count c.loop-line.draft _ before.said (rw next.is c.in-Ok.ensures.says);
    }

pub returns-then-is_go-clause-draft : goal.returns-then-is_go-clause-draft
returns-then-is_go-clause-draft g c =
    let before = c.loop-line.invariant in
    let here = ap (position_or_len is_go) c.in-Some.ensures.steps ∙ ahead_here is_go c.in-Some.line.now c.next.new.self (sym c.is_go.ensures ∙ c.if-is_go.true) in
    let at : position_or_len is_go c.args.lines.now ≡ c.loop-line.count = omega (arith, before.ahead, here) in
    rw at before.said

pub returns-clause-draft : goal.returns-clause-draft
returns-clause-draft g c =
    let before = c.loop-line.invariant in
    let none = ap (position_or_len is_go) c.in_default.ensures.steps.0 in
    let at : position_or_len is_go c.args.lines.now ≡ c.loop-line.count = omega (arith, before.ahead, none) in
    rw at before.said

pub returns-in-Err-clause-draft : goal.returns-in-Err-clause-draft
returns-in-Err-clause-draft g c =
    let before = c.loop-line.invariant in
    let next = next_of c.args.lines.now c.loop-line.count c.in-Some.line.now c.next.new.self (sym before.left ∙ c.in-Some.ensures.steps) in
    let ahead = ap (position_or_len is_go) c.in-Some.ensures.steps ∙ ahead_more is_go c.in-Some.line.now c.next.new.self (sym c.is_go.ensures ∙ c.if-is_go.false) in
    let later : c.loop-line.count < position_or_len is_go c.args.lines.now = omega (arith, before.ahead, ahead) in
    rw c.refused_at.ensures (draft_refuses c.args.first c.args.lines.now c.loop-line.count c.loop-line.draft _ (position_or_len is_go c.args.lines.now) before.said (rw next.is c.in-Err.ensures.says) later)
