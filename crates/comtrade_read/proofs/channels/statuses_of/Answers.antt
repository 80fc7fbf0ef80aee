use Rattle.std.proofs.Common.{ℕ, ◌+◌, ◌∷◌, [], length, ap, ◌∙◌, arith, length-append}
use Rattle.std.proofs.lemmas.Result.{err_from_is_err_and}
use Rattle.comtrade_read.specs.Line.{next}
use Rattle.comtrade_read.specs.Head.{status_line, next_status}
use Rattle.comtrade_read.proofs.LineByLine.{starts, goes_on, stops, ends}
use Rattle.comtrade_read.proofs.channels.statuses_of.Goals as goal

pub loop-i-init : goal.loop-i-init
loop-i-init g c = record { sound = starts next_status c.args.count _ c.args.left.now c.new-list.ensures.items; long = ap length c.new-list.ensures.items }

pub returns-in_err-status_of : goal.returns-in_err-status_of
returns-in_err-status_of g c =
    let p = err_from_is_err_and c.from_residual.result c.from_residual.ensures.1 in
    let e = ap (λ (k : ℕ). next (status_line (k + 1)) c.loop-i.left) c.loop-i.invariant.long in
    rw (p.1, p.2) (λ n. c.loop-i.invariant.sound ∙ stops next_status c.args.count c.loop-i.i c.loop-i.list.items c.loop-i.left _ c.loop-i-test.true (e ∙ c.in_err-status_of.ensures n))

pub loop-i-preserved : goal.loop-i-preserved
loop-i-preserved g c =
    let xs = c.loop-i.list.items in
    let x = c.in_ok-status_of.field-0 in
    let e = ap (λ (k : ℕ). next (status_line (k + 1)) c.loop-i.left) c.loop-i.invariant.long in
    record {
      sound = rw c.in_ok-push.ensures.items (c.loop-i.invariant.sound ∙ goes_on next_status c.args.count c.loop-i.i xs c.loop-i.left _ x c.loop-i-test.true (e ∙ c.in_ok-status_of.ensures));
      long = ap length c.in_ok-push.ensures.items ∙ length-append xs (x ∷ []) ∙ ap (λ n. n + 1) c.loop-i.invariant.long;
    }

pub returns : goal.returns
returns g c = c.loop-i.invariant.sound ∙ ends next_status c.args.count c.loop-i.i c.loop-i.list.items c.loop-i.left (omega arith)
