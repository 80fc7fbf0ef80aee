use Rattle.std.proofs.Common.{refl, sym, ◌∙◌, arith}
use Rattle.std.proofs.lemmas.Result.{err_from_is_err_and}
use Rattle.comtrade_read.specs.Head.{next_rate}
use Rattle.comtrade_read.proofs.LineByLine.{starts, goes_on, stops, ends, last_added}
use Rattle.comtrade_read.proofs.settings.rates_of.Goals as goal

pub loop-i-init : goal.loop-i-init
loop-i-init g c = record { sound = starts next_rate c.args.count _ c.args.left.now c.new-list.ensures.items; last = rw c.new-list.ensures.items refl }

pub returns-in_err-rate : goal.returns-in_err-rate
returns-in_err-rate g c =
    let p = err_from_is_err_and c.from_residual.result c.from_residual.ensures.1 in
    let e = rw c.loop-i.invariant.last at c.in_err-rate.ensures in
    rw (p.1, p.2) (λ n. c.loop-i.invariant.sound ∙ stops next_rate c.args.count c.loop-i.i c.loop-i.list.items c.loop-i.left _ c.loop-i-test.true (e n))

pub loop-i-preserved : goal.loop-i-preserved
loop-i-preserved g c =
    let e = rw c.loop-i.invariant.last at c.in_ok-rate.ensures in
    record {
      sound = rw c.in_ok-push.ensures.items (c.loop-i.invariant.sound ∙ goes_on next_rate c.args.count c.loop-i.i c.loop-i.list.items c.loop-i.left _ c.in_ok-rate.rate c.loop-i-test.true e);
      last = rw c.in_ok-push.ensures.items (sym (last_added c.loop-i.list.items c.in_ok-rate.rate));
    }

pub returns : goal.returns
returns g c = c.loop-i.invariant.sound ∙ ends next_rate c.args.count c.loop-i.i c.loop-i.list.items c.loop-i.left (omega arith)
