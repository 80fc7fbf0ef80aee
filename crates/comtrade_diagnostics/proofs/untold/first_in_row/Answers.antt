use Rattle.std.proofs.Common.{rules, ◌≡◌, ℕ, ◌<◌, ◌≤◌, arith, length, inl, inr}
use Rattle.std.specs.Prelude.{slice_get}
use Rattle.std.proofs.lemmas.Bool.{cases_lt}
use Rattle.std.proofs.lemmas.Option.{slice_get_past}
use Rattle.comtrade_diagnostics.specs.Told as spec
use Rattle.comtrade_diagnostics.proofs.Told.{below_more}
use Rattle.comtrade_diagnostics.proofs.untold.first_in_row.Goals as goal

pub loop-channel-preserved : goal.loop-channel-preserved
loop-channel-preserved g c =
    let n = c.loop-channel.channel in
    let here : spec.IsToldAt c.args.notes.now c.args.unfit.now c.args.row n (slice_get c.args.own.now n) (slice_get c.args.written.now n) =
    rw (← c.at-x.ensures, ← c.at-y.ensures) (c.is_told_at.ensures.0 (search rules)) in
    below_more (λ k. spec.IsToldAt c.args.notes.now c.args.unfit.now c.args.row k (slice_get c.args.own.now k) (slice_get c.args.written.now k)) n c.loop-channel.invariant here
