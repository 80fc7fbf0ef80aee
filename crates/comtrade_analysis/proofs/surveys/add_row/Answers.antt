use Rattle.std.proofs.Common.{ℕ, ◌+◌, ◌<◌, length, sym, arith}
use Rattle.comtrade_analysis.specs.Surveys.{IsSurvey}
use Rattle.comtrade_analysis.specs.declared.surveys.Survey.{Survey}
use Rattle.comtrade_analysis.proofs.InPlace.{written, unwritten}
use Rattle.comtrade_analysis.proofs.surveys.add_row.Goals as goal

pub loop-channel-preserved : goal.loop-channel-preserved
loop-channel-preserved g c =
    let rows = c.args.rows.now in
    let row = c.args.row in
    let i = c.loop-channel.channel in
    let xs = c.loop-channel.surveys in
    let within : i < length xs = omega arith in
    record {
      done = written xs i c.with.result (λ (k : ℕ) (s : Survey). IsSurvey rows k (row + 1) s) within c.loop-channel.invariant.done
          (c.with.ensures rows i (sym c.sample_at.ensures) (c.loop-channel.invariant.rest i _ (omega arith) within));
      rest = unwritten xs i c.with.result (λ (k : ℕ) (s : Survey). IsSurvey rows k row s) c.loop-channel.invariant.rest;
    }
