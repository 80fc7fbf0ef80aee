use Rattle.std.proofs.Common.{◌≡◌, ◌+◌, List, [], ◌∷◌, ◌++◌, Some, None, option_map, sym, ap, ◌∙◌, arith}
use Rattle.std.proofs.lemmas.List.{map_push}
use Rattle.comtrade_analysis.specs.Outages.{Run, run_of, outage_at, outages_before}
use Rattle.comtrade_analysis.proofs.Ranges.{some_more, none_more}
use Rattle.comtrade_analysis.proofs.outages.outages_of.Goals as goal
use Rattle.comtrade_analysis.proofs.outages.outages_of.Goals.{in-Some+in_ok-push, in_default}

pub loop-row-preserved : goal.loop-row-preserved
loop-row-preserved g c =
    let rows = c.args.rows.now in
    let n = c.loop-row.row in
    let old = c.loop-row.outages.items in
    elim c.match-outage_at.branch [
      | in-Some+in_ok-push w ↦
          let run : Run = run_of w.in-Some.outage in
          let at : outage_at rows n ≡ Some run = sym c.outage_at.ensures ∙ ap (option_map run_of) w.in-Some.is in
          let step : outages_before rows (n + 1) ≡ outages_before rows n ++ run ∷ [] = some_more (outage_at rows) 0 n n run (omega arith) at in
          rw (w.outages-is, w.in_ok-push.ensures.items)
          (map_push run_of old w.in-Some.outage ∙ ap (λ (xs : List Run). xs ++ run ∷ []) c.loop-row.invariant ∙ sym step)
      | in_default w ↦
          let at : outage_at rows n ≡ None = sym c.outage_at.ensures ∙ ap (option_map run_of) w.in_default.is in
          let step : outages_before rows (n + 1) ≡ outages_before rows n = none_more (outage_at rows) 0 n n (omega arith) at in
          rw w.outages-is (c.loop-row.invariant ∙ sym step)
    ]
