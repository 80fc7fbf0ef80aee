use Rattle.std.proofs.Common.{◌≡◌, ◌+◌, List, [], ◌∷◌, ◌++◌, Some, None, option_map, sym, ap, ◌∙◌, arith}
use Rattle.std.proofs.lemmas.List.{map_push}
use Rattle.comtrade_analysis.specs.Gaps.{Run, run_of, gap_at, gaps_before}
use Rattle.comtrade_analysis.proofs.Ranges.{some_more, none_more}
use Rattle.comtrade_analysis.proofs.gaps.gaps_of.Goals as goal
use Rattle.comtrade_analysis.proofs.gaps.gaps_of.Goals.{in-Some+in_ok-push, in_default}

pub loop-row-preserved : goal.loop-row-preserved
loop-row-preserved g c =
    let rows = c.args.rows.now in
    let channel = c.args.channel in
    let n = c.loop-row.row in
    let old = c.loop-row.gaps.items in
    elim c.match-gap_at.branch [
      | in-Some+in_ok-push w ↦
          let run : Run = run_of w.in-Some.gap in
          let at : gap_at rows channel n ≡ Some run = sym c.gap_at.ensures ∙ ap (option_map run_of) w.in-Some.is in
          let step : gaps_before rows channel (n + 1) ≡ gaps_before rows channel n ++ run ∷ [] = some_more (gap_at rows channel) 0 n n run (omega arith) at in
          rw (w.gaps-is, w.in_ok-push.ensures.items)
          (map_push run_of old w.in-Some.gap ∙ ap (λ (xs : List Run). xs ++ run ∷ []) c.loop-row.invariant ∙ sym step)
      | in_default w ↦
          let at : gap_at rows channel n ≡ None = sym c.gap_at.ensures ∙ ap (option_map run_of) w.in_default.is in
          let step : gaps_before rows channel (n + 1) ≡ gaps_before rows channel n = none_more (gap_at rows channel) 0 n n (omega arith) at in
          rw w.gaps-is (c.loop-row.invariant ∙ sym step)
    ]
