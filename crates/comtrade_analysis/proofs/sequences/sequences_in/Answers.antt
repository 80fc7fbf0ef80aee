use Rattle.std.proofs.Common.{◌≡◌, ℕ, ◌+◌, List, length, [], ◌∷◌, ◌++◌, Some, sym, ap, ◌∙◌, subst, arith}
use Rattle.std.specs.List.{All, filter_map, range_with_len}
use Rattle.std.proofs.lemmas.List.Elements.{All-push}
use Rattle.comtrade_analysis.specs.Sequences.{sequence_at, ArePhases}
use Rattle.comtrade_analysis.specs.declared.sequences.Sequence.{Sequence}
use Rattle.comtrade_analysis.proofs.PhasesFound.{sequence_is}
use Rattle.comtrade_analysis.proofs.Ranges.{some_more, none_more}
use Rattle.comtrade_analysis.proofs.sequences.sequences_in.Goals as goal
use Rattle.comtrade_analysis.proofs.sequences.sequences_in.Goals.{in-Some+in_ok-push, in_default}

pub loop-place-preserved : goal.loop-place-preserved
loop-place-preserved g c =
    let channels = c.args.channels.now in
    let n = c.loop-place.place in
    let old = c.loop-place.sequences.items in
    elim c.match-sequence_at.branch [
      | in-Some+in_ok-push w ↦
          let s = w.in-Some.sequence in
          let at : sequence_at channels n ≡ Some s = sym c.sequence_at.ensures ∙ w.in-Some.is in
          let items : c.match-sequence_at.sequences.items ≡ old ++ s ∷ [] = rw w.sequences-is w.in_ok-push.ensures.items in
          let step : filter_map (sequence_at channels) (range_with_len 0 (n + 1)) ≡ filter_map (sequence_at channels) (range_with_len 0 n) ++ s ∷ [] =
          some_more (sequence_at channels) 0 n n s (omega arith) at in
          record {
            all = items ∙ ap (λ (xs : List Sequence). xs ++ s ∷ []) c.loop-place.invariant.all ∙ sym step;
            phases = subst (λ (xs : List Sequence). All (ArePhases channels) xs) (sym items)
                (All-push (ArePhases channels) old s c.loop-place.invariant.phases (sequence_is channels n s at));
          }
      | in_default w ↦
          let step : filter_map (sequence_at channels) (range_with_len 0 (n + 1)) ≡ filter_map (sequence_at channels) (range_with_len 0 n) =
          none_more (sequence_at channels) 0 n n (omega arith) (sym c.sequence_at.ensures ∙ w.in_default.is) in
          record {
            all = rw (w.sequences-is, c.loop-place.invariant.all) (sym step);
            phases = rw w.sequences-is c.loop-place.invariant.phases;
          }
    ]

pub returns-clause-all : goal.returns-clause-all
returns-clause-all g c =
    let channels = c.args.channels.now in
    let last : c.loop-place.place ≡ length channels = omega arith in
    c.loop-place.invariant.all ∙ ap (λ (n : ℕ). filter_map (sequence_at channels) (range_with_len 0 n)) last
