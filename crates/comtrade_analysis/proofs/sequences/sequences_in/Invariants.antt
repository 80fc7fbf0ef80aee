use Rattle.std.proofs.Common.{◌≡◌}
use Rattle.std.specs.List.{All, filter_map, range_with_len}
use Rattle.comtrade_analysis.specs.Sequences.{sequence_at, ArePhases}
use Rattle.comtrade_analysis.proofs.sequences.sequences_in.Given as goal

abbrev pub invariant-loop-place : goal.invariant-loop-place
invariant-loop-place g l = record {
  all : l.sequences.items ≡ filter_map (sequence_at l.channels) (range_with_len 0 l.place);
  phases : All (ArePhases l.channels) l.sequences.items;
}
