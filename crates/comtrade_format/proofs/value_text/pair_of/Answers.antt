use Rattle.comtrade_format.proofs.Pairs.{are_pairs, pair_at}
use Rattle.comtrade_format.proofs.value_text.pair_of.Goals as goal

pub returns : goal.returns
unfolding are_pairs
returns c = search (c.requires, pair_at)
