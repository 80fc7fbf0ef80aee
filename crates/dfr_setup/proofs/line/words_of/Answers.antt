use Rattle.std.proofs.Common.{rules, length}
use Rattle.std.specs.Prelude.{◌==◌, not}
use Rattle.std.proofs.lemmas.Iterator.Consumers.{map_from_collect, YieldsList-at, YieldsList-from_filter}
use Rattle.std.proofs.lemmas.Iterator.Splits.{YieldsList-from_slice_split}
use Rattle.comtrade_values.specs.Spelling.{is_blank}
use Rattle.dfr_setup.proofs.line.words_of.Goals as goal

pub returns : goal.returns
returns g c = map_from_collect _ c.collect.ensures.ran
    (YieldsList-from_filter _ (λ w. not (length w == 0))
    (YieldsList-at c.filter.ensures.source (YieldsList-from_slice_split _ is_blank c.args.line.now c.split.ensures.rest c.split.ensures.done c.split.ensures.closure (λ x b q k. search rules)))
    c.filter.ensures.closure (λ x b q k. search rules))
