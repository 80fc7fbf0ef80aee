use Rattle.std.proofs.Common.{rules}
use Rattle.std.specs.Prelude.{◌==◌}
use Rattle.comtrade_values.specs.Spelling.{trimmed}
use Rattle.std.proofs.lemmas.Iterator.{YieldsList-from_map_by}
use Rattle.std.proofs.lemmas.Iterator.Consumers.{map_from_collect, YieldsList-at}
use Rattle.std.proofs.lemmas.Iterator.Splits.{YieldsList-from_slice_split}
use Rattle.comtrade_values.proofs.lines.fields_of.Goals as goal

pub returns : goal.returns
returns g c = map_from_collect _ c.collect.ensures.ran
    (YieldsList-from_map_by _ (λ x. x.now) trimmed
    (YieldsList-at c.map.ensures.source (YieldsList-from_slice_split _ (λ b. b == 44) c.args.line.now c.split.ensures.rest c.split.ensures.done c.split.ensures.closure (λ x b q k. search rules)))
    c.map.ensures.closure (λ x r q k. search rules))
