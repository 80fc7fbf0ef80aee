use Rattle.std.proofs.Common.{◌≡◌, Option, Some, ℤ, subst}
use Rattle.dfr_folder.specs.Dated.{HasYear, IsDated}
use Rattle.dfr_folder.specs.declared.name.Key.{Key}
use Rattle.dfr_folder.proofs.DatedLemmas.{has_civil, names_sort}
use Rattle.dfr_station.specs.Names.{IsDatedBy, trigger_shown}
use Rattle.dfr_station.proofs.naming.records_sort.Goals as goal

dated : (shown : Option ℤ) (x : ℤ) (key : Key) → IsDatedBy shown key → shown ≡ Some x → HasYear x → IsDated x key
dated shown x key named is has = subst (λ (at : Option ℤ). IsDatedBy at key) is named (has_civil x has)

pub returns : goal.returns
returns c = λ layout second r s e f x y a b first other is are has have less.
    names_sort x y a b has have
    (dated (trigger_shown layout r e) x a.key first.2 is has)
    (dated (trigger_shown second s f) y b.key other.2 are have)
    less
