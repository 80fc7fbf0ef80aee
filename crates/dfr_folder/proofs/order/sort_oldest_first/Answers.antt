use Rattle.std.proofs.Common.{◌≡◌, rules}
use Rattle.std.proofs.lemmas.List.Sorted.{answers_always}
use Rattle.dfr_folder.proofs.DatedLemmas.{instants_in_order}
use Rattle.dfr_folder.proofs.OrderLemmas.{oldest_first}
use Rattle.dfr_folder.proofs.order.sort_oldest_first.Goals as goal

pub returns-clause-oldest : goal.returns-clause-oldest
returns-clause-oldest c = oldest_first _ (c.sort_unstable_by_key.ensures.sorted (λ pair. pair.0) (answers_always _ (λ a r. r ≡ a.0.now.0) _ (λ f a r q k. search rules)))

pub returns-clause-instants : goal.returns-clause-instants
returns-clause-instants c = instants_in_order _ (oldest_first _ (c.sort_unstable_by_key.ensures.sorted (λ pair. pair.0) (answers_always _ (λ a r. r ≡ a.0.now.0) _ (λ f a r q k. search rules))))
