-- The order of keys puts the earlier date or time of day first.
use Rattle.std.proofs.Common.{◌≡◌, ℕ, true, List, inl, inr, arith}
use Rattle.std.specs.Prelude.{IsSortedByKey, slice_index_or}
use Rattle.std.specs.Ordering.{is_lt}
use Rattle.std.specs.declared.cmp.Ordering.{Ordering}
use Rattle.std.proofs.lemmas.Grind.{common_steps}
use Rattle.std.proofs.lemmas.List.Sorted.{ranks_by, sorted_far}
use Rattle.dfr_folder.specs.declared.name.Key.{Key}
use Rattle.dfr_folder.specs.contracts.name.KeyOrd.TheImpl as key_ord
use Rattle.dfr_folder.specs.contracts.name.KeyOrd.TheImpl.Laws.{total-law}
use Rattle.dfr_folder.specs.Sorting.{AreOldestFirst, IsEarlier}
use Rattle.dfr_folder.proofs.SeenLemmas.{true_false}

abbrev pub keys : Key → Key → Ordering
keys = (key_ord.ghosts).cmp

earlier_less : (a b : Key) → IsEarlier a b → is_lt (keys a b) ≡ true
earlier_less a b (inl date) = grind (arith, common_steps)
earlier_less a b (inr (date, inl time)) = grind (arith, common_steps)
earlier_less a b (inr (date, inr micros)) = grind (arith, common_steps)

pub oldest_first : (pairs : List (Key × ℕ)) → IsSortedByKey (λ (pair : Key × ℕ). pair.0) keys pairs → AreOldestFirst pairs
oldest_first pairs up i j d le lt e =
    let later = (slice_index_or pairs j d).0 in
    let before = (slice_index_or pairs i d).0 in
    true_false (sorted_far (λ x y. is_lt (keys x.0 y.0)) (ranks_by total-law (λ (pair : Key × ℕ). pair.0)) pairs up i j d le lt) (earlier_less later before e)
