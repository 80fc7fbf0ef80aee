-- Changes handed on one after the other.
use Rattle.std.proofs.Common.{◌≡◌, ℕ, ◌+◌, ◌<◌, length, take, List, [], ◌∷◌, ◌++◌, reverse, slice_index_or, sym, subst}
use Rattle.std.proofs.lemmas.List.{reverse-append, take_more}
use Rattle.dfr_live.specs.Devices.{Came}
use Rattle.dfr_sequence.specs.declared.change.Change.{Change}
use Rattle.dfr_station.specs.Handed.{Handed, HandsOne}

handed_more : (s m t : Handed) (told : List Change) (c : Change)
    → Came HandsOne s (reverse told) m → HandsOne m c t → Came HandsOne s (reverse (told ++ c ∷ [])) t
handed_more s m t told c far one = subst (λ (l : List Change). Came HandsOne s l t) (sym (reverse-append told (c ∷ []))) (m, far, one)

-- the first i were handed on, and then the next one
pub handed_next : (s m t : Handed) (told : List Change) (i : ℕ) (d : Change) → i < length told
    → Came HandsOne s (reverse (take i told)) m → HandsOne m (slice_index_or told i d) t → Came HandsOne s (reverse (take (i + 1) told)) t
handed_next s m t told i d below far one =
    subst (λ (l : List Change). Came HandsOne s (reverse l) t) (sym (take_more told i d below)) (handed_more s m t (take i told) (slice_index_or told i d) far one)
