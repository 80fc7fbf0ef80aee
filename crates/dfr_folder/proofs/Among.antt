-- Pairs of records, among more records.
use Rattle.std.proofs.Common.{List, ◌∷◌, [], ℕ, Option, Some, None}
use Rattle.std.proofs.lemmas.List.Elements.{Contains-append_right}
use Rattle.dfr_folder.specs.declared.name.Key.{Key}
use Rattle.dfr_folder.specs.Directory.{Content}
use Rattle.dfr_folder.specs.Pairs.{under, found, recovered, IsRecord, AllWhole}

more : (r : Key × List ℕ × List ℕ) (records : List (Key × List ℕ × List ℕ)) (key : Key) (o : Option (List ℕ × Option (List ℕ))) → IsRecord records key o → IsRecord (r ∷ records) key o
more r records key None is = tt
more r records key (Some p) is = (is.0, is.1, Contains-append_right (r ∷ []) records (key, p.0, is.0) is.2)

pub among_more : (r : Key × List ℕ × List ℕ) (records : List (Key × List ℕ × List ℕ)) (c : Content) → AllWhole records c → AllWhole (r ∷ records) c
among_more r records c all = record { shown = λ k. more r records k (found (under c k)) (all.shown k); mended = λ k. more r records k (recovered (under c k)) (all.mended k) }
