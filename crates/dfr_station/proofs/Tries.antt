-- How often a pair is handed to the store.
use Rattle.std.proofs.Common.{◌≡◌, List, ◌∷◌, inl, inr, ◌∙◌, ap}
use Rattle.dfr_live.specs.Devices.{FilesParts}
use Rattle.dfr_station.specs.Input.{one_more}
use Rattle.dfr_station.specs.Storing.{StoresOf, Exporting, Refused, StoredOrGivenUp, TriedPair}
use Rattle.dfr_folder.specs.declared.name.Key.{Key}
use Rattle.dfr_station.specs.declared.event.Trouble.{Trouble}
use Rattle.dfr_station.specs.declared.outlet.Tried.TheVariants as tried

module _ {K : Type 0} (Stores : StoresOf K) (key : Key) (files : FilesParts) where
  -- the store did not take the files until now
  abbrev pub TriedSoFar : Exporting K → Exporting K → Type 0
  TriedSoFar s m = (m ≡ record s { store = m.store }) × ((troubles : List Trouble) × Refused Stores key files s.store troubles m.store)

  pub tried_again : (s m t : Exporting K) → TriedSoFar s m → TriedPair Stores key files m tried.Again t → TriedSoFar s t
  tried_again s m t far one =
      (one.2 ∙ ap (λ (x : Exporting K). record x { store = t.store }) far.0, (one.0 ∷ far.1.0, (m.store, far.1.1, one.1)))

  pub tried_stored : (s m t : Exporting K) → TriedSoFar s m → TriedPair Stores key files m tried.Stored t → StoredOrGivenUp Stores key files s t
  tried_stored s m t far one =
      let records : m.records ≡ s.records = ap (λ (x : Exporting K). x.records) far.0 in
      let unwritten : m.unwritten ≡ s.unwritten = ap (λ (x : Exporting K). x.unwritten) far.0 in (
        far.1.0,
        m.store,
        far.1.1,
        ap (λ (x : Exporting K). x.dating) one.2 ∙ ap (λ (x : Exporting K). x.dating) far.0,
        inl (one.0, one.1, ap (λ (x : Exporting K). x.records) one.2 ∙ ap one_more records, ap (λ (x : Exporting K). x.unwritten) one.2 ∙ unwritten),
      )

  pub given_up : (s m t : Exporting K) → TriedSoFar s m → TriedPair Stores key files m tried.GivenUp t → StoredOrGivenUp Stores key files s t
  given_up s m t far one =
      let records : m.records ≡ s.records = ap (λ (x : Exporting K). x.records) far.0 in
      let unwritten : m.unwritten ≡ s.unwritten = ap (λ (x : Exporting K). x.unwritten) far.0 in (
        far.1.0,
        m.store,
        far.1.1,
        ap (λ (x : Exporting K). x.dating) one.2 ∙ ap (λ (x : Exporting K). x.dating) far.0,
        inr (one.0, one.1, ap (λ (x : Exporting K). x.records) one.2 ∙ records, ap (λ (x : Exporting K). x.unwritten) one.2 ∙ ap one_more unwritten),
      )
