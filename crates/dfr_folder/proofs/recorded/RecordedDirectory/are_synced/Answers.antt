use Rattle.std.proofs.Common.{◌≡◌, List, sym, ◌∙◌, subst}
use Rattle.dfr_folder.specs.declared.name.Ending.{Ending}
use Rattle.dfr_folder.specs.declared.name.Seen.{Seen}
use Rattle.dfr_folder.specs.Pairs.{bytes_of, name, synced}
use Rattle.dfr_folder.specs.Events.{files_of}
use Rattle.dfr_folder.proofs.RecordedLemmas.{on_disk, back_on_disk}
use Rattle.dfr_folder.proofs.recorded.RecordedDirectory.are_synced.Goals as goal

pub returns-clause-synced : goal.returns-clause-synced
returns-clause-synced g c =
    let first = g.S.Start.bytes in
    let events = c.args.self.now.log.calls in
    let key = c.args.key in
    let are = c.are_synced_in-are.ensures in
    let same = c.deref.ensures.value in (
      λ yes. subst (λ (names : List Seen). (end : Ending) → files_of first names events (name key end) ≡ synced (bytes_of (files_of first names events (name key end)))) same
          (on_disk first c.deref.result.now events key (sym are ∙ yes)),
      λ disk. are ∙ back_on_disk first c.deref.result.now events key
          (subst (λ (names : List Seen). (end : Ending) → files_of first names events (name key end) ≡ synced (bytes_of (files_of first names events (name key end)))) (sym same) disk),
    )
