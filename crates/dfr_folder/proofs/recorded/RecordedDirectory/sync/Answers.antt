use Rattle.std.proofs.Common.{Option, sym, ◌∙◌, ap}
use Rattle.std.specs.Prelude.{Bool}
use Rattle.dfr_folder.specs.Events.{bytes_under, file_of}
use Rattle.dfr_folder.proofs.SeenLemmas.{Some_not_None}
use Rattle.dfr_folder.proofs.recorded.RecordedDirectory.sync.Goals as goal

pub sync_in-requires : goal.sync_in-requires
sync_in-requires g c =
    let bytes = bytes_under g.S.Start.bytes c.args.self.now.log.calls c.args.name in
    record { there = λ none. Some_not_None _ (sym c.requires.written ∙ ap (λ (o : Option Bool). file_of o bytes) none) }
