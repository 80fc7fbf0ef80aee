use Rattle.std.proofs.Common.{◌≡◌, true}
use Rattle.std.proofs.lemmas.List.Elements.{All-push}
use Rattle.dfr_folder.specs.declared.name.Seen.{Seen}
use Rattle.dfr_folder.proofs.SeenLemmas.{both}
use Rattle.dfr_folder.proofs.seen.add_found.Goals as goal

pub returns : goal.returns
returns c = λ are.
    let is = both c.args.found.now.are_synced c.args.synced are in
    rw c.in_ok-push.ensures.items (All-push (λ (seen : Seen). seen.synced ≡ true) c.args.found.now.names.items _ (c.requires is.0) is.1)
