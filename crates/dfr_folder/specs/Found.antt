-- What is known of the files of a folder as it is opened.
use Rattle.std.specs.Prelude.{◌≡◌, true, All}
use Rattle.dfr_folder.specs.declared.name.Seen.{Seen}
use Rattle.dfr_folder.specs.declared.seen.Found.{Found}

-- if it is so noted, the bytes of all files are on the disk
abbrev pub AreAll : Found → Type 0
AreAll found = found.are_synced ≡ true → All (λ (seen : Seen). seen.synced ≡ true) found.names.items
