-- What proofs see of a folder with its calls.
use Rattle.std.specs.Prelude.{◌≡◌, Bool, true, false, List, [], ◌∷◌, None}
use Rattle.dfr_folder.specs.declared.call.Call.TheVariants as call
use Rattle.dfr_folder.specs.declared.name.Name.{Name}
use Rattle.dfr_folder.specs.declared.name.Seen.{Seen}
use Rattle.dfr_folder.specs.declared.recorded.Recorded.{Recorded}
use Rattle.dfr_folder.specs.Events.{Event, event_of, state_of}
use Rattle.dfr_folder.specs.Pairs.{is_leftover}

module _ {C S : Type 0} where
  abbrev pub names_of : Recorded C S → List Seen
  names_of opened = opened.names.items

  abbrev pub log_of : Recorded C S → List Event
  log_of opened = opened.log.calls

-- no file that is being written or removed is there
abbrev pub HasNoLeftover : List Seen → Type 0
HasNoLeftover there = (n : Name) → is_leftover n.ending ≡ true → state_of there n ≡ None

-- one failure more, if a file could not be synced as the folder was opened
abbrev pub opened_log : Bool → List Seen → List Event → List Event
opened_log true there calls = calls
opened_log false there calls = event_of (call.Failed ∷ []) there [] ∷ calls
