-- All contacts of a recording.
use Rattle.std.specs.Prelude.{◌≡◌, ℕ, ◌+◌, Bool, Option, Some, None, List, [], ◌∷◌, ◌++◌, map}
use Rattle.dfr_sequence.specs.Scans.{Scan, Came, came, newest, place_after, placed}
use Rattle.dfr_sequence.specs.Contacts as contact
use Rattle.dfr_sequence.specs.Contacts.{Wanted, wanted, kept, told_now}
use Rattle.dfr_sequence.specs.declared.place.Place.{Place}
use Rattle.dfr_sequence.specs.declared.change.Limit.{Limit}
use Rattle.dfr_sequence.specs.declared.change.Change.{Change}

-- contacts with these normal states, counted from i
abbrev pub all_wanted : Limit → ℕ → List Bool → List Wanted
all_wanted limit i [] = []
all_wanted limit i (normal ∷ rest) = wanted i limit normal ∷ all_wanted limit (i + 1) rest

-- what is kept of contacts
abbrev pub all_kept : List Wanted → List Came → List contact.Kept
all_kept ws past = map (λ w. kept w past) ws

abbrev pub listed : Option Change → List Change
listed None = []
listed (Some change) = change ∷ []

-- what is told at the newest scan, in the order of the contacts
abbrev pub all_told : List Wanted → Came → List Came → List Change
all_told [] now past = []
all_told (w ∷ ws) now past = listed (told_now w now past) ++ all_told ws now past

-- for every history of which `old` is kept, this is told at the next scan, after `before`, and `new` is kept after it
abbrev pub AreSteps : List contact.Kept → Place → List Bool → List Change → List Change → List contact.Kept → Type 0
AreSteps old place bits before after new =
    (ws : List Wanted) (past : List Came) → all_kept ws past ≡ old
    → (before ++ all_told ws (came place bits) past ≡ after) × (all_kept ws (came place bits ∷ past) ≡ new)

-- what a sequence of events keeps: the number of the newest scan, and what the contacts keep
pub record Kept : Type 0 where
  pub newest : Option ℕ
  pub contacts : List contact.Kept

abbrev pub kept_by : Option ℕ → List contact.Kept → Kept
kept_by newest contacts = record { newest = newest; contacts = contacts }

abbrev pub sequence : List Wanted → List Scan → Kept
sequence ws past = kept_by (newest past) (all_kept ws (placed past))

abbrev pub scan : ℕ → List Bool → Scan
scan number bits = record { number = number; bits = bits }

-- what is told at a scan that comes after others
abbrev pub told_at : List Wanted → Scan → List Scan → List Change
told_at ws now past = all_told ws (came (place_after (newest past) now.number) now.bits) (placed past)

-- for every recording of which `old` is kept, this is told at the next scan, after `before`, and `new` is kept after it
abbrev pub IsTold : Kept → ℕ → List Bool → List Change → List Change → Kept → Type 0
IsTold old number bits before after new =
    (ws : List Wanted) (past : List Scan) → sequence ws past ≡ old
    → (before ++ told_at ws (scan number bits) past ≡ after) × (sequence ws (scan number bits ∷ past) ≡ new)
