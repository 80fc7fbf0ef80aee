-- What a reader finds under a key, and what recovery makes of it.
use Rattle.std.specs.Prelude.{◌≡◌, ◌⊎◌, ℕ, Bool, true, false, List, [], ◌∷◌, ◌++◌, Option, Some, None, is_some, Contains}
use Rattle.dfr_folder.specs.declared.name.Ending.{Ending}
use Rattle.dfr_folder.specs.declared.name.Ending.TheVariants as ending
use Rattle.dfr_folder.specs.declared.name.Key.{Key}
use Rattle.dfr_folder.specs.declared.name.Name.{Name}
use Rattle.dfr_folder.specs.declared.name.Names.{Names}
use Rattle.dfr_folder.specs.Directory.{Content, File, IsFresh, on_disk}

-- the files of one key
abbrev pub Files : Type 0
Files = Ending → Option (List ℕ)

abbrev pub name : Key → Ending → Name
name key end = record { key = key; ending = end }

abbrev pub under : Content → Key → Files
under c key end = c (name key end)

-- no file
abbrev pub nothing : Files
nothing end = None

-- a configuration file, and its data file if there is one
abbrev pub found_of : Option (List ℕ) → Option (List ℕ) → Option (List ℕ × Option (List ℕ))
found_of None dat = None
found_of (Some cfg) dat = Some (cfg, dat)

-- what a reader finds who looks for configuration files
abbrev pub found : Files → Option (List ℕ × Option (List ℕ))
found files = found_of (files ending.Config) (files ending.Data)

-- The configuration file and the data file that recovery leaves of a `.cfg`, `.dat`, `.cfg.gone`, `.cfg.part` and `.dat.part`:
abbrev pub tidied_of : Option (List ℕ) → Option (List ℕ) → Option (List ℕ) → Option (List ℕ) → Option (List ℕ) → Option (List ℕ) × Option (List ℕ)
tidied_of (Some cfg) (Some dat) leaving cfg_part dat_part = (Some cfg, Some dat)
-- the data file gets its name, if it is there
tidied_of (Some cfg) None leaving cfg_part dat_part = (Some cfg, dat_part)
-- a pair that was being removed is removed
tidied_of None dat (Some cfg) cfg_part dat_part = (None, None)
-- both files were written before the data file got its name: the configuration file gets its own
tidied_of None (Some dat) None (Some cfg) dat_part = (Some cfg, Some dat)
-- a data file that is alone stays: it may be all that there is of a fault
tidied_of None (Some dat) None None dat_part = (None, Some dat)
tidied_of None None None cfg_part dat_part = (None, None)

-- the two files, and no others
abbrev pub only : Option (List ℕ) × Option (List ℕ) → Files
only both ending.Config = both.0
only both ending.Data = both.1
only both ending.ConfigPart = None
only both ending.DataPart = None
only both ending.Gone = None

-- the files that recovery leaves
abbrev pub tidied : Files → Files
tidied files = only (tidied_of (files ending.Config) (files ending.Data) (files ending.Gone) (files ending.ConfigPart) (files ending.DataPart))

-- what a reader finds after recovery
abbrev pub recovered_of : Option (List ℕ) → Option (List ℕ) → Option (List ℕ) → Option (List ℕ) → Option (List ℕ) → Option (List ℕ × Option (List ℕ))
recovered_of cfg dat leaving cfg_part dat_part =
    let both = tidied_of cfg dat leaving cfg_part dat_part in found_of both.0 both.1

abbrev pub recovered : Files → Option (List ℕ × Option (List ℕ))
recovered files = recovered_of (files ending.Config) (files ending.Data) (files ending.Gone) (files ending.ConfigPart) (files ending.DataPart)

-- what recovery ends
abbrev pub is_leftover : Ending → Bool
is_leftover ending.Config = false
is_leftover ending.Data = false
is_leftover ending.ConfigPart = true
is_leftover ending.DataPart = true
is_leftover ending.Gone = true

-- No pair, or this one: who looks finds none or the whole pair, and so does who recovers first.
pub record IsNoneOr (pair : Option (List ℕ × Option (List ℕ))) (files : Files) : Type 0 where
  pub shown : (found files ≡ None) ⊎ (found files ≡ pair)
  pub mended : (recovered files ≡ None) ⊎ (recovered files ≡ pair)

-- a crash left what it might have left before, but for the files of one key, which have P
pub record Beside {D : Type 0} (may_leave : D → Content → Type 0) (old : D) (key : Key) (P : Files → Type 0) (c : Content) : Type 0 where
  pub before : Content
  pub left : may_leave old before
  pub elsewhere : (n : Name) → (n.key ≡ key → ⊥) → c n ≡ before n
  pub there : P (under c key)

-- a crash left what it might have left before, but for the files of one key
abbrev pub OthersStay : {D : Type 0} → (D → Content → Type 0) → D → Key → Content → Type 0
OthersStay may_leave old key c = (d : Content) × may_leave old d × ((n : Name) → (n.key ≡ key → ⊥) → c n ≡ d n)

-- no name of the key is in use, and no crash leaves one
abbrev pub IsFree : {D : Type 0} → (D → Name → Option File) → (D → Content → Type 0) → D → Key → Type 0
IsFree files may_leave directory key = (end : Ending) → IsFresh files may_leave directory (name key end)

-- the files of a pair
abbrev pub pair : List ℕ → List ℕ → Files
pair cfg dat ending.Config = Some cfg
pair cfg dat ending.Data = Some dat
pair cfg dat ending.ConfigPart = None
pair cfg dat ending.DataPart = None
pair cfg dat ending.Gone = None

abbrev pub synced : Option (List ℕ) → Option File
synced None = None
synced (Some bytes) = on_disk bytes

-- the key has these files, all on the disk: every crash leaves them
pub record Rests {D : Type 0} (files : D → Name → Option File) (may_leave : D → Content → Type 0) (directory : D) (key : Key) (have : Files) : Type 0 where
  pub seen : (end : Ending) → files directory (name key end) ≡ synced (have end)
  pub left : (c : Content) → may_leave directory c → (end : Ending) → c (name key end) ≡ have end

abbrev pub bytes_of : Option File → Option (List ℕ)
bytes_of None = None
bytes_of (Some file) = Some file.bytes

-- the files that are seen under a key
abbrev pub seen : {D : Type 0} → (D → Name → Option File) → D → Key → Files
seen files directory key end = bytes_of (files directory (name key end))

-- the bytes of the key's files are on the disk
abbrev pub AreSynced : {D : Type 0} → (D → Name → Option File) → D → Key → Type 0
AreSynced files directory key = (end : Ending) → files directory (name key end) ≡ synced (seen files directory key end)

-- what is seen under the key is on the disk
abbrev pub IsAtRest : {D : Type 0} → (D → Name → Option File) → (D → Content → Type 0) → D → Key → Type 0
IsAtRest files may_leave directory key = Rests files may_leave directory key (seen files directory key)

-- Recovery makes the same of both. Who looks finds what there was, or what recovery makes of it.
pub record IsMending (old new : Files) : Type 0 where
  pub mended : recovered new ≡ recovered old
  pub shown : (found new ≡ found old) ⊎ (found new ≡ recovered old)

-- the files of what a reader finds, and no others
abbrev pub kept : Option (List ℕ × Option (List ℕ)) → Files
kept None end = None
kept (Some found) ending.Config = Some found.0
kept (Some found) ending.Data = found.1
kept (Some found) ending.ConfigPart = None
kept (Some found) ending.DataPart = None
kept (Some found) ending.Gone = None

-- which files of a key there are
pub record AreNames (have : Files) (names : Names) : Type 0 where
  pub cfg : names.cfg ≡ is_some (have ending.Config)
  pub dat : names.dat ≡ is_some (have ending.Data)
  pub cfg_part : names.cfg_part ≡ is_some (have ending.ConfigPart)
  pub dat_part : names.dat_part ≡ is_some (have ending.DataPart)
  pub gone : names.gone ≡ is_some (have ending.Gone)

-- there is what a reader finds, and no leftover
abbrev pub IsTidy : Files → Type 0
IsTidy have = (end : Ending) → have end ≡ kept (found have) end

-- There is a configuration file and no leftover, and the bytes of all are on the disk.
pub record IsWhole {D : Type 0} (files : D → Name → Option File) (directory : D) (key : Key) : Type 0 where
  pub config : seen files directory key ending.Config ≡ None → ⊥
  pub tidy : IsTidy (seen files directory key)
  pub synced : AreSynced files directory key

-- recovery makes the same of each key's files
abbrev pub AllMend : {D : Type 0} → (D → Name → Option File) → D → Content → Type 0
AllMend files old c = (key : Key) → IsMending (seen files old key) (under c key)

-- Recovery makes the same of each key's files as it would have of one of these contents.
abbrev pub Mends : (Content → Type 0) → Content → Type 0
Mends might_leave c = (before : Content) × might_leave before × ((key : Key) → IsMending (under before key) (under c key))

-- The same, of one content that a crash might have left.
abbrev pub MendsOne : {D : Type 0} → (D → Content → Type 0) → D → Content → Type 0
MendsOne may_leave old c = Mends (may_leave old) c

-- no key comes twice
abbrev pub IsDistinct : List Key → Type 0
IsDistinct [] = Unit {0}
IsDistinct (key ∷ keys) = (Contains keys key → ⊥) × IsDistinct keys

abbrev pub IsHead : List Key → Key → Type 0
IsHead [] key = ⊥
IsHead (first ∷ keys) key = key ≡ first

-- Some of the oldest pairs are given up. The next is there, whole, or not at all. All else is as before.
pub record GivesUp {D : Type 0} (files : D → Name → Option File) (may_leave : D → Content → Type 0) (old : D) (keys : List Key) (c : Content) : Type 0 where
  pub front : List Key
  pub younger : List Key
  pub split : keys ≡ front ++ younger
  pub gone : (key : Key) → Contains front key → (found (under c key) ≡ None) × (recovered (under c key) ≡ None)
  pub next : (key : Key) → IsHead younger key → IsNoneOr (found (seen files old key)) (under c key)
  pub before : Content
  pub left : may_leave old before
  pub elsewhere : (n : Name) → (Contains front n.key → ⊥) → (IsHead younger n.key → ⊥) → c n ≡ before n

-- what a reader finds under a key is nothing, or the whole pair of one of these records
abbrev pub IsRecord : List (Key × List ℕ × List ℕ) → Key → Option (List ℕ × Option (List ℕ)) → Type 0
IsRecord records key None = Unit {0}
IsRecord records key (Some found) = (dat : List ℕ) × (found.1 ≡ Some dat) × Contains records (key, found.0, dat)

-- Each configuration file has its whole pair, and the pair is one of these records, for whoever looks and for whoever recovers first.
pub record AllWhole (records : List (Key × List ℕ × List ℕ)) (c : Content) : Type 0 where
  pub shown : (key : Key) → IsRecord records key (found (under c key))
  pub mended : (key : Key) → IsRecord records key (recovered (under c key))
