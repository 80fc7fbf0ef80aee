-- What a directory has, and what a loss of power may leave of it.
use Rattle.std.specs.Prelude.{◌≡◌, ◌⊎◌, ◌≤◌, ◌<◌, ℕ, Bool, true, false, IsTrue, List, Option, Some, None, Result, OnErr}
use Rattle.dfr_folder.specs.declared.directory.Fault.{Fault}
use Rattle.dfr_folder.specs.declared.name.Name.{Name}

-- a file: its bytes, and whether they were synced after they were written
pub record File : Type 0 where
  pub bytes : List ℕ
  pub synced : Bool

-- what each name has after a crash
abbrev pub Content : Type 0
Content = Name → Option (List ℕ)

-- a file just written
abbrev pub unsynced : List ℕ → Option File
unsynced bytes = Some (record { bytes = bytes; synced = false })

-- a file whose bytes are on the disk
abbrev pub on_disk : List ℕ → Option File
on_disk bytes = Some (record { bytes = bytes; synced = true })

-- What a synced name has after a crash: no file stays no file. A file keeps its bytes if they were synced. If not, it may have any.
abbrev pub Stays : Option File → Option (List ℕ) → Type 0
Stays None left = left ≡ None
Stays (Some file) left = IsTrue file.synced → left ≡ Some file.bytes

-- new is old but for this name
abbrev pub SameBut : Name → Content → Content → Type 0
SameBut name old new = (n : Name) → (n ≡ name → ⊥) → new n ≡ old n

-- a file was renamed
pub record Moved (from to : Name) (old new : Content) : Type 0 where
  pub there : new to ≡ old from
  pub left : new from ≡ None
  pub elsewhere : (n : Name) → (n ≡ from → ⊥) → (n ≡ to → ⊥) → new n ≡ old n

-- a file was removed
pub record Removed (name : Name) (old new : Content) : Type 0 where
  pub gone : new name ≡ None
  pub elsewhere : SameBut name old new

-- A crash leaves what it might have left before this change, or the same with the change made.
abbrev pub Follows : (Content → Content → Type 0) → (Content → Type 0) → (Content → Type 0) → Type 0
Follows change old new = (c : Content) → new c → old c ⊎ ((d : Content) × old d × change d c)

-- each crash leaves the names that there are
abbrev pub IsSettled : {D : Type 0} → (D → Name → Option File) → (D → Content → Type 0) → D → Type 0
IsSettled files may_leave directory = (c : Content) → may_leave directory c → (n : Name) → Stays (files directory n) (c n)

-- the files are the same, and a crash leaves no more than before
pub record IsKept {D : Type 0} (files : D → Name → Option File) (may_leave : D → Content → Type 0) (old new : D) : Type 0 where
  pub same : (n : Name) → files new n ≡ files old n
  pub left : (c : Content) → may_leave new c → may_leave old c

-- no file has this name, and no crash leaves one
pub record IsFresh {D : Type 0} (files : D → Name → Option File) (may_leave : D → Content → Type 0) (directory : D) (name : Name) : Type 0 where
  pub unused : files directory name ≡ None
  pub unleft : (c : Content) → may_leave directory c → c name ≡ None

-- Time goes on: a crash since some start might have left what it might have left before, or what it may leave now.
pub record Elapses {D : Type 0} (moment : D → ℕ) (may_leave : D → Content → Type 0) (left_since : D → D → Content → Type 0) (old new : D) : Type 0 where
  pub later : moment old ≤ moment new
  pub nothing_else : (start : D) (c : Content) → left_since start new c → left_since start old c ⊎ may_leave new c
  pub keeps : (start : D) (c : Content) → moment start ≤ moment old → left_since start old c → left_since start new c

-- A crash at any moment from old to new, also at new, leaves what has P.
pub record LeavesOnly {D : Type 0} (may_leave : D → Content → Type 0) (left_since : D → D → Content → Type 0) (old new : D) (P : Content → Type 0) : Type 0 where
  -- for a run that began at some start
  pub passing : (start : D) (c : Content) → left_since start new c → left_since start old c ⊎ P c
  pub after : (c : Content) → may_leave new c → P c

-- a crash at this moment leaves what has P
abbrev pub LeavesNow : (Content → Type 0) → (Content → Type 0) → Type 0
LeavesNow may_leave P = (c : Content) → may_leave c → P c

-- an error comes only if the directory has failed since
pub record HasCause {T : Type 0} (before now : ℕ) (result : Result T Fault) : Type 0 where
  pub later : before ≤ now
  pub failed : OnErr result (before < now)
