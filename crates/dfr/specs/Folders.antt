-- What a folder does with the files of a record, as far as its directory states what it does.
use Rattle.std.specs.Prelude.{◌≡◌, ◌≢◌, ◌⊎◌, ℕ, ◌<◌, List, [], ◌++◌, length, take, Option, Some, None, Result, Ok, Err, IsErr, codes, decimal}
use Rattle.std.specs.Io.KnownBytes.{Appends}
use Rattle.dfr_live.specs.Devices.{FilesParts}

-- what a directory does when it creates a file at a path, or empties the one that is there
abbrev pub CreatesOf : Type 0 → Type 0 → Type 1
CreatesOf D W = D → List ℕ → Option W → D → Type 0

-- what it does when a file is closed, to which all was written
abbrev pub ClosesOf : Type 0 → Type 0 → Type 1
ClosesOf D W = D → W → D → Type 0

-- the bytes that a file has, where they are known
abbrev pub ContentsOf : Type 0 → Type 0
ContentsOf W = W → Option (List ℕ)

-- a file was created at this path, the bytes were written to it, and it was closed
abbrev pub Written : {D W : Type 0} → CreatesOf D W → ClosesOf D W → ContentsOf W → List ℕ → List ℕ → D → D → Type 0
Written {D} {W} Creates Closes contents path bytes f g =
    (m : D) × (w v : W) × Creates f path (Some w) m × Appends (contents w) (contents v) bytes × Closes m v g

-- no file was created there; or one was, and only part of the bytes was written
abbrev pub Unwritten : {D W : Type 0} → CreatesOf D W → ClosesOf D W → ContentsOf W → List ℕ → List ℕ → D → D → Type 0
Unwritten {D} {W} Creates Closes contents path bytes f g =
    Creates f path None g ⊎ ((n : ℕ) × (n < length bytes) × Written Creates Closes contents path (take n bytes) f g)

-- a file is written, or not all of it is: the folder's error code is 1
abbrev pub WritesFile : {D W : Type 0} → CreatesOf D W → ClosesOf D W → ContentsOf W → List ℕ → List ℕ → D → Result (Unit {0}) ℕ → D → Type 0
WritesFile Creates Closes contents path bytes f (Ok done) g = Written Creates Closes contents path bytes f g
WritesFile Creates Closes contents path bytes f (Err code) g = (code ≡ 1) × Unwritten Creates Closes contents path bytes f g

-- the path of a record's file
abbrev pub path_in : List ℕ → ℕ → List ℕ → List ℕ
path_in folder number ending = folder ++ codes "/rec" ++ decimal number ++ ending

-- one of the two files of a record is written under its name; where the folder has no name, and where an allocation fails, nothing is
abbrev pub WritesPart : {D W : Type 0} → CreatesOf D W → ClosesOf D W → ContentsOf W → List ℕ → ℕ → List ℕ → List ℕ → D → Result (Unit {0}) ℕ → D → Type 0
WritesPart Creates Closes contents folder number ending bytes f r g =
    ((folder ≢ []) × WritesFile Creates Closes contents (path_in folder number ending) bytes f r g) ⊎ ((r ≡ Err 1) × (g ≡ f))

-- the configuration file is written, and then the data file; where the first isn't, that is all
abbrev pub PutsFiles : {D W : Type 0} → CreatesOf D W → ClosesOf D W → ContentsOf W → List ℕ → FilesParts → D → Result (Unit {0}) ℕ → D → Type 0
PutsFiles {D} Creates Closes contents folder files f r g =
    ((m : D) × WritesPart Creates Closes contents folder files.extent.number (codes ".cfg") files.cfg f (Ok tt) m
    × WritesPart Creates Closes contents folder files.extent.number (codes ".dat") files.dat m r g)
    ⊎ (IsErr r × WritesPart Creates Closes contents folder files.extent.number (codes ".cfg") files.cfg f r g)
