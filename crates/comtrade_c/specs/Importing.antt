-- What the files of another revision or dialect become.
use Rattle.std.specs.Prelude.{◌≡◌, ◌<◌, ◌⊎◌, ℕ, Bool, true, false, List, [], length}
use Rattle.comtrade_format.specs.Parts.{FileParts}
use Rattle.comtrade_read.specs.Reads.{Reads}
use Rattle.comtrade_c.specs.Buffers.{put}
use Rattle.comtrade_c.specs.declared.import.Lengths.{Lengths}

-- the files of a call: a pair, or a single file and nothing
pub record Given : Type 0 where
  pub is_single : Bool
  pub cfg : List ℕ
  pub dat : List ℕ

abbrev pub of_call : Bool → List ℕ → List ℕ → Given
of_call is_single cfg dat = record { is_single = is_single; cfg = cfg; dat = dat }

-- two texts read to one file; where no repair is told, a pair that reads exactly reads to that very file
pub record Becomes (given : Given) (cfg dat : List ℕ) (repairs : ℕ) : Type 0 where
  pub file : FileParts
  pub reads : Reads cfg dat file
  pub untold : given.is_single ≡ false → repairs ≡ 0
      → (exact : FileParts) → Reads given.cfg given.dat exact → exact ≡ file

-- three texts, a pair and the repairs in words
pub record Texts (given : Given) (lengths : Lengths) : Type 0 where
  pub cfg : List ℕ
  pub dat : List ℕ
  pub notes : List ℕ
  pub becomes : Becomes given cfg dat lengths.repairs
  pub cfg_length : lengths.cfg ≡ length cfg
  pub dat_length : lengths.dat ≡ length dat
  pub notes_length : lengths.notes ≡ length notes

-- the texts stand in front of what was after them in the buffers
pub record IsImported (given : Given) (lengths : Lengths) (cfg_before dat_before notes_before cfg_after dat_after notes_after : List ℕ) : Type 0 where
  pub texts : Texts given lengths
  pub cfg_text : cfg_after ≡ put texts.cfg cfg_before
  pub dat_text : dat_after ≡ put texts.dat dat_before
  pub notes_text : notes_after ≡ put texts.notes notes_before

abbrev pub lengths_of : List ℕ → List ℕ → List ℕ → ℕ → Lengths
lengths_of cfg dat notes repairs =
    record { cfg = length cfg; dat = length dat; notes = length notes; repairs = repairs }

-- one of the texts is longer than its buffer
abbrev pub IsShort : Lengths → List ℕ → List ℕ → List ℕ → Type 0
IsShort lengths cfg dat notes =
    (length cfg < lengths.cfg) ⊎ (length dat < lengths.dat) ⊎ (length notes < lengths.notes)

pub record LacksRoom (given : Given) (lengths : Lengths) (cfg dat notes : List ℕ) : Type 0 where
  pub texts : Texts given lengths
  pub is_short : IsShort lengths cfg dat notes
