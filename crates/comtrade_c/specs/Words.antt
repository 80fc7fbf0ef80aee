-- What is said of a pair in words.
use Rattle.std.specs.Prelude.{◌≡◌, ◌<◌, ◌⊎◌, ℕ, List, [], length}
use Rattle.comtrade_read.specs.Verdicts.{IsFile}
use Rattle.comtrade_read.specs.Reads.{IsNoFile}
use Rattle.comtrade_diagnostics.specs.Puts.{PutsLine}
use Rattle.comtrade_c.specs.Buffers.{put}

-- no word of a pair that reads to a file, a line of one that reads to none
abbrev pub AreWords : List ℕ → List ℕ → List ℕ → Type 0
AreWords cfg dat words =
    ((words ≡ []) × IsFile cfg dat) ⊎ (PutsLine [] words × IsNoFile cfg dat)

-- the words, so many bytes, stand in front of what stood after them in the buffer
pub record Says (cfg dat old new : List ℕ) (count : ℕ) : Type 0 where
  pub words : List ℕ
  pub are_words : AreWords cfg dat words
  pub puts : new ≡ put words old
  pub counts : count ≡ length words

-- the words are so many bytes, and the buffer is shorter
pub record LacksRoom (cfg dat old : List ℕ) (count : ℕ) : Type 0 where
  pub words : List ℕ
  pub are_words : AreWords cfg dat words
  pub counts : count ≡ length words
  pub is_short : length old < count
