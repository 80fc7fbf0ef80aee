-- What the rows hold of each channel.
use Rattle.std.specs.Prelude.{◌≡◌, ℕ, ◌+◌, ◌<◌, List, length, get_or}
use Rattle.comtrade_format.specs.Parts.{RowParts}
use Rattle.comtrade_analysis.specs.Extremes.{AreExtremes}
use Rattle.comtrade_analysis.specs.Sums.{present}
use Rattle.comtrade_analysis.specs.declared.surveys.Survey.{Survey}

-- the extremes of the first n rows; these rows are as many as their samples and the missing readings
pub record IsSurvey (rows : List RowParts) (channel n : ℕ) (s : Survey) : Type 0 where
  pub extremes : AreExtremes rows channel n s.extremes
  pub missing : length (present rows channel 0 n) + s.missing ≡ n

-- each is that of the channel with its index
abbrev pub AreSurveys : List RowParts → ℕ → List Survey → Type 0
AreSurveys rows n surveys = (channel : ℕ) (d : Survey) → channel < length surveys → IsSurvey rows channel n (get_or surveys channel d)
