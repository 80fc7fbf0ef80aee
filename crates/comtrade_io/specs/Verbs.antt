-- What the commands that print are called, and what the names after a pair's first one mean.
use Rattle.std.specs.Prelude.{ℕ, List, Option, Some, None, codes}
use Rattle.comtrade_io.specs.declared.words.View.{View}
use Rattle.comtrade_io.specs.declared.words.View.TheVariants as view
use Rattle.comtrade_io.specs.declared.words.Batch.{Batch}
use Rattle.comtrade_io.specs.declared.words.Batch.TheVariants as batch
use Rattle.comtrade_io.specs.declared.words.Survey.{Survey}
use Rattle.comtrade_io.specs.declared.words.Survey.TheVariants as survey

abbrev pub view_name : View → List ℕ
view_name view.Show = codes "show"
view_name view.Csv = codes "csv"
view_name view.Detect = codes "detect"

abbrev pub batch_name : Batch → List ℕ
batch_name batch.Check = codes "check"
batch_name batch.Plot = codes "plot"
batch_name batch.Page = codes "page"
batch_name batch.Measure = codes "measure"

abbrev pub survey_name : Survey → List ℕ
survey_name survey.List = codes "list"
survey_name survey.Events = codes "events"

-- the second of three names is the data file's
abbrev pub data_name : List ℕ → Option (List ℕ) → Option (List ℕ)
data_name second None = None
data_name second (Some third) = Some second

-- the last of two or three names is the new pair's
abbrev pub pair_name : List ℕ → Option (List ℕ) → List ℕ
pair_name second None = second
pair_name second (Some third) = third
