-- What is written of a record is read.
use Rattle.std.specs.Prelude.{◌≡◌, List, Option, Some, None}
use Rattle.dfr_channels.specs.Parts.{SetupParts}
use Rattle.dfr_recorder.specs.Parts.{RecordParts}
use Rattle.dfr_recorder.specs.Steps as step
use Rattle.dfr_recorder.specs.Answers as answer
use Rattle.dfr_recorder.specs.History.{Opening}
use Rattle.dfr_recorder.specs.Kept.{reply}
use Rattle.comtrade_format.specs.declared.file.Kind.{Kind}
use Rattle.comtrade_format.specs.Parts.{FileParts}
use Rattle.comtrade_format.specs.Cfg.{cfg}
use Rattle.comtrade_format.specs.Data.{dat}
use Rattle.comtrade_write.specs.OfRecord.{file}
use Rattle.comtrade_read.specs.Reads.{Reads}

-- the file of the record that an answer took, where it took one
abbrev pub file_taken : SetupParts → Kind → answer.AnswerParts → Option FileParts
file_taken layout kind (answer.Take (Some r)) = Some (file layout r kind)
file_taken layout kind (answer.Take None) = None
file_taken layout kind (answer.Scan result) = None
file_taken layout kind (answer.Lost result) = None
file_taken layout kind (answer.Trigger result) = None
file_taken layout kind (answer.SetRules done) = None

-- every record that a recorder of this opening gives, after whatever history, is read from its own two files, of either kind
abbrev pub RecordsReadBack : Opening → Type 0
RecordsReadBack o = (h : List step.StepParts) (r : RecordParts) (kind : Kind) → reply o h step.Take ≡ answer.Take (Some r)
    → (let f = file o.layout r kind in Reads (cfg f.head) (dat f.head.kind f) f)
