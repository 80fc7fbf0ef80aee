-- What a recording in threads comes to.
use Rattle.std.specs.Prelude.{List}
use Rattle.dfr_live.specs.Seen.{InnerParts, SourceParts, TokenParts}
use Rattle.dfr_live.specs.OneList.{OneList}
use Rattle.dfr_live.specs.declared.ended.Ended.{Ended}
use Rattle.dfr_program.specs.ReadBack.{RecordsReadBack}

-- all calls are one list of steps, with the one-thread recorder's answers; each record that is
-- taken, in it as in every list of steps over the opening, is read from its own two files
pub record IsOneThread {A : Type 0} (x : InnerParts) (source : SourceParts)
    (tokens : List TokenParts) (e : Ended A) : Type 0 where
  pub steps : OneList x source tokens e
  pub files : RecordsReadBack x.opening
