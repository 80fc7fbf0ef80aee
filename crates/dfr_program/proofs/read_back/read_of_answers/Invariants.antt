use Rattle.std.proofs.Common.{◌≡◌, All, map, take}
use Rattle.std.specs.List.{filter_map}
use Rattle.dfr_recorder.specs.Answers.{answer_of}
use Rattle.comtrade_format.specs.Cfg.{cfg}
use Rattle.comtrade_format.specs.Data.{dat}
use Rattle.comtrade_read.specs.Reads.{Reads}
use Rattle.dfr_program.specs.ReadBack.{file_taken}
use Rattle.dfr_program.proofs.read_back.read_of_answers.Given as goal

-- the files of the answers so far
abbrev pub invariant-loop-answer : goal.invariant-loop-answer
invariant-loop-answer g l = record {
  files : l.files.items ≡ filter_map (file_taken l.layout l.kind) (map answer_of (take l.answer-index l.answers));
  reads : All (λ f. Reads (cfg f.head) (dat l.kind f) f) l.files.items;
}
