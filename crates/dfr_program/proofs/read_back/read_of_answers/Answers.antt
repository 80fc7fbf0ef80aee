use Rattle.std.proofs.Common.{◌≡◌, ◌++◌, [], ◌∷◌, Option, List, map, take, sym, ap, subst, refl, ◌∙◌, append-nil}
use Rattle.std.specs.Prelude.{IfSome}
use Rattle.std.specs.List.{filter_map}
use Rattle.std.proofs.lemmas.List.{take_all}
use Rattle.std.proofs.lemmas.List.Elements.{All-same, All-push, All-get_or}
use Rattle.dfr_recorder.specs.declared.step.Answer.{Answer}
use Rattle.dfr_recorder.specs.Answers.{answer_of}
use Rattle.dfr_recorder.specs.Run.{IsOwnAnswer}
use Rattle.comtrade_format.specs.declared.file.Kind.{Kind}
use Rattle.comtrade_format.specs.Parts.{FileParts}
use Rattle.comtrade_format.specs.Cfg.{cfg}
use Rattle.comtrade_format.specs.Data.{dat}
use Rattle.comtrade_read.specs.Reads.{Reads}
use Rattle.dfr_program.specs.ReadBack.{file_taken}
use Rattle.dfr_program.proofs.ReadAgain.{made_more}
use Rattle.dfr_program.proofs.read_back.read_of_answers.Goals.{in-Some+in_ok-push-in-Some, in-None}
use Rattle.dfr_program.proofs.read_back.read_of_answers.Goals as goal

abbrev IsReadBack : Kind → FileParts → Type 0
IsReadBack kind f = Reads (cfg f.head) (dat kind f) f

pub read_of_answer-requires : goal.read_of_answer-requires
read_of_answer-requires g c =
    subst (λ (a : Answer g.row.A.Denot). IsOwnAnswer c.args.layout.now (answer_of a)) (sym c.answer-item.is)
    (All-get_or (λ (a : Answer g.row.A.Denot). IsOwnAnswer c.args.layout.now (answer_of a)) c.args.answers.now c.loop-answer.answer-index c.answer-item.result c.loop-answer-test.true c.requires)

pub loop-answer-preserved : goal.loop-answer-preserved
loop-answer-preserved g c =
    let more = made_more answer_of (file_taken c.args.layout.now c.args.kind) c.args.answers.now c.loop-answer.answer-index c.answer-item.result c.in_ok-file.field-0 c.loop-answer-test.true c.answer-item.is c.in_ok-file.ensures.file in
    elim c.match-branch-2.branch [
      | in-Some+in_ok-push-in-Some w ↦
          let items : c.match-branch-2.files.items ≡ c.loop-answer.files.items ++ w.in-Some.file ∷ [] = rw w.files-is w.in_ok-push-in-Some.ensures.items in
          let reads : IsReadBack c.args.kind w.in-Some.file = subst (λ (o : Option FileParts). IfSome o (IsReadBack c.args.kind)) w.in-Some.is c.in_ok-file.ensures.reads in
          record {
            files = items ∙ ap (λ l. l ++ w.in-Some.file ∷ []) c.loop-answer.invariant.files ∙ (rw w.in-Some.is at more);
            reads = All-same (IsReadBack c.args.kind) c.match-branch-2.files.items (c.loop-answer.files.items ++ w.in-Some.file ∷ []) items (All-push (IsReadBack c.args.kind) c.loop-answer.files.items w.in-Some.file c.loop-answer.invariant.reads reads);
          }
      | in-None w ↦
          let same : c.match-branch-2.files.items ≡ c.loop-answer.files.items = rw w.files-is refl in
          let made : List FileParts = filter_map (file_taken c.args.layout.now c.args.kind) (map answer_of (take c.loop-answer.answer-index c.args.answers.now)) in
          record {
            files = same ∙ c.loop-answer.invariant.files ∙ sym (append-nil made) ∙ (rw w.in-None.is at more);
            reads = All-same (IsReadBack c.args.kind) c.match-branch-2.files.items c.loop-answer.files.items same c.loop-answer.invariant.reads;
          }
    ]

pub returns-clause-files : goal.returns-clause-files
returns-clause-files g c =
    let all : take c.loop-answer.answer-index c.args.answers.now ≡ c.args.answers.now = take_all c.loop-answer.answer-index c.args.answers.now c.loop-answer-test.false in
    subst (λ (l : List (Answer g.row.A.Denot)). c.loop-answer.files.items ≡ filter_map (file_taken c.args.layout.now c.args.kind) (map answer_of l)) all c.loop-answer.invariant.files
