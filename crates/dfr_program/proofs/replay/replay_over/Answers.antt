use Rattle.std.proofs.Common.{◌≡◌, ◌<◌, true, length, arith}
use Rattle.comtrade_values.specs.Lines.{lines}
use Rattle.dfr_script.specs.Scripts.{script_value}
use Rattle.dfr_program.specs.Faults.{script_fault}
use Rattle.dfr_program.specs.Replays.{PrintsAnswers, PrintsFirst, CutAt, IsUnread}
use Rattle.dfr_program.proofs.Replaying.{known, known_done, known_or}
use Rattle.dfr_program.proofs.replay.replay_over.Goals as goal

pub returns-in-Ok-clause-answers : goal.returns-in-Ok-clause-answers
returns-in-Ok-clause-answers g c =
    known_done c.replay_text.result true c.in-Ok.text.items (λ t. PrintsAnswers c.args.kind (script_value (lines t)) (g.W.Write.contents c.args.w.now) (g.W.Write.contents c.replay_text.new.w)) (g.R.Read.remaining c.args.r.now) c.in-Ok.ensures.bytes c.replay_text.ensures.answers

pub returns-in-Ok-clause-memory : goal.returns-in-Ok-clause-memory
returns-in-Ok-clause-memory g c e =
    known_or (c.replay_text.new.w ≡ c.args.w.now) c.in-Ok.text.items (λ t. PrintsFirst c.args.kind (script_fault t) (script_value (lines t)) (g.W.Write.contents c.args.w.now) (g.W.Write.contents c.replay_text.new.w)) (g.R.Read.remaining c.args.r.now) c.in-Ok.ensures.bytes (c.replay_text.ensures.memory e)

pub returns-in-Ok-clause-output : goal.returns-in-Ok-clause-output
returns-in-Ok-clause-output g c e =
    known c.in-Ok.text.items (λ t. CutAt c.args.kind (script_fault t) (script_value (lines t)) (g.W.Write.contents c.args.w.now) (g.W.Write.contents c.replay_text.new.w)) (g.R.Read.remaining c.args.r.now) c.in-Ok.ensures.bytes (c.replay_text.ensures.output e)

pub returns-in-Ok-clause-long : goal.returns-in-Ok-clause-long
returns-in-Ok-clause-long g c =
    known c.in-Ok.text.items (λ t. 16777216 < length t → IsUnread c.replay_text.result × (c.replay_text.new.w ≡ c.args.w.now)) (g.R.Read.remaining c.args.r.now) c.in-Ok.ensures.bytes (λ more. absurd (omega (arith, more, c.in-Ok.ensures.short)))
