use Rattle.std.proofs.Common.{◌≡◌, ◌≤◌, All, false, length, map, take, drop, vec_capacity}
use Rattle.dfr_recorder.specs.Steps.{step_of}
use Rattle.dfr_recorder.specs.Answers.{answer_of, is_memory}
use Rattle.dfr_recorder.specs.Run.{IsRun, IsOwnAnswer}
use Rattle.dfr_recorder.proofs.sequence.run.Given as goal

-- there is room for all answers; those so far are the answers to as many steps, and the others are left
abbrev pub invariant-loop-step : goal.invariant-loop-step
invariant-loop-step g l = record {
  room : length l.fn.steps.items ≤ vec_capacity l.answers;
  few : length l.answers.items ≤ length l.fn.steps.items;
  left : l.rest.items ≡ drop (length l.answers.items) l.fn.steps.items;
  ran : IsRun l.fn.recorder (map step_of (take (length l.answers.items) l.fn.steps.items)) (map answer_of l.answers.items) l.recorder;
  told : All (λ answer. is_memory (answer_of answer) ≡ false) l.answers.items;
  own : All (λ answer. IsOwnAnswer l.recorder.layout (answer_of answer)) l.answers.items;
  layout : l.recorder.layout ≡ l.fn.recorder.layout;
  limits : l.recorder.limits ≡ l.fn.recorder.limits;
}

abbrev pub decreases-loop-step : goal.decreases-loop-step
decreases-loop-step g l = length l.rest.items
