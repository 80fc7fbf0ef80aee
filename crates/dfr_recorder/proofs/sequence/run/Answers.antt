use Rattle.std.proofs.Common.{All, rules, refl, ℕ, ◌+◌, ◌≤◌, ◌<◌, ◌≡◌, ◌++◌, [], ◌∷◌, List, suc, length, map, take, drop, sym, ap, subst, ◌∙◌, arith, length-append, vec_len, vec_capacity}
use Rattle.dfr_recorder.specs.Steps.{StepParts, step_of}
use Rattle.dfr_recorder.specs.declared.step.Answer.{Answer}
use Rattle.std.proofs.lemmas.List.Elements.{All-same, All-push, All-nil}
use Rattle.dfr_recorder.specs.Answers.{AnswerParts, answer_of, is_memory}
use Rattle.dfr_recorder.specs.Kept.{Kept}
use Rattle.dfr_recorder.specs.Memory.{WantsMemory}
use Rattle.dfr_channels.specs.Parts.{SetupParts}
use Rattle.dfr_recorder.specs.Run.{IsRun, IsOwnAnswer}
use Rattle.dfr_recorder.proofs.Runs.{run_more, take_next, drop_next, room_next, map_push, take_then, nothing_in, ok_gives, err_gives, run_none, take_rest}
use Rattle.std.specs.Prelude.{is_err, option_to_list, Some, true, false}
use Rattle.dfr_recorder.proofs.sequence.run.Goals as goal

abbrev NotMemory : {A : Type 0} → Answer A → Type 0
NotMemory answer = is_memory (answer_of answer) ≡ false

abbrev OwnTo : {A : Type 0} → SetupParts → Answer A → Type 0
OwnTo layout answer = IsOwnAnswer layout (answer_of answer)

-- no room for the answers: nothing was made
pub returns-then-is_err-clause-list : goal.returns-then-is_err-clause-list
returns-then-is_err-clause-list g c =
    let none : c.reserve.new.self.items ≡ [] = c.reserve.ensures.items ∙ c.new-answers.ensures.items in
    ap (λ l. take (length l) c.args.steps.items ++ option_to_list c.pop_front-stopped.result ++ c.pop_front-stopped.new.self.items) none ∙ sym c.pop_front-stopped.ensures.items

pub returns-then-is_err-clause-run : goal.returns-then-is_err-clause-run
returns-then-is_err-clause-run g c =
    let none : c.reserve.new.self.items ≡ [] = c.reserve.ensures.items ∙ c.new-answers.ensures.items in
    subst (λ l. IsRun c.args.recorder (map step_of (take (length l) c.args.steps.items)) (map answer_of l) c.args.recorder) (sym none) (run_none c.args.recorder)

pub returns-then-is_err-clause-told : goal.returns-then-is_err-clause-told
returns-then-is_err-clause-told g c = All-same NotMemory c.reserve.new.self.items [] (c.reserve.ensures.items ∙ c.new-answers.ensures.items) (All-nil NotMemory)

pub returns-then-is_err-clause-own : goal.returns-then-is_err-clause-own
returns-then-is_err-clause-own g c =
    All-same (OwnTo c.args.recorder.layout) c.reserve.new.self.items [] (c.reserve.ensures.items ∙ c.new-answers.ensures.items) (All-nil (OwnTo c.args.recorder.layout))

pub returns-then-is_err-clause-wanted : goal.returns-then-is_err-clause-wanted
returns-then-is_err-clause-wanted g c some = absurd (some (c.reserve.ensures.items ∙ c.new-answers.ensures.items))

pub returns-then-is_err-clause-room : goal.returns-then-is_err-clause-room
returns-then-is_err-clause-room g c room =
    let err : is_err c.reserve.result ≡ true = sym c.is_err.ensures.value ∙ c.if-is_err.true in
    let full : vec_capacity c.new-answers.result < vec_len c.new-answers.result + c.len.result = err_gives c.reserve.result err c.reserve.ensures.full in
    let same : vec_capacity c.reserve.new.self ≡ vec_capacity c.new-answers.result = err_gives c.reserve.result err c.reserve.ensures.err in
    absurd (omega (arith, room, full, same, c.len.ensures, c.new-answers.ensures.len))

pub loop-step-init : goal.loop-step-init
loop-step-init g c =
    let none : c.reserve.new.self.items ≡ [] = c.reserve.ensures.items ∙ c.new-answers.ensures.items in
    let no_err : is_err c.reserve.result ≡ false = sym c.is_err.ensures.value ∙ c.if-is_err.false in
    let reserved : vec_len c.reserve.new.self + c.len.result ≤ vec_capacity c.reserve.new.self = ok_gives c.reserve.result no_err c.reserve.ensures.ok in
    let room : length c.args.steps.items ≤ vec_capacity c.reserve.new.self = omega (arith, reserved, c.len.ensures) in
    let P : List (Answer g.row.A.Denot) → Type 0 = λ l. IsRun c.args.recorder (map step_of (take (length l) c.args.steps.items)) (map answer_of l) c.args.recorder in
    record {
      room = room;
      few = omega (arith, ap length none);
      left = sym (ap (λ l. drop (length l) c.args.steps.items) none);
      ran = subst P (sym none) (run_none c.args.recorder);
      told = All-same NotMemory c.reserve.new.self.items [] none (All-nil NotMemory);
      own = All-same (OwnTo c.args.recorder.layout) c.reserve.new.self.items [] none (All-nil (OwnTo c.args.recorder.layout));
      layout = refl;
      limits = refl;
    }

pub push_reserved-requires : goal.push_reserved-requires
push_reserved-requires g c =
    let front : drop (length c.loop-step.answers.items) c.args.steps.items ≡ c.in-Some.step ∷ c.pop_front.new.self.items = sym c.loop-step.invariant.left ∙ c.in-Some.ensures.items in
    omega (arith, c.loop-step.invariant.room, room_next (length c.loop-step.answers.items) c.args.steps.items c.in-Some.step c.pop_front.new.self.items front)

pub loop-step-preserved : goal.loop-step-preserved
loop-step-preserved g c =
    let n : ℕ = length c.loop-step.answers.items in
    let front : drop n c.args.steps.items ≡ c.in-Some.step ∷ c.pop_front.new.self.items = sym c.loop-step.invariant.left ∙ c.in-Some.ensures.items in
    let pushed : c.push_reserved.new.self.items ≡ c.loop-step.answers.items ++ c.in-Ok.answer ∷ [] = c.push_reserved.ensures.items in
    let longer : length c.push_reserved.new.self.items ≡ suc n = omega (arith, ap length pushed, length-append c.loop-step.answers.items (c.in-Ok.answer ∷ [])) in
    let made : map step_of (take (length c.push_reserved.new.self.items) c.args.steps.items) ≡ map step_of (take n c.args.steps.items) ++ step_of c.in-Some.step ∷ [] =
    ap (λ m. map step_of (take m c.args.steps.items)) longer ∙ ap (map step_of) (take_next n c.args.steps.items c.in-Some.step c.pop_front.new.self.items front) ∙ map_push step_of (take n c.args.steps.items) c.in-Some.step in
    let told : map answer_of c.push_reserved.new.self.items ≡ map answer_of c.loop-step.answers.items ++ answer_of c.in-Ok.answer ∷ [] = ap (map answer_of) pushed ∙ map_push answer_of c.loop-step.answers.items c.in-Ok.answer in
    let P : List StepParts → Type 0 = λ a. IsRun c.args.recorder a (map answer_of c.push_reserved.new.self.items) c.make.new.self in
    let Q : List AnswerParts → Type 0 = λ b. IsRun c.args.recorder (map step_of (take n c.args.steps.items) ++ step_of c.in-Some.step ∷ []) b c.make.new.self in
    let more : IsRun c.args.recorder (map step_of (take n c.args.steps.items) ++ step_of c.in-Some.step ∷ []) (map answer_of c.loop-step.answers.items ++ answer_of c.in-Ok.answer ∷ []) c.make.new.self =
    run_more c.args.recorder c.loop-step.recorder c.make.new.self (map step_of (take n c.args.steps.items)) (map answer_of c.loop-step.answers.items) (step_of c.in-Some.step) (answer_of c.in-Ok.answer) c.loop-step.invariant.ran c.in-Ok.ensures.ok in
    let own : All (OwnTo c.loop-step.recorder.layout) c.push_reserved.new.self.items =
    All-same (OwnTo c.loop-step.recorder.layout) c.push_reserved.new.self.items (c.loop-step.answers.items ++ c.in-Ok.answer ∷ []) pushed (All-push (OwnTo c.loop-step.recorder.layout) c.loop-step.answers.items c.in-Ok.answer c.loop-step.invariant.own c.in-Ok.ensures.own) in
    let behind = room_next n c.args.steps.items c.in-Some.step c.pop_front.new.self.items front in
    record {
      room = omega (arith, c.loop-step.invariant.room, c.push_reserved.ensures.capacity);
      few = omega (arith, longer, behind);
      left = sym (ap (λ m. drop m c.args.steps.items) longer ∙ drop_next n c.args.steps.items c.in-Some.step c.pop_front.new.self.items front);
      ran = subst P (sym made) (subst Q (sym told) more);
      told = All-same NotMemory c.push_reserved.new.self.items (c.loop-step.answers.items ++ c.in-Ok.answer ∷ []) pushed (All-push NotMemory c.loop-step.answers.items c.in-Ok.answer c.loop-step.invariant.told c.in-Ok.ensures.told);
      own = subst (λ (l : SetupParts). All (OwnTo l) c.push_reserved.new.self.items) (sym c.make.ensures.opening.0) own;
      layout = c.make.ensures.opening.0 ∙ c.loop-step.invariant.layout;
      limits = c.make.ensures.opening.1 ∙ c.loop-step.invariant.limits;
    }

-- a step that needs memory
pub returns-in-Err-clause-list : goal.returns-in-Err-clause-list
returns-in-Err-clause-list g c =
    ap (λ s. take (length c.loop-step.answers.items) c.args.steps.items ++ option_to_list (Some s) ++ c.pop_front.new.self.items) c.in-Err.ensures.err.0
    ∙ take_then (length c.loop-step.answers.items) c.args.steps.items c.in-Some.step c.pop_front.new.self.items (sym c.loop-step.invariant.left ∙ c.in-Some.ensures.items)

pub returns-in-Err-clause-run : goal.returns-in-Err-clause-run
returns-in-Err-clause-run g c =
    subst (λ (k : Kept). IsRun c.args.recorder (map step_of (take (length c.loop-step.answers.items) c.args.steps.items)) (map answer_of c.loop-step.answers.items) k) (sym c.in-Err.ensures.err.1) c.loop-step.invariant.ran

pub returns-in-Err-clause-own : goal.returns-in-Err-clause-own
returns-in-Err-clause-own g c = subst (λ (l : SetupParts). All (OwnTo l) c.loop-step.answers.items) (sym c.make.ensures.opening.0) c.loop-step.invariant.own

pub returns-in-Err-clause-wanted : goal.returns-in-Err-clause-wanted
returns-in-Err-clause-wanted g c _ = subst (λ (k : Kept). WantsMemory k (step_of c.in-Err.step)) (sym c.in-Err.ensures.err.1) c.in-Err.ensures.wanted

pub returns-in-Err-clause-room : goal.returns-in-Err-clause-room
returns-in-Err-clause-room g c _ = subst (λ (k : Kept). WantsMemory k (step_of c.in-Err.step)) (sym c.in-Err.ensures.err.1) c.in-Err.ensures.wanted

-- all made
pub returns-clause-whole : goal.returns-clause-whole
returns-clause-whole g c _ =
    let empty : length c.pop_front.new.self.items ≡ 0 = search rules in
    nothing_in c.pop_front.new.self.items empty

pub returns-clause-list : goal.returns-clause-list
returns-clause-list g c =
    let rest : c.pop_front.new.self.items ≡ c.loop-step.rest.items = search rules in
    take_rest (length c.loop-step.answers.items) c.args.steps.items c.pop_front.new.self.items (rest ∙ c.loop-step.invariant.left)

pub returns-in-Err-clause-whole : goal.returns-in-Err-clause-whole
returns-in-Err-clause-whole g c = search rules depth 1
