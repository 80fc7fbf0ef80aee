-- The answers: what is answered from what is kept is what the history has answered.
use Rattle.std.proofs.Common.{ℕ, zero, suc, ◌≡◌, refl, sym, ap, ◌∙◌, cond, List, [], ◌∷◌, drop, Option, Some, None, Ok, Err}
use Rattle.std.specs.Prelude.{slice_get}
use Rattle.dfr_channels.specs.Parts.{SetupParts, ScanParts}
use Rattle.dfr_recorder.specs.declared.limits.Limits.{Limits}
use Rattle.dfr_recorder.specs.declared.record.Cause.TheVariants as cause
use Rattle.dfr_recorder.specs.declared.step.ScanRefusal.{ScanRefusal}
use Rattle.dfr_recorder.specs.declared.step.LostRefusal.{LostRefusal}
use Rattle.dfr_recorder.specs.declared.step.TriggerFault.TheVariants as trigger_refused
use Rattle.dfr_recorder.specs.Steps.{StepParts}
use Rattle.dfr_recorder.specs.Steps as step
use Rattle.dfr_recorder.specs.Answers.{AnswerParts}
use Rattle.dfr_recorder.specs.Answers as answers
use Rattle.dfr_recorder.specs.Marks.{mark, mark_if, is_covered, scanned}
use Rattle.dfr_recorder.specs.History.{Opening, Past, past, count, ended, records, refusal, lost_refusal, refused_when_full, answer, answer_to_scan, answer_to_lost, answer_to_trigger}
use Rattle.dfr_recorder.specs.Kept.{Kept, kept, kept_of, reply, IsStep}
use Rattle.dfr_recorder.proofs.Next.{next, told, told_of_scan, told_of_lost, told_of_trigger}
use Rattle.dfr_recorder.proofs.Law.{met-law, fired_mark-law, core-law}

told-scan : (layout : SetupParts) (limits : Limits) (p : Past) (x : ScanParts) (r : Option ScanRefusal) → answer_to_scan limits p x r ≡ told_of_scan (kept_of layout limits p) x r
told-scan layout limits p x (Some refusal) = refl
told-scan layout limits p x None = ap (λ m. Ok (scanned (count p) m)) (fired_mark-law layout limits p x)

told-lost : (layout : SetupParts) (limits : Limits) (p : Past) (r : Option LostRefusal) → answer_to_lost limits p r ≡ told_of_lost (kept_of layout limits p) r
told-lost layout limits p (Some refusal) = refl
told-lost layout limits p None = ap (λ m. Ok (scanned (count p) (mark_if limits (count p) None m))) (met-law layout limits p)

told-trigger : (layout : SetupParts) (limits : Limits) (p : Past) (n : ℕ) → answer_to_trigger limits p n ≡ told_of_trigger (kept_of layout limits p) n
told-trigger layout limits p zero = refl
told-trigger layout limits p (suc k) = ap (λ m. cond (is_covered limits k m) (Err trigger_refused.Covered) (refused_when_full (mark limits k cause.Manual m).hit)) (met-law layout limits p)

-- the oldest on the shelf
slice_get-drop : {X : Type 0} (t : ℕ) (xs : List X) → slice_get (drop t xs) 0 ≡ slice_get xs t
slice_get-drop zero xs = refl
slice_get-drop (suc t) [] = refl
slice_get-drop (suc t) (x ∷ xs) = slice_get-drop t xs

told-after : (layout : SetupParts) (limits : Limits) (p : Past) (s : StepParts) → answer layout limits p s ≡ told (kept_of layout limits p) s
told-after layout limits p (step.Scan scan) = ap answers.Scan (told-scan layout limits p scan (refusal layout (count p) scan))
told-after layout limits p step.Lost = ap answers.Lost (told-lost layout limits p (lost_refusal layout (count p)))
told-after layout limits p step.Trigger = ap answers.Trigger (told-trigger layout limits p (count p))
told-after layout limits p step.Take = ap answers.Take (sym (slice_get-drop p.taken (records p.scans (ended p))))
told-after layout limits p (step.SetRules rules) = refl

-- the law of the answers
pub told-law : (o : Opening) (h : List StepParts) (s : StepParts) → reply o h s ≡ told (kept o h) s
told-law o h s = told-after o.layout o.limits (past o h) s

-- what the step of ring, open record and shelf answers, and makes of what is kept
pub record IsMade (old : Kept) (s : StepParts) (a : AnswerParts) (new : Kept) : Type 0 where
  pub told : told old s ≡ a
  pub next : next old s ≡ new

-- the history says the same
pub is_step : (old : Kept) (s : StepParts) (a : AnswerParts) (new : Kept) → IsMade old s a new → IsStep old s a new
is_step old s a new m o h e = (told-law o h s ∙ ap (λ k. told k s) e ∙ m.told, core-law o h s ∙ ap (λ k. next k s) e ∙ m.next)
