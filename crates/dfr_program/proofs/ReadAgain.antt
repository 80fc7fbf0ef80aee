-- The files of the records that steps took, read back.
use Rattle.std.proofs.Common.{◌≡◌, ◌+◌, ◌<◌, sym, ap, subst, refl, ◌∙◌, List, [], ◌∷◌, ◌++◌, length, map, take, get_or, ℕ, Option, Some, None}
use Rattle.std.specs.Prelude.{option_to_list}
use Rattle.std.specs.List.{filter_map}
use Rattle.std.proofs.lemmas.List.{take_more, map-append}
use Rattle.std.proofs.lemmas.List.Elements.{filter_map-append}
use Rattle.dfr_channels.specs.Parts.{SetupParts}
use Rattle.dfr_recorder.specs.Parts.{RecordParts}
use Rattle.dfr_recorder.specs.declared.step.Step.{Step}
use Rattle.dfr_recorder.specs.declared.step.Answer.{Answer}
use Rattle.dfr_recorder.specs.Steps.{step_of}
use Rattle.dfr_recorder.specs.Answers.{answer_of}
use Rattle.dfr_recorder.specs.Kept.{Kept}
use Rattle.dfr_recorder.specs.Run.{IsRun}
use Rattle.comtrade_format.specs.declared.file.Kind.{Kind}
use Rattle.comtrade_format.specs.Parts.{FileParts}
use Rattle.comtrade_format.specs.Cfg.{cfg}
use Rattle.comtrade_format.specs.Data.{dat}
use Rattle.comtrade_write.specs.OfRecord.{file}
use Rattle.comtrade_read.specs.Reads.{Reads}

-- a record's file is of the kind that was asked for
pub kind_of_file : (layout : SetupParts) (r : RecordParts) (kind : Kind) → (file layout r kind).head.kind ≡ kind
unfolding file
kind_of_file layout r kind = refl

pub reads_as : (f : FileParts) (layout : SetupParts) (r : RecordParts) (kind : Kind) → f ≡ file layout r kind → Reads (cfg f.head) (dat f.head.kind f) f → Reads (cfg f.head) (dat kind f) f
reads_as f layout r kind e h =
    let k : f.head.kind ≡ kind = subst (λ (x : FileParts). x.head.kind ≡ kind) (sym e) (kind_of_file layout r kind) in
    subst (λ (x : Kind). Reads (cfg f.head) (dat x f) f) k h

-- ---- a list of steps

pub no_step : {A : Type 0} (k : Kept) (answers : List (Answer A)) (steps : List (Step A)) → answers ≡ [] → IsRun k (map step_of (take (length answers) steps)) (map answer_of answers) k
no_step k answers steps e = rw e (λ o h same. (refl, same))

-- ---- the files of a list of answers

one_made : {Y Z : Type 0} (h : Y → Option Z) (y : Y) (made : Option Z) → made ≡ h y → option_to_list made ≡ filter_map h (y ∷ [])
one_made h y None e = rw (sym e) refl
one_made h y (Some z) e = rw (sym e) refl

-- one more item, of which this is made
pub made_more : {X Y Z : Type 0} (f : X → Y) (h : Y → Option Z) (xs : List X) (i : ℕ) (x : X) (made : Option Z) → i < length xs → x ≡ get_or xs i x → made ≡ h (f x)
    → filter_map h (map f (take i xs)) ++ option_to_list made ≡ filter_map h (map f (take (i + 1) xs))
made_more f h xs i x made lt is e =
    let front = take i xs in
    let next : take (i + 1) xs ≡ front ++ x ∷ [] = take_more xs i x lt ∙ ap (λ y. front ++ y ∷ []) (sym is) in
    let mapped : map f (take (i + 1) xs) ≡ map f front ++ f x ∷ [] = ap (map f) next ∙ map-append f front (x ∷ []) in
    let filtered : filter_map h (map f (take (i + 1) xs)) ≡ filter_map h (map f front) ++ filter_map h (f x ∷ []) = ap (filter_map h) mapped ∙ filter_map-append h (map f front) (f x ∷ []) in
    ap (λ l. filter_map h (map f front) ++ l) (one_made h (f x) made e) ∙ sym filtered
