-- What is kept of every history is sound.
use Rattle.std.proofs.Common.{ℕ, ◌≡◌, ◌-◌, ◌+◌, refl, sym, ap, subst, ◌∙◌, All, List, [], ◌∷◌, length, Option, Some, None, arith}
use Rattle.std.specs.Prelude.{slice_get, IsTrue}
use Rattle.std.proofs.lemmas.List.{drop_all}
use Rattle.std.proofs.lemmas.List.Elements.{All-head, All-nil}
use Rattle.dfr_channels.specs.Parts.{SetupParts, ScanParts}
use Rattle.dfr_channels.specs.declared.rule.Rule.{Rule}
use Rattle.dfr_recorder.specs.declared.limits.Limits.{Limits}
use Rattle.dfr_recorder.specs.declared.marks.Newest.{Newest}
use Rattle.dfr_recorder.specs.Parts.{RecordParts}
use Rattle.dfr_recorder.specs.Limits.{has_stamps}
use Rattle.dfr_recorder.specs.Own.{is_own}
use Rattle.dfr_recorder.specs.Steps.{StepParts}
use Rattle.dfr_recorder.specs.Steps as step
use Rattle.dfr_recorder.specs.Answers.{AnswerParts}
use Rattle.dfr_recorder.specs.Answers as answers
use Rattle.dfr_recorder.specs.History.{Opening, opening, refusal}
use Rattle.dfr_recorder.specs.Kept.{Kept, kept, kept_by, reply, latest}
use Rattle.dfr_recorder.specs.Recording.{IsAccepted}
use Rattle.dfr_recorder.specs.declared.step.Scanned.{Scanned}
use Rattle.dfr_recorder.specs.Sound.{IsSound, IsClosed, IsOpenSound, Passes}
use Rattle.dfr_recorder.proofs.Law.{core-law}
use Rattle.dfr_recorder.proofs.Told.{IsMade, told-law}
use Rattle.dfr_recorder.proofs.Sound.{sound_next, sound_accepted}

pub sound_made : (k old : Kept) (s : StepParts) (a : AnswerParts) (new : Kept) → k ≡ old → IsMade old s a new → IsSound k → IsSound new
sound_made k old s a new e m h = subst IsSound m.next (sound_next old s (subst IsSound e h))

pub sound_taken_in : (k old : Kept) (x : ScanParts) (f : Option ℕ) (s : Scanned) (new : Kept) → k ≡ old → refusal old.layout old.scans x ≡ None → IsAccepted old x f s new → IsSound k → IsSound new
sound_taken_in k old x f s new e ok m h = subst IsSound m.1 (sound_accepted old x f ok (subst IsSound e h))

abbrev no_scans : List ScanParts
no_scans = []

abbrev pub none_opened : Newest
none_opened = record { number = 0; end = 0 }

-- a new recorder
pub kept_new : (layout : SetupParts) (limits : Limits) (rules : List Rule) → kept (opening layout limits rules) [] ≡ kept_by layout limits rules 0 [] none_opened None []
kept_new layout limits rules =
    let none : latest (limits.pre + 1) no_scans ≡ [] = drop_all (0 - (limits.pre + 1)) no_scans (omega arith) in
    ap (λ ring. kept_by layout limits rules 0 ring none_opened None []) none

pub sound_new : (layout : SetupParts) (limits : Limits) (rules : List Rule) → IsTrue (has_stamps layout.rate limits.longest) → IsSound (kept_by layout limits rules 0 [] none_opened None [])
sound_new layout limits rules h = record {
  stamped = h;
  timed = λ i lt. absurd (omega arith);
  ring = omega arith;
  pass = All-nil (Passes layout);
  recording = (omega arith, omega arith, omega arith);
  few = omega arith;
  shelf = All-nil (IsClosed layout limits);
}

pub sound_kept : (o : Opening) (h : List StepParts) → IsTrue (has_stamps o.layout.rate o.limits.longest) → IsSound (kept o h)
sound_kept o [] fit = subst IsSound (sym (kept_new o.layout o.limits o.rules)) (sound_new o.layout o.limits o.rules fit)
sound_kept o (s ∷ h) fit = subst IsSound (sym (core-law o h s)) (sound_next (kept o h) s (sound_kept o h fit))

front-closed : (layout : SetupParts) (limits : Limits) (shelf : List RecordParts) (r : RecordParts) → All (IsClosed layout limits) shelf → slice_get shelf 0 ≡ Some r → IsClosed layout limits r
front-closed layout limits [] r h e = absurd (cc)
front-closed layout limits (x ∷ xs) r h e = let same : x ≡ r = cc in subst (IsClosed layout limits) same (All-head (IsClosed layout limits) x xs h)

some-of : (a b : Option RecordParts) → answers.Take a ≡ answers.Take b → a ≡ b
some-of a b e = cc

-- every record that is handed out has all its scans, is not too long, and matches its layout
pub closed_law : (o : Opening) (h : List StepParts) (r : RecordParts) → IsTrue (has_stamps o.layout.rate o.limits.longest) → reply o h step.Take ≡ answers.Take (Some r) → IsClosed o.layout o.limits r
closed_law o h r fit e =
    front-closed o.layout o.limits (kept o h).shelf r (sound_kept o h fit).shelf (some-of (slice_get (kept o h).shelf 0) (Some r) (sym (told-law o h step.Take) ∙ e))

pub own_law : (o : Opening) (h : List StepParts) (r : RecordParts) → IsTrue (has_stamps o.layout.rate o.limits.longest) → reply o h step.Take ≡ answers.Take (Some r) → IsTrue (is_own o.layout r)
own_law o h r fit e = (closed_law o h r fit e).own

-- what is kept without a scan has no past
nothing-in : {X : Type 0} (xs : List X) → length xs ≡ 0 → xs ≡ []
nothing-in [] e = refl
nothing-in (x ∷ xs) e = absurd (omega (arith, e))

none-open : (layout : SetupParts) (limits : Limits) (newest : Newest) (w : ℕ) (recording : Option RecordParts) → IsOpenSound layout limits 0 0 newest w recording → (newest ≡ none_opened) × (recording ≡ None)
none-open layout limits newest w None h =
    let number : newest.number ≡ 0 = omega (arith, h.0) in
    let end : newest.end ≡ 0 = omega (arith, h.2) in
    (ap (λ n. record newest { number = n }) number ∙ ap (λ n. record none_opened { end = n }) end, refl)
none-open layout limits newest w (Some r) h = absurd (omega (arith, h.triggered))

pub fresh_law : (k : Kept) → IsSound k → k.scans ≡ 0 → k ≡ kept (opening k.layout k.limits k.rules) []
fresh_law k h e =
    let none = none-open k.layout k.limits k.newest (length k.shelf) k.recording (subst (λ (m : ℕ). IsOpenSound k.layout k.limits m m k.newest (length k.shelf) k.recording) e h.recording) in
    let ring = nothing-in k.ring (omega (arith, h.ring)) in
    let shelf = nothing-in k.shelf (omega (arith, h.few)) in
    let same : kept_by k.layout k.limits k.rules k.scans k.ring k.newest k.recording k.shelf ≡ kept_by k.layout k.limits k.rules 0 [] none_opened None [] = rw (e, ring, none.0, none.1, shelf) refl in
    same ∙ sym (kept_new k.layout k.limits k.rules)
