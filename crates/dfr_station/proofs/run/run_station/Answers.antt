use Rattle.std.proofs.Common.{◌≡◌, Result, Ok, Err, refl, ◌∙◌, ap, subst}
use Rattle.std.specs.Prelude.{IfOk, IfErr, is_some}
use Rattle.dfr_station.specs.Dated.{is_followed}
use Rattle.dfr_station.proofs.run.run_station.Goals as goal

when_ok : {T E : Type 0} (r : Result T E) (x : T) (P : T → Type 0) → r ≡ Ok x → IfOk r P → P x
when_ok {T} {E} r x P is h = subst (λ (z : Result T E). IfOk z P) is h

when_err : {T E : Type 0} (r : Result T E) (e : E) (P : E → Type 0) → r ≡ Err e → IfErr r P → P e
when_err {T} {E} r e P is h = subst (λ (z : Result T E). IfErr z P) is h

if_ok : {T E : Type 0} (r : Result T E) (P Q : T → Type 0) → ((x : T) → P x → Q x) → IfOk r P → IfOk r Q
if_ok (Ok x) P Q then h = then x h
if_ok (Err e) P Q then h = tt

if_err : {T E : Type 0} (r : Result T E) (P Q : E → Type 0) → ((e : E) → P e → Q e) → IfErr r P → IfErr r Q
if_err (Ok x) P Q then h = tt
if_err (Err e) P Q then h = then e h

pub returns-in-Ok-clause-ran : goal.returns-in-Ok-clause-ran
returns-in-Ok-clause-ran g c =
    let how = c.how_of-recorder.ensures in
    let dated : is_some c.as_ref-dated.result ≡ is_followed c.args.first.clocks =
    c.as_ref-dated.ensures.variant ∙ c.shared-times.ensures ∙ c.in-Ok.ensures.2 ∙ ap is_followed how.8 in
    let ran = rw (dated, how.0, how.1, how.2, how.3, how.4, how.5, how.6, how.7) at c.run_over-recorded.ensures.ran in
    if_ok c.with_times.result _ _ (λ left made. rw (made.2, made.3) (when_ok c.run_over-recorded.result.recorded made.0 _ made.1 ran)) c.with_times.ensures.made

pub returns-in-Ok-clause-times : goal.returns-in-Ok-clause-times
returns-in-Ok-clause-times g c =
    if_ok c.with_times.result _ _ (λ left made.
    ap is_some made.4 ∙ c.unshared.ensures ∙ c.shared-times.ensures ∙ c.in-Ok.ensures.2 ∙ ap is_followed c.how_of-recorder.ensures.8) c.with_times.ensures.made

pub returns-in-Ok-clause-failed : goal.returns-in-Ok-clause-failed
returns-in-Ok-clause-failed g c =
    let how = c.how_of-recorder.ensures in
    let dated : is_some c.as_ref-dated.result ≡ is_followed c.args.first.clocks =
    c.as_ref-dated.ensures.variant ∙ c.shared-times.ensures ∙ c.in-Ok.ensures.2 ∙ ap is_followed how.8 in
    let failed = rw (dated, how.0, how.4) at c.run_over-recorded.ensures.failed in
    if_err c.with_times.result _ _ (λ fault is. when_err c.run_over-recorded.result.recorded fault _ is failed) c.with_times.ensures.failed
