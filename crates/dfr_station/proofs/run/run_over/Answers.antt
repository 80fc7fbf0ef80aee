use Rattle.std.proofs.Common.{◌≡◌, Result, Ok, Err, refl, sym, ◌∙◌, ap, subst}
use Rattle.std.specs.Prelude.{IfOk, IfErr, MatchResult, is_some}
use Rattle.dfr_live.specs.Devices.{taken_in}
use Rattle.dfr_live.specs.Seen.{opening_of}
use Rattle.dfr_station.specs.Acquiring.{Acquired}
use Rattle.dfr_station.specs.Storing.{unasked}
use Rattle.dfr_station.specs.declared.intake.arrivals.Arrivals.{Arrivals}
use Rattle.dfr_station.proofs.Failing.{run_fails, stored_all, out_fails}
use Rattle.dfr_station.proofs.Hearers.{heard_all}
use Rattle.dfr_station.proofs.Lanes.{fed_lane}
use Rattle.dfr_station.proofs.Orders.{made_lane}
use Rattle.dfr_station.specs.Desks.{awaited}
use Rattle.dfr_station.proofs.run.run_over.Goals as goal

when_ok : {T E : Type 0} (r : Result T E) (P : T → Type 0) (Q : E → Type 0) → MatchResult r P Q → IfOk r P
when_ok (Ok x) P Q h = h
when_ok (Err e) P Q h = tt

when_err : {T E : Type 0} (r : Result T E) (P : T → Type 0) (Q : E → Type 0) → MatchResult r P Q → IfErr r Q
when_err (Ok x) P Q h = tt
when_err (Err e) P Q h = h

if_err : {T E : Type 0} (r : Result T E) (P Q : E → Type 0) → ((e : E) → P e → Q e) → IfErr r P → IfErr r Q
if_err (Ok x) P Q then h = tt
if_err (Err e) P Q then h = then e h

if_ok : {T E : Type 0} (r : Result T E) (P Q : T → Type 0) → ((x : T) → P x → Q x) → IfOk r P → IfOk r Q
if_ok (Ok x) P Q then h = then x h
if_ok (Err e) P Q then h = tt

-- what is known of the report behind an outcome
behind : {T E : Type 0} (a b : Result T E) (P Q : T → Type 0) (x : T) → b ≡ Ok x → IfOk b (λ y. (a ≡ Ok y) × Q y) → IfOk a P → P x × Q x
behind {T} {E} a b P Q x e all h =
    let w : (a ≡ Ok x) × Q x = subst (λ (r : Result T E). IfOk r (λ y. (a ≡ Ok y) × Q y)) e all in
    (subst (λ (r : Result T E). IfOk r P) w.0 h, w.1)

-- an intake that stayed as it was has its input
same_input : {I A O K : Type 0} (old new : Acquired (Arrivals I A) A × O × K) (input : I) → old.0.incoming.input ≡ input → new ≡ old → new.0.incoming.input ≡ input
same_input {I} {A} {O} {K} old new input begins is = ap (λ (d : Acquired (Arrivals I A) A × O × K). d.0.incoming.input) is ∙ begins

pub all_made-report-requires : goal.all_made-report-requires
all_made-report-requires g c =
    let s = c.new-scans.ensures in
    let start : c.new-intake.result.orders.lane ≡ c.new-desk.result.lane = rw (c.new-intake.ensures, c.new-desk.ensures) c.requires.parts.4 in
    record {
      one = if_ok c.record_printing-report.result _ _ (λ report recorded.
          let lane = fed_lane g.I.Read.remaining c.new-intake.result c.record_printing-report.new.intake (taken_in recorded.report.source) recorded.fed in
          lane ∙ start ∙ sym (made_lane c.new-desk.result c.record_printing-report.new.desk _ _ recorded.ordered))
          (when_ok c.record_printing-report.result _ _ c.record_printing-report.ensures);
    }

pub returns-clause-ran : goal.returns-clause-ran
returns-clause-ran g c =
    let s = c.new-scans.ensures in
    if_ok c.recorded_of.result _ _ (λ left made.
    let known = behind c.record_printing-report.result c.all_made-report.result _ _ made.0 made.1 c.all_made-report.ensures.all
    (when_ok c.record_printing-report.result _ _ c.record_printing-report.ensures) in
    let recorded = rw (c.new-outlet.ensures, c.requires.layout) at known.0 in (
      c.new-arrivals.result,
      c.new-arrivals.ensures,
      record {
        begun = c.new-intake.result;
        over = c.record_printing-report.new.intake;
        opened = c.new-desk.result;
        closed = c.record_printing-report.new.desk;
        exported = c.record_printing-report.new.outlet;
        report = made.0;
        begins = rw c.new-intake.ensures (refl, s.1, s.2, s.0, s.3, s.4, s.5, s.6, s.7 ∙ c.requires.parts.0, c.requires.parts.1, s.8);
        opens = rw c.new-desk.ensures (c.requires.parts.3, refl, refl, ap (λ n. awaited c.args.how.waits n) (c.shelf-shelf.ensures ∙ ap (λ l. l.shelf) c.limits.ensures.value));
        recorded = recorded;
        heard = λ ws works kept. heard_all g.I.Read.remaining (is_some c.args.times) ws works _ c.new-intake.result c.record_printing-report.new.intake (taken_in recorded.report.source)
            (rw (c.new-intake.ensures, c.requires.parts.1, s.3, s.4) refl) (rw c.new-intake.ensures s.2) (rw c.new-intake.ensures s.0) (kept ∙ sym (rw c.new-intake.ensures s.8)) recorded.fed;
        ordered_all = known.1;
        input_over = rw (c.into_input.ensures, c.all_made-report.ensures.same.0) refl;
        store_over = rw c.into_store.ensures refl;
        same_end = made.2;
        all_scans = rw made.3 c.counts.ensures.0;
        all_lost = rw made.3 c.counts.ensures.1;
        not_made = rw (made.3, c.counts.ensures.0) refl;
        taken = rw made.3 c.records.ensures;
        given_up = rw made.3 c.unwritten.ensures;
      },
    )) c.recorded_of.ensures.made

pub returns-clause-failed : goal.returns-clause-failed
returns-clause-failed g c =
    let o = opening_of c.args.recorder in
    let run = c.record_printing-report in
    let begins : c.new-outlet.result ≡ unasked o c.args.how.kind (is_some c.args.times) c.args.store =
    c.new-outlet.ensures ∙ rw c.requires.layout refl in
    let ends = sym c.into_store.ensures in
    let begun : c.new-intake.result.incoming.input ≡ c.args.input = rw c.new-intake.ensures c.new-arrivals.ensures.0 in
    let left : run.new.intake.incoming.input ≡ c.into_input.result = rw (c.into_input.ensures, c.all_made-report.ensures.same.0) refl in
    let fails = run_fails g.K.Store.stores o c.args.how.kind (is_some c.args.times) _ _ _ c.args.input c.into_input.result c.args.store c.into_store.result begins ends
    (λ is. sym left ∙ same_input _ _ c.args.input begun is) in
    out_fails _ _ (λ report recorded. stored_all g.K.Store.stores o c.args.how.kind (is_some c.args.times) c.new-outlet.result run.new.outlet recorded.handed_on.0 c.args.store c.into_store.result begins ends recorded.handed_on.1)
    run.result c.all_made-report.result c.recorded_of.result c.recorded_of.ensures.failed c.all_made-report.ensures.failed
    (if_err run.result _ _ fails (when_err run.result _ _ run.ensures)) (when_ok run.result _ _ run.ensures)
