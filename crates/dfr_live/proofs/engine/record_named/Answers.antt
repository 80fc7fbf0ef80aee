use Rattle.std.proofs.Common.{◌≡◌, ◌∙◌, ◌++◌, ◌∷◌, [], ℕ, List, length, ap, sym, subst, rules}
use Rattle.dfr_recorder.specs.History.{Opening}
use Rattle.dfr_live.specs.Devices.{GotAll, GotFront}
use Rattle.dfr_live.specs.Causes.{RunFails}
use Rattle.dfr_live.proofs.Placing.{Fails, by-export, by-end, front_of_all, got_these, handed_up}
use Rattle.dfr_live.specs.Seen.{TokenParts, new_tokens}
use Rattle.dfr_live.proofs.Recording.{recorded_in, two_gone}
use Rattle.dfr_live.proofs.Seats.{two_seats}
use Rattle.dfr_live.proofs.engine.record_named.Goals as goal

pub returns-clause-recorded : goal.returns-clause-recorded
returns-clause-recorded g c =
    let p = c.in_ok-run_threads.ensures in
    let q = c.in_ok-hand_rest.ensures in
    let new = c.run_threads.new in
    let got =
    subst (λ (o : Opening). GotAll g.K.Outlet.puts g.K.Outlet.lacks o c.args.kind c.args.outlet.now new.second.token.made new.second.gone new.outlet)
    (c.share_with-shared.ensures.shared ∙ c.requires.named.0) p.handed_on.2 in
    let two : length c.share_with-shared.result.2.items ≡ 2 = ap (λ (l : List TokenParts). length l) c.share_with-shared.ensures.tokens ∙ ap (λ (n : ℕ). length (new_tokens n)) c.requires.seats in
    let none = two_gone _ _ c.pop-2.new.self.items c.in-Some-pop.first c.in-Some.second two c.in-Some.ensures.items c.in-Some-pop.ensures.items in
    recorded_in g.F.Intake.gives g.F.Intake.loses g.O.Desk.asks g.O.Desk.hears g.K.Outlet.puts g.K.Outlet.lacks g.N.Session.opening c.args.kind
    (c.args.feed.now, c.args.desk.now, c.args.outlet.now) (new.feed, new.desk, c.hand_rest.new.outlet) c.hand_rest.new.inner new.source new.first c.hand_rest.new.token
    c.report.result _ (rw c.is_all_gone.ensures.same.0 at c.report.ensures.ended)
    (c.push_reserved-2.ensures.items ∙ ap (λ (l : List TokenParts). l ++ c.hand_rest.new.token ∷ []) (c.push_reserved.ensures.items ∙ ap (λ (l : List TokenParts). l ++ new.first ∷ []) none))
    (p.seat ∙ search rules) (q.on.0 ∙ p.handed_on.0 ∙ search rules)
    (q.on.1 ∙ p.handed_on.1 ∙ search rules) p.fed p.all p.ordered (q.on.3 p.handed_on.3)
    (got_these g.K.Outlet.puts g.K.Outlet.lacks g.N.Session.opening c.args.kind c.args.outlet.now c.hand_rest.new.outlet c.hand_rest.new.token.made c.hand_rest.new.gone _ (q.on.2 c.args.outlet.now got) (c.is_all_gone.ensures.all (search rules)))
    q.none

pub report-requires-clause-once : goal.report-requires-clause-once
report-requires-clause-once g c =
    let p = c.in_ok-run_threads.ensures in
    let q = c.in_ok-hand_rest.ensures in
    let new = c.run_threads.new in
    let two : length c.share_with-shared.result.2.items ≡ 2 = ap (λ (l : List TokenParts). length l) c.share_with-shared.ensures.tokens ∙ ap (λ (n : ℕ). length (new_tokens n)) c.requires.seats in
    let none = two_gone _ _ c.pop-2.new.self.items c.in-Some-pop.first c.in-Some.second two c.in-Some.ensures.items c.in-Some-pop.ensures.items in
    two_seats _ _ new.first c.hand_rest.new.token (sym c.requires.named.2 ∙ c.requires.seats)
    (c.push_reserved-2.ensures.items ∙ ap (λ (l : List TokenParts). l ++ c.hand_rest.new.token ∷ []) (c.push_reserved.ensures.items ∙ ap (λ (l : List TokenParts). l ++ new.first ∷ []) none))
    (p.seat ∙ search rules) (q.on.0 ∙ p.handed_on.0 ∙ search rules)

pub returns-in_err-run_threads-clause-cause : goal.returns-in_err-run_threads-clause-cause
returns-in_err-run_threads-clause-cause g c =
    let came = c.in_err-run_threads in
    handed_up c.from_residual.result came.field-0.0
    (Fails g.F.Intake.gives g.F.Intake.loses g.K.Outlet.puts g.K.Outlet.lacks g.N.Session.opening c.args.kind c.args.feed.now c.args.outlet.now c.run_threads.new.feed c.run_threads.new.outlet)
    c.from_residual.ensures.1
    (subst (λ (o : Opening). RunFails g.F.Intake.gives g.F.Intake.loses g.K.Outlet.puts g.K.Outlet.lacks o c.args.kind c.args.feed.now c.args.outlet.now c.run_threads.new.feed c.run_threads.new.outlet came.field-0.0)
    (c.share_with-shared.ensures.shared ∙ c.requires.named.0) came.ensures.cause)

pub returns-in_err-run_threads-clause-front : goal.returns-in_err-run_threads-clause-front
returns-in_err-run_threads-clause-front g c =
    subst (λ (o : Opening). GotFront g.K.Outlet.puts g.K.Outlet.lacks o c.args.kind c.args.outlet.now c.run_threads.new.outlet)
    (c.share_with-shared.ensures.shared ∙ c.requires.named.0) c.in_err-run_threads.ensures.front

pub returns-in_err-hand_rest-clause-cause : goal.returns-in_err-hand_rest-clause-cause
returns-in_err-hand_rest-clause-cause g c =
    let p = c.in_ok-run_threads.ensures in
    let new = c.run_threads.new in
    let got =
    subst (λ (o : Opening). GotAll g.K.Outlet.puts g.K.Outlet.lacks o c.args.kind c.args.outlet.now new.second.token.made new.second.gone new.outlet)
    (c.share_with-shared.ensures.shared ∙ c.requires.named.0) p.handed_on.2 in
    let came = c.in_err-hand_rest in
    handed_up c.from_residual-in_err-hand_rest.result came.field-0.0
    (Fails g.F.Intake.gives g.F.Intake.loses g.K.Outlet.puts g.K.Outlet.lacks g.N.Session.opening c.args.kind c.args.feed.now c.args.outlet.now new.feed c.hand_rest.new.outlet)
    c.from_residual-in_err-hand_rest.ensures.1
    (by-export g.F.Intake.gives g.F.Intake.loses g.K.Outlet.puts g.K.Outlet.lacks g.N.Session.opening c.args.kind c.args.feed.now c.args.outlet.now new.feed c.hand_rest.new.outlet came.field-0.0
    (came.ensures.fault c.args.outlet.now got).0)

pub returns-in_err-hand_rest-clause-front : goal.returns-in_err-hand_rest-clause-front
returns-in_err-hand_rest-clause-front g c =
    let p = c.in_ok-run_threads.ensures in
    let new = c.run_threads.new in
    let got =
    subst (λ (o : Opening). GotAll g.K.Outlet.puts g.K.Outlet.lacks o c.args.kind c.args.outlet.now new.second.token.made new.second.gone new.outlet)
    (c.share_with-shared.ensures.shared ∙ c.requires.named.0) p.handed_on.2 in
    (c.in_err-hand_rest.ensures.fault c.args.outlet.now got).1

pub returns-clause-cause : goal.returns-clause-cause
returns-clause-cause g c =
    by-end g.F.Intake.gives g.F.Intake.loses g.K.Outlet.puts g.K.Outlet.lacks g.N.Session.opening c.args.kind c.args.feed.now c.args.outlet.now c.run_threads.new.feed c.hand_rest.new.outlet
    c.report.result c.report.ensures.fault

pub returns-clause-front : goal.returns-clause-front
returns-clause-front g c =
    let p = c.in_ok-run_threads.ensures in
    let q = c.in_ok-hand_rest.ensures in
    let new = c.run_threads.new in
    let got =
    subst (λ (o : Opening). GotAll g.K.Outlet.puts g.K.Outlet.lacks o c.args.kind c.args.outlet.now new.second.token.made new.second.gone new.outlet)
    (c.share_with-shared.ensures.shared ∙ c.requires.named.0) p.handed_on.2 in
    front_of_all g.K.Outlet.puts g.K.Outlet.lacks g.N.Session.opening c.args.kind c.args.outlet.now c.hand_rest.new.outlet c.hand_rest.new.token.made c.hand_rest.new.gone (q.on.2 c.args.outlet.now got)

pub returns-then-not-is_all_gone-clause-front : goal.returns-then-not-is_all_gone-clause-front
returns-then-not-is_all_gone-clause-front g c =
    let p = c.in_ok-run_threads.ensures in
    let q = c.in_ok-hand_rest.ensures in
    let new = c.run_threads.new in
    let got =
    subst (λ (o : Opening). GotAll g.K.Outlet.puts g.K.Outlet.lacks o c.args.kind c.args.outlet.now new.second.token.made new.second.gone new.outlet)
    (c.share_with-shared.ensures.shared ∙ c.requires.named.0) p.handed_on.2 in
    front_of_all g.K.Outlet.puts g.K.Outlet.lacks g.N.Session.opening c.args.kind c.args.outlet.now c.hand_rest.new.outlet c.hand_rest.new.token.made c.hand_rest.new.gone (q.on.2 c.args.outlet.now got)
