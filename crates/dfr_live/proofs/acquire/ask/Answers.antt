use Rattle.std.proofs.Common.{ap, Ok, ◌∙◌, refl, subst}
use Rattle.dfr_live.specs.Seen.{SourceParts}
use Rattle.dfr_live.specs.Devices.{TookIn}
use Rattle.dfr_live.proofs.TakingIn.{took_scan, took_loss, took_none}
use Rattle.dfr_live.proofs.acquire.ask.Goals as goal

pub returns-in-Ok-Scan-clause-on : goal.returns-in-Ok-Scan-clause-on
returns-in-Ok-Scan-clause-on g c =
    λ h. subst (λ (s : SourceParts). TookIn g.F.Intake.gives g.F.Intake.loses c.args.feed.now s c.args.given.now c.offer_one.new.feed c.offer_one.new.source c.on.new.given) c.spare-spare.ensures
    (took_scan g.F.Intake.gives g.F.Intake.loses c.args.feed.now c.next.new.self c.offer_one.new.feed
    c.spare-spare.new.self c.offer_one.new.source c.args.given.now c.on.new.given c.in-Ok-Scan.scan c.next.result c.next.ensures
    (c.in-Ok-Scan.is ∙ ap (λ x. Ok x) c.in-Ok-Scan.field-0-is) (c.offer_one.ensures.taken (c.on.ensures.on h).0) (c.on.ensures.on h).1)

pub returns-in-Ok-Lost-clause-on : goal.returns-in-Ok-Lost-clause-on
returns-in-Ok-Lost-clause-on g c =
    λ h. subst (λ (s : SourceParts). TookIn g.F.Intake.gives g.F.Intake.loses c.args.feed.now s c.args.given.now c.next.new.self c.count_lost.new.source c.on-in-Ok-Lost.new.given) c.spare-spare.ensures
    (took_loss g.F.Intake.gives g.F.Intake.loses c.args.feed.now c.next.new.self
    c.spare-spare.new.self c.count_lost.new.source c.args.given.now c.on-in-Ok-Lost.new.given c.next.result c.next.ensures
    (c.in-Ok-Lost.is ∙ ap (λ x. Ok x) c.in-Ok-Lost.field-0-is) (c.count_lost.ensures.counted (c.on-in-Ok-Lost.ensures.on h).0) (c.on-in-Ok-Lost.ensures.on h).1)

pub returns-in-Ok-NotYet-clause-on : goal.returns-in-Ok-NotYet-clause-on
returns-in-Ok-NotYet-clause-on g c =
    λ h. took_none g.F.Intake.gives g.F.Intake.loses c.args.feed.now c.next.new.self
    c.args.source.now c.spare-spare.new.self c.args.given.now c.on-in-Ok-NotYet.new.given c.next.result c.next.ensures
    (c.in-Ok-NotYet.is ∙ ap (λ x. Ok x) c.in-Ok-NotYet.field-0-is) c.spare-spare.ensures (c.on-in-Ok-NotYet.ensures.on h).1
