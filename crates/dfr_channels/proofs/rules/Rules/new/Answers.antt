use Rattle.std.proofs.Common.{sym, ◌∙◌}
use Rattle.dfr_channels.specs.Firing.{rules_fit, names_channel}
use Rattle.dfr_channels.proofs.Lawful.{none_fails}
use Rattle.dfr_channels.proofs.rules.Rules.new.Goals as goal

pub returns-in-None-clause-fits : goal.returns-in-None-clause-fits
unfolding rules_fit
returns-in-None-clause-fits g c =
    let none = rw c.deref.ensures.value at (sym c.lowest_without.ensures.lowest ∙ c.in-None.is) in
    rw c.of.ensures (none_fails (names_channel c.args.layout.now) c.args.list.items none)
