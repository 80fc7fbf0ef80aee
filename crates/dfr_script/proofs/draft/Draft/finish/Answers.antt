use Rattle.std.proofs.Common.{rules, w64, SFits}
use Rattle.std.proofs.lemmas.Int.{to_z-of_z}
use Rattle.dfr_script.proofs.Drafting.{whole_of}
use Rattle.dfr_script.proofs.draft.Draft.finish.Goals as goal

pub returns : goal.returns
returns g c =
    let fits : SFits w64 c.in_ok-start.start = search rules in
    rw (← c.self.view_is, c.rules_or_none-rules.ensures, c.of.ensures, c.of-2.ensures, to_z-of_z w64 c.in_ok-start.start fits)
    (whole_of _ c.in_ok-station.station c.in_ok-device.device c.in_ok-line_freq.line_freq c.in_ok-rate.rate c.in_ok-start.start c.in_ok-limits.limits
    c.in_ok-station.was c.in_ok-device.was c.in_ok-line_freq.was c.in_ok-rate.was c.in_ok-start.was c.in_ok-limits.was)
