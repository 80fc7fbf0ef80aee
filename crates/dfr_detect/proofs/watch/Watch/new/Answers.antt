use Rattle.std.proofs.Common.{rules}
use Rattle.dfr_detect.proofs.Fitted.{settings_fit}
use Rattle.dfr_detect.proofs.watch.Watch.new.Goals as goal

pub waves_of-requires : goal.waves_of-requires
waves_of-requires g c =
    let fits = settings_fit c.args.settings c.requires in
    fits.condition

pub invariant_of-result : goal.invariant_of-result
invariant_of-result g c = record {
  fits = settings_fit _ c.requires;
  wide = search rules;
  few = search rules;
  short = search rules;
}
