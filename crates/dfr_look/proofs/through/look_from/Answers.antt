use Rattle.std.proofs.Common.{sym}
use Rattle.dfr_look.proofs.Throughs.{none_yet, one_more}
use Rattle.dfr_look.proofs.through.look_from.Goals as goal

pub loop-at-init : goal.loop-at-init
loop-at-init g c = record { within = c.requires; so_far = none_yet _ _ _ c.new-look.ensures }

pub loop-at-preserved : goal.loop-at-preserved
loop-at-preserved g c = record {
  within = c.in-Ok.ensures.inside.2;
  so_far = one_more _ _ _ _ _ _ _ _ _ (sym c.in-Ok.ensures.exact) c.loop-at.invariant.so_far c.time_of-time.ensures c.with_time-times.ensures c.in_ok-look.ensures;
}
