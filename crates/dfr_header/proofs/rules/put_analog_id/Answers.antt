use Rattle.std.proofs.Common.{append-nil, refl, arith}
use Rattle.std.proofs.lemmas.Option.{slice_get_past}
use Rattle.dfr_header.proofs.rules.put_analog_id.Goals as goal

pub returns-in-None : goal.returns-in-None
returns-in-None g c = rw (slice_get_past c.args.channels.now c.args.channel (omega (arith, c.in-None.ensures.lookup)), append-nil) refl
