use Rattle.std.proofs.Common.{rules}
use Rattle.dfr_sequence.proofs.Steps.{begun}
use Rattle.dfr_sequence.proofs.contact.Contact.new.Goals as goal

pub returns : goal.returns
returns g c = begun c.args.channel c.args.limit c.args.normal _ (search rules)
