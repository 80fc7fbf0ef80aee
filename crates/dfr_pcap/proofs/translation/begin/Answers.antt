use Rattle.dfr_pcap.proofs.Translated.{unknown_any}
use Rattle.dfr_pcap.proofs.translation.begin.Goals as goal

pub returns-in-Unknown-clause-takes : goal.returns-in-Unknown-clause-takes
returns-in-Unknown-clause-takes g c = unknown_any c.args.form c.args.blocks.now c.args.out.now.items c.in-Unknown.is c.requires
