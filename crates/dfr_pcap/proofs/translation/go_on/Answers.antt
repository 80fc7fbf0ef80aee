use Rattle.dfr_pcap.proofs.Translated.{goes_taken}
use Rattle.dfr_pcap.proofs.translation.go_on.Goals as goal

pub returns-in-Ok-clause-takes : goal.returns-in-Ok-clause-takes
returns-in-Ok-clause-takes g c =
    goes_taken c.args.piece.now c.go_on.result c.args.blocks.now c.add.new.self c.go_on.new.self c.args.out.now.items c.go_on.new.out.items
    c.in-Ok.ensures c.go_on.ensures.short c.go_on.ensures.goes
