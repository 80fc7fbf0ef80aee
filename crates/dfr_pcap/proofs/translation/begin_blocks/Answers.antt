use Rattle.dfr_pcap.proofs.Translated.{blocks_begin}
use Rattle.dfr_pcap.proofs.translation.begin_blocks.Goals as goal

pub returns-in-Ok-clause-takes : goal.returns-in-Ok-clause-takes
returns-in-Ok-clause-takes g c =
    blocks_begin c.go_on.result c.args.blocks.now c.go_on.new.self c.args.out.now.items c.pass_on.new.out.items c.go_on.new.out.items
    c.go_on.ensures.short c.requires c.in-Ok.ensures c.go_on.ensures.goes
