use Rattle.std.specs.Int.{w32, to_le_bytes}
use Rattle.dfr_pcap.proofs.Written.{written}
use Rattle.dfr_pcap.proofs.blocks.write_packet.Goals as goal

pub returns : goal.returns
returns g c =
    written c.args.out.now.items (to_le_bytes w32 c.args.moment.seconds) (to_le_bytes w32 c.args.moment.nanoseconds) (to_le_bytes w32 c.args.kept)
    (to_le_bytes w32 c.args.all) c.args.content.now
    c.write_4.new.out.items c.write_4-2.new.out.items c.write_4-3.new.out.items c.write_4-4.new.out.items c.extend_from_slice.new.self.items
    c.in_ok-write_4.ensures c.in_ok-write_4-2.ensures c.in_ok-write_4-3.ensures c.in_ok-write_4-4.ensures c.in_ok-extend_from_slice.ensures.items
