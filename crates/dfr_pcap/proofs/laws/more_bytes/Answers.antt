use Rattle.dfr_pcap.proofs.More.{head_stays, packet_stays}
use Rattle.dfr_pcap.proofs.laws.more_bytes.Goals as goal

pub returns : goal.returns
returns c = record { head = head_stays; packet = packet_stays }
