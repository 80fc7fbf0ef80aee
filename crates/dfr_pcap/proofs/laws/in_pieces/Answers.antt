use Rattle.dfr_pcap.proofs.Whole.{is_new, is_added, is_begun, is_passed_on, is_step}
use Rattle.dfr_pcap.proofs.laws.in_pieces.Goals as goal

pub returns : goal.returns
returns c = record { new = is_new; added = is_added; begun = is_begun; passed = is_passed_on; step = is_step }
