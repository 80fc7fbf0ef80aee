use Rattle.dfr_bus.proofs.OneList.{packets_once}
use Rattle.dfr_bus.proofs.laws.packets.Goals as goal

pub returns : goal.returns
returns c = packets_once
