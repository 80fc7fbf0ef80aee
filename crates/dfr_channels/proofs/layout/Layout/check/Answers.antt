use Rattle.dfr_channels.proofs.Lawful.{lawful}
use Rattle.dfr_channels.proofs.layout.Layout.check.Goals as goal

pub scan_fault-requires : goal.scan_fault-requires
scan_fault-requires g c = (lawful _ c.self.invariant).analog_few
