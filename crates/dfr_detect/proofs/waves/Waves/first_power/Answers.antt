use Rattle.dfr_detect.proofs.Phased.{real_bounded, imaginary_bounded}
use Rattle.dfr_detect.proofs.waves.Waves.first_power.Goals as goal

pub power-requires-clause-real : goal.power-requires-clause-real
power-requires-clause-real g c = real_bounded _ _ _ _ _ c.self.invariant.one c.self.invariant.small c.self.invariant.few c.self.invariant.bounded

pub power-requires-clause-imaginary : goal.power-requires-clause-imaginary
power-requires-clause-imaginary g c = imaginary_bounded _ _ _ _ _ c.self.invariant.one c.self.invariant.small c.self.invariant.few c.self.invariant.bounded
