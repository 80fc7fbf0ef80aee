use Rattle.std.proofs.Common.{◌≡◌, ◌-◌, [], ap, rules, ℕ}
use Rattle.circular_buffer.specs.Buffer.{buffer}
use Rattle.dfr_detect.proofs.Phased.{waves_start}
use Rattle.dfr_detect.proofs.waves.Waves.clear.Goals as goal

pub invariant_of-self : goal.invariant_of-self
invariant_of-self g c =
    let w = c.self.inside in
    let n = w.ring.capacity in
    let seen : c.clear.new.self ≡ buffer [] n = search rules in
    let size : c.capacity.result ≡ n = search rules in
    waves_start n w.first w.other w.table c.other_nothing-self-inside.result c.clear.new.self (c.capacity.result - 1) c.self.invariant.weights c.self.invariant.some c.self.invariant.bounded seen
    (ap (λ (m : ℕ). m - 1) size) c.other_nothing-self-inside.ensures
