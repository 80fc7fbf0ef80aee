use Rattle.std.proofs.Common.{◌≡◌, ◌-◌, [], refl, rules}
use Rattle.circular_buffer.specs.Buffer.{buffer}
use Rattle.dfr_detect.specs.Turns.{IsTable}
use Rattle.dfr_detect.proofs.Phased.{waves_start}
use Rattle.dfr_detect.proofs.waves.Waves.with_scans.Goals as goal

pub invariant_of-result : goal.invariant_of-result
invariant_of-result g c =
    let n = c.args.scans in
    let weights : IsTable n n c.args.first c.args.other c.of-table.result = search rules in
    let seen : c.in_ok-ring.ring ≡ buffer [] n = search rules in
    waves_start n c.args.first c.args.other c.of-table.result c.other_nothing.result c.in_ok-ring.ring (n - 1) weights c.requires.some c.requires.few seen refl c.other_nothing.ensures
