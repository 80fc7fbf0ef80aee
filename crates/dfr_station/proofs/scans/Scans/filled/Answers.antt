use Rattle.std.proofs.Common.{◌≡◌, refl, subst}
use Rattle.std.specs.Prelude.{is_some}
use Rattle.dfr_channels.specs.Parts.{ScanParts}
use Rattle.dfr_station.specs.Acquiring.{ScansParts, IsFilled, missing}
use Rattle.dfr_station.specs.Detecting.{IsDetected}
use Rattle.dfr_station.proofs.scans.Scans.filled.Goals as goal

pub returns : goal.returns
returns g c =
    let found = c.in-Ok.ensures in
    let more = c.in-Ok-detected.ensures in
    let is : c.in-Ok.scan ≡ missing c.self.inside.layout.now c.self.inside.filler.bits.items = rw (c.bits.ensures, c.analog-analog.ensures) at found in
    let s = c.self.inside in
    let t : ScansParts = record {
      by_clock = is_some s.times;
      layout = s.layout.now;
      came = s.came;
      lost = s.lost;
      row = s.row;
      bits = s.filler.bits.items;
      last = s.given;
      noted = s.filler.next.items;
      detected = c.detected.new.detectors;
      waits = s.waits;
    } in
    subst (λ (old : ScansParts). IsFilled old c.in-Ok-detected.scan t) c.self.view_is (
      c.if-self-lt-MOST_LOST.false,
      subst (λ (scan : ScanParts). IsDetected c.self.inside.detectors scan c.in-Ok-detected.scan c.detected.new.detectors) is more.ok,
      refl,
    )
