use Rattle.std.proofs.Common.{to_z-of_z, FitsSigned, w64, rules, refl}
use Rattle.comtrade_write.specs.OfRecord.{head_of}
use Rattle.comtrade_write.proofs.of_record.head.Goals as goal

pub returns : goal.returns
returns g c =
    let f : FitsSigned w64 c.instant_at-first.result = search rules in
    let t : FitsSigned w64 c.instant_at-trigger.result = search rules in
    rw (to_z-of_z, to_z-of_z) (rw (c.in_ok-station.ensures, c.in_ok-device.ensures, c.in_ok-analog.ensures, c.in_ok-status.ensures, c.in_ok-rates.ensures, c.station.ensures, c.device.ensures, c.analog.ensures, c.status.ensures, c.line_freq.ensures, c.rate.ensures.value, c.scans.ensures, c.whole.ensures, c.instant_at-first.ensures, c.instant_at-trigger.ensures, c.extent-extent.ensures.value) (refl {a = head_of c.args.layout.now c.args.taken.now c.args.kind}))
