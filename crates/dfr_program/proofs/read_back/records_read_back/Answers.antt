use Rattle.std.proofs.Common.{All, subst}
use Rattle.dfr_channels.specs.Parts.{SetupParts}
use Rattle.dfr_channels.specs.Setups.{IsLawful}
use Rattle.comtrade_values.specs.Spelling.{IsNumber}
use Rattle.dfr_recorder.specs.History.{opening}
use Rattle.dfr_channels.specs.Decimals.{HasDecimals}
use Rattle.dfr_program.proofs.ReadBack.{records_read}
use Rattle.dfr_program.proofs.read_back.records_read_back.Goals as goal

pub returns : goal.returns
returns g c = λ rules.
    let same = c.layout-layout.ensures in
    records_read (opening c.args.recorder.now.layout c.args.recorder.now.limits rules)
    (subst IsLawful same c.rate-rate.ensures.lawful)
    (subst (λ (l : SetupParts). All HasDecimals l.analog) same c.layout_has_numbers.ensures.analog)
    (subst (λ (l : SetupParts). IsNumber l.line_freq) same c.layout_has_numbers.ensures.line_freq)
    c.limits-limits.ensures.fit
