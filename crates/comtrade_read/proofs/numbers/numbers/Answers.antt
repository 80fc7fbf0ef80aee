use Rattle.std.proofs.Common.{All, List, subst}
use Rattle.std.proofs.lemmas.List.Elements.{recursion_from_All}
use Rattle.comtrade_values.specs.Spelling.{IsNumber}
use Rattle.dfr_channels.specs.Parts.{AnalogParts}
use Rattle.comtrade_format.specs.declared.file.Rate.{Rate}
use Rattle.dfr_channels.specs.Decimals.{HasDecimals}
use Rattle.comtrade_read.proofs.numbers.numbers.Goals as goal

abbrev HasSamp : Rate → Type 0
HasSamp r = IsNumber r.samp

pub returns : goal.returns
returns g c =
    let analog : All HasDecimals c.head.inside.analog = subst (λ (l : List AnalogParts). All HasDecimals l) c.items.ensures c.channels_have_numbers.ensures in
    let rates : All HasSamp c.head.inside.rates = subst (λ (l : List Rate). All HasSamp l) c.items-2.ensures c.samps.ensures in
    rw (← c.head.view_is) (record {
      analog = recursion_from_All HasDecimals c.head.inside.analog analog;
      line_freq = c.decimal_is_number.ensures;
      rates = recursion_from_All HasSamp c.head.inside.rates rates;
      timemult = c.decimal_is_number-2.ensures;
    })
