use Rattle.std.proofs.Common.{◌&&◌, ◌∙◌, List, length, refl, ap, nat_lt}
use Rattle.comtrade_format.specs.Borders.{rate_at}
use Rattle.comtrade_format.specs.Times.{are_rates}
use Rattle.comtrade_format.specs.declared.file.Rate.{Rate}
use Rattle.comtrade_format.proofs.values.border.search_in.Goals as goal

pub returns : goal.returns
returns c = λ head stamps rates_are counted factor. record {
  left = λ later below. ap (λ rates. rate_at rates later) rates_are;
  timemult = factor;
  has_borders = c.can_have_borders.ensures
      ∙ ap (λ (rates : List Rate). nat_lt 1 (length rates) && (c.args.are_counted && are_rates rates)) rates_are
      ∙ ap (λ are. nat_lt 1 (length head.rates) && (are && are_rates head.rates)) counted;
  interval = refl;
  time = refl;
  fits = refl;
  changes = refl;
}
