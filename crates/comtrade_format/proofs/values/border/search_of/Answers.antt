use Rattle.std.proofs.Common.{◌==◌, ◌∙◌, not, ap}
use Rattle.comtrade_format.specs.Parts.{HeadParts}
use Rattle.comtrade_format.proofs.values.border.search_of.Goals as goal

pub returns : goal.returns
returns g c = λ stamps. c.search_in.ensures c.args.head.now stamps
    (c.items.ensures ∙ ap (λ (h : HeadParts). h.rates) c.head.view_is)
    (ap (λ (h : HeadParts). not (h.nrates == 0)) c.head.view_is)
    (ap (λ (h : HeadParts). h.timemult) c.head.view_is)
