use Rattle.std.proofs.Common.{◌≡◌, ◌++◌, take}
use Rattle.comtrade_views.specs.Html.{in_html}
use Rattle.comtrade_views.proofs.html.put_html.Given as goal

abbrev pub invariant-loop-b : goal.invariant-loop-b
invariant-loop-b g l = l.out.items ≡ l.initial.out.items ++ in_html (take l.b-index l.text)
