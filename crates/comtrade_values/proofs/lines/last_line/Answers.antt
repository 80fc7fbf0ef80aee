use Rattle.std.proofs.Common.{◌+◌, refl, ◌∙◌}
use Rattle.std.proofs.lemmas.List.{take_rest}
use Rattle.comtrade_values.proofs.LineCuts.{cut_last}
use Rattle.comtrade_values.proofs.lines.last_line.Goals as goal

pub returns-in-Some : goal.returns-in-Some
returns-in-Some c =
    cut_last c.args.text.now c.in-Some.at c.in-Some.ensures ∙ rw (c.without_carriage_return.ensures, take_rest c.args.text.now (c.in-Some.at + 1)) refl
