use Rattle.std.proofs.Common.{◌∙◌, ◌+◌, ◌-◌, ◌≤◌, sym, length, drop, length-drop, arith}
use Rattle.std.proofs.lemmas.List.{take_all}
use Rattle.dfr_script.proofs.CutFields.{fields_some}
use Rattle.dfr_script.proofs.scan_line.at_comma.Goals as goal

pub returns-in-Some-clause-fields : goal.returns-in-Some-clause-fields
returns-in-Some-clause-fields c =
    let text = c.args.text.now in
    let short : length (drop (c.in-Some.at + 1) text) ≤ length text - (c.in-Some.at + 1) = omega (arith, length-drop (c.in-Some.at + 1) text) in
    rw (take_all (length text - (c.in-Some.at + 1)) (drop (c.in-Some.at + 1) text) short, c.trim-in-Some.ensures) (fields_some text c.in-Some.at (sym c.place_of_comma.ensures ∙ c.in-Some.is))
