use Rattle.std.proofs.Common.{◌≡◌, [], ◌+◌, length, sym, ap, ◌∙◌, arith}
use Rattle.std.specs.Prelude.{slice_index_or}
use Rattle.comtrade_values.specs.Lines.{fields}
use Rattle.comtrade_read.proofs.Outcomes.{part_is}
use Rattle.comtrade_read.proofs.OneByOne.{cut_some, cut_none}
use Rattle.comtrade_read.proofs.cells.first_field.Goals as goal

pub returns-in-Some-clause-first : goal.returns-in-Some-clause-first
returns-in-Some-clause-first c = c.trim.ensures ∙ sym (cut_some c.args.line.now c.in-Some.at (sym c.in-Some.ensures)).0

pub returns-in-Some-clause-rest : goal.returns-in-Some-clause-rest
returns-in-Some-clause-rest c = λ lt. ap fields (part_is (c.in-Some.at + 1) c.args.line.now) ∙ sym (cut_some c.args.line.now c.in-Some.at (sym c.in-Some.ensures)).1

pub returns-in-None-clause-first : goal.returns-in-None-clause-first
returns-in-None-clause-first c = c.trim-in-None.ensures ∙ sym (ap (λ fs. slice_index_or fs 0 []) (cut_none c.args.line.now (sym c.in-None.ensures)))

pub returns-in-None-clause-rest : goal.returns-in-None-clause-rest
returns-in-None-clause-rest c = λ lt. let one : length (fields c.args.line.now) ≡ 1 = ap length (cut_none c.args.line.now (sym c.in-None.ensures)) in absurd (omega arith)
