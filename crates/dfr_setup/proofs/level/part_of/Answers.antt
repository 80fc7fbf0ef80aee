use Rattle.std.proofs.Common.{◌≡◌, sym, ◌∙◌, rules}
use Rattle.dfr_setup.proofs.Parts.{held_number, held_none, held_beyond}
use Rattle.dfr_setup.proofs.level.part_of.Goals as goal

pub returns-in_err-units : goal.returns-in_err-units
returns-in_err-units c = search (rules, held_beyond)

pub returns : goal.returns
returns c = search (rules, held_number, held_none)
