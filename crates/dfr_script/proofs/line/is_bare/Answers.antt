use Rattle.std.proofs.Common.{sym, ◌∙◌}
use Rattle.dfr_script.proofs.Bare.{solid_first}
use Rattle.dfr_script.proofs.line.is_bare.Goals as goal

pub returns-in-len1-up : goal.returns-in-len1-up
returns-in-len1-up c = sym (solid_first c.args.text.now c.in-len1-up.len_at_least (sym c.is_blank.ensures ∙ c.if-not-is_blank.true))
