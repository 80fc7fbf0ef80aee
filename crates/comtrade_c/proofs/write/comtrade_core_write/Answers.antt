use Rattle.std.proofs.Common.{sym, ◌∙◌, w32, rules}
use Rattle.std.proofs.lemmas.Int.{to_z-of_z}
use Rattle.comtrade_c.proofs.write.comtrade_core_write.Goals as goal

pub returns-in-Err-clause-cfg_fault : goal.returns-in-Err-clause-cfg_fault
returns-in-Err-clause-cfg_fault c =
    λ is. c.in-Err.ensures.fault (sym (to_z-of_z w32 c.in-Err.answer (search rules)) ∙ is)
