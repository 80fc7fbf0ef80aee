use Rattle.std.proofs.Common.{sym, ◌∙◌, w32, rules}
use Rattle.std.proofs.lemmas.Int.{to_z-of_z}
use Rattle.comtrade_c.proofs.Lacking.{lacks}
use Rattle.comtrade_c.proofs.channels.comtrade_core_channels.Goals as goal

pub returns-in-Err-clause-cfg_fault : goal.returns-in-Err-clause-cfg_fault
returns-in-Err-clause-cfg_fault c =
    λ is. c.in-Err.ensures.fault (sym (to_z-of_z w32 c.in-Err.answer (search rules)) ∙ is)

pub returns-clause-room : goal.returns-clause-room
returns-clause-room c = λ is. (
  c.in-Ok.head,
  c.in-Ok.ensures.found,
  lacks c.in-Ok.head c.args.analog.now c.in-Ok-tables_of.all.analog.items c.args.normal.now c.in-Ok-tables_of.all.normal.items
      c.args.rates.now c.in-Ok-tables_of.all.rates.items c.args.lengths.now c.in-Ok-tables_of.all.lengths.items c.args.text.now
      c.in-Ok-tables_of.all.text.items c.in-Ok-tables_of.ensures (c.fill.ensures.room c.if-fill.false),
)
