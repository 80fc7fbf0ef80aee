use Rattle.std.proofs.Common.{sym, ◌∙◌, w32, rules}
use Rattle.std.proofs.lemmas.Int.{to_z-of_z}
use Rattle.comtrade_read.proofs.OneFile.{no_file}
use Rattle.comtrade_read.specs.Reads.{FaultyPair}
use Rattle.comtrade_read.specs.declared.pair.Part.TheVariants.{Dat}
use Rattle.comtrade_c.proofs.Pairs.{tabulates, lacks_room}
use Rattle.comtrade_c.proofs.rows.comtrade_core_rows.Goals as goal

pub returns-in-Err-clause-cfg_fault : goal.returns-in-Err-clause-cfg_fault
returns-in-Err-clause-cfg_fault c =
    let same = to_z-of_z w32 c.in-Err.answer (search rules) in
    λ is.
    let told = c.in-Err.ensures.fault (sym same ∙ is) in
    record {
      why = told.why;
      faulty = told.faulty;
      numbers = told.numbers;
      unread = λ f r. told.unread f.head r.head;
    }

pub returns-in-Ok-true-clause-done : goal.returns-in-Ok-true-clause-done
returns-in-Ok-true-clause-done c = λ done. tabulates c.in-Ok.head c.in-Ok.ensures.found (c.in-Ok-true.ensures.done (search rules))

pub returns-in-Ok-false-clause-room : goal.returns-in-Ok-false-clause-room
returns-in-Ok-false-clause-room c = λ short. lacks_room c.in-Ok.head c.in-Ok.ensures.found (c.in-Ok-false.ensures.room (search rules))

pub returns-clause-dat_fault : goal.returns-clause-dat_fault
returns-clause-dat_fault c = λ _.
    let why = c.in-Err-rows_under.why in
    let faulty : FaultyPair c.args.cfg.now c.args.dat.now Dat why = (c.in-Ok.head, (c.in-Ok.ensures.found, c.in-Err-rows_under.ensures.fault (search rules))) in
    record {
      why = why;
      faulty = faulty;
      numbers = c.of_read.ensures;
      unread = no_file c.args.cfg.now c.args.dat.now Dat why faulty;
    }
