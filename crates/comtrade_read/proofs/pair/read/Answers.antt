use Rattle.std.proofs.Common.{rules}
use Rattle.comtrade_read.proofs.OneFile.{no_file}
use Rattle.comtrade_read.specs.declared.pair.Part.TheVariants.{Dat}
use Rattle.comtrade_read.proofs.pair.read.Goals as goal

pub returns-clause-fault : goal.returns-clause-fault
returns-clause-fault g c = λ n. (c.in-Ok.head, (c.in-Ok.ensures.found, c.in-Err-read_dat.ensures.fault n))

pub returns-in-Err-clause-unread : goal.returns-in-Err-clause-unread
returns-in-Err-clause-unread g c = λ n f r. c.in-Err.ensures.unread n f.head r.head

pub returns-clause-unread : goal.returns-clause-unread
returns-clause-unread g c =
    λ n. no_file c.args.cfg.now c.args.dat.now Dat c.in-Err-read_dat.fault (c.in-Ok.head, (c.in-Ok.ensures.found, c.in-Err-read_dat.ensures.fault n))

pub returns-in-Err-clause-fault : goal.returns-in-Err-clause-fault
returns-in-Err-clause-fault g c = search rules depth 1

pub returns-in-Ok-read_dat-clause-found : goal.returns-in-Ok-read_dat-clause-found
returns-in-Ok-read_dat-clause-found g c = search rules depth 1
