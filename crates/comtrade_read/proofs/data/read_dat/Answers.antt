use Rattle.std.proofs.Common.{sym, subst}
use Rattle.std.proofs.Math.Facts.{Fits-lt-pow}
use Rattle.comtrade_read.specs.Reads.{ReadsRows}
use Rattle.comtrade_read.proofs.OneFile.{rows_spelled, data_faulty}
use Rattle.comtrade_read.proofs.data.read_dat.Goals as goal

pub returns-in-Ok-clause-rows : goal.returns-in-Ok-clause-rows
returns-in-Ok-clause-rows g c =
    subst (λ rows. ReadsRows c.args.head c.args.dat.now rows) (sym c.of.ensures) (rows_spelled c.args.head c.args.dat.now _ (λ i. Fits-lt-pow (c.type_inv.dat i)) c.in-Ok.ensures)

pub returns-in-Err-clause-fault : goal.returns-in-Err-clause-fault
returns-in-Err-clause-fault g c = λ n. (data_faulty c.args.head c.args.dat.now _ (c.in-Err.ensures n)).0

pub returns-in-Err-clause-unread : goal.returns-in-Err-clause-unread
returns-in-Err-clause-unread g c = λ n. (data_faulty c.args.head c.args.dat.now _ (c.in-Err.ensures n)).1
