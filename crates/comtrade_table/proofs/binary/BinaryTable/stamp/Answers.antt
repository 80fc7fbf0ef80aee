use Rattle.std.proofs.Common.{◌+◌, ◌*◌, refl, arith}
use Rattle.comtrade_table.proofs.InPlace.{row_there, row_none, behind}
use Rattle.comtrade_table.proofs.binary.BinaryTable.stamp.Goals as goal

pub returns-then-row-self : goal.returns-then-row-self
returns-then-row-self c =
    let i = c.self.inside in
    rw (row_none i.analog i.status i.dat.now i.count i.size c.args.self.now c.self.view_is c.self.invariant.1 c.args.row (omega (arith, c.if-row-self.true))) refl

pub returns : goal.returns
returns c =
    let i = c.self.inside in
    let there = row_there i.analog i.status i.dat.now i.count i.size c.args.self.now c.self.view_is c.self.invariant.1 c.args.row (omega (arith, c.if-row-self.false)) in
    rw (there, c.stamp_of.ensures, behind (c.args.row * i.size + 4) (c.args.row * i.size) 4 i.dat.now refl) refl
