use Rattle.std.proofs.Common.{◌+◌, ◌*◌, ◌∙◌, ap, sym, drop, refl, arith, slice_get}
use Rattle.std.specs.Prelude.{option_and_then}
use Rattle.comtrade_table.proofs.InPlace.{row_there, row_none, bit_there, bit_none, behind}
use Rattle.comtrade_table.proofs.binary.BinaryTable.state.Goals as goal
use Rattle.comtrade_table.proofs.binary.BinaryTable.state.Goals.{then-row-self-via-then-row-self, then-row-self-via-else-row-self+then-contact-self}

pub returns-then-row-self : goal.returns-then-row-self
returns-then-row-self c =
    let i = c.self.inside in
    elim c.then-row-self.branch [
      | then-row-self-via-then-row-self w ↦
          rw (row_none i.analog i.status i.dat.now i.count i.size c.args.self.now c.self.view_is c.self.invariant.1 c.args.row (omega (arith, w.if-row-self.true))) refl
      | then-row-self-via-else-row-self+then-contact-self w ↦
          sym (ap (option_and_then (λ r. slice_get r.bits c.args.contact)) (row_there i.analog i.status i.dat.now i.count i.size c.args.self.now c.self.view_is c.self.invariant.1 c.args.row (omega (arith, w.if-row-self.false)))
          ∙ bit_none i.status (drop (8 + 2 * i.analog) (drop (c.args.row * i.size) i.dat.now)) c.args.contact (omega (arith, w.if-contact-self.true)))
    ]

pub returns : goal.returns
returns c =
    let i = c.self.inside in
    let there = row_there i.analog i.status i.dat.now i.count i.size c.args.self.now c.self.view_is c.self.invariant.1 c.args.row (omega (arith, c.if-row-self.false)) in
    let place = bit_there i.status (drop (8 + 2 * i.analog) (drop (c.args.row * i.size) i.dat.now)) c.args.contact (omega (arith, c.if-contact-self.false)) in
    rw (c.bit_of.ensures, behind (c.args.row * i.size + 8 + 2 * i.analog) (c.args.row * i.size) (8 + 2 * i.analog) i.dat.now (omega arith))
    (sym (ap (option_and_then (λ r. slice_get r.bits c.args.contact)) there ∙ place))
