use Rattle.std.proofs.Common.{◌+◌, ◌*◌, ◌∙◌, ap, sym, drop, refl, arith, slice_get}
use Rattle.std.specs.Prelude.{option_and_then}
use Rattle.comtrade_table.proofs.InPlace.{row_there, row_none, value_there, value_none, behind_both}
use Rattle.comtrade_table.proofs.binary.BinaryTable.reading.Goals as goal
use Rattle.comtrade_table.proofs.binary.BinaryTable.reading.Goals.{then-row-self-via-then-row-self, then-row-self-via-else-row-self+then-channel-self}

pub returns-then-row-self : goal.returns-then-row-self
returns-then-row-self c =
    let i = c.self.inside in
    elim c.then-row-self.branch [
      | then-row-self-via-then-row-self w ↦
          rw (row_none i.analog i.status i.dat.now i.count i.size c.args.self.now c.self.view_is c.self.invariant.1 c.args.row (omega (arith, w.if-row-self.true))) refl
      | then-row-self-via-else-row-self+then-channel-self w ↦
          sym (ap (option_and_then (λ r. slice_get r.values c.args.channel)) (row_there i.analog i.status i.dat.now i.count i.size c.args.self.now c.self.view_is c.self.invariant.1 c.args.row (omega (arith, w.if-row-self.false)))
          ∙ value_none i.analog (drop 8 (drop (c.args.row * i.size) i.dat.now)) c.args.channel (omega (arith, w.if-channel-self.true)))
    ]

pub returns : goal.returns
returns c =
    let i = c.self.inside in
    let there = row_there i.analog i.status i.dat.now i.count i.size c.args.self.now c.self.view_is c.self.invariant.1 c.args.row (omega (arith, c.if-row-self.false)) in
    let place = value_there i.analog (drop 8 (drop (c.args.row * i.size) i.dat.now)) c.args.channel (omega (arith, c.if-channel-self.false)) in
    rw (c.value_of.ensures, behind_both (c.args.row * i.size + 8 + 2 * c.args.channel) (c.args.row * i.size) 8 (2 * c.args.channel) i.dat.now refl)
    (sym (ap (option_and_then (λ r. slice_get r.values c.args.channel)) there ∙ place))
