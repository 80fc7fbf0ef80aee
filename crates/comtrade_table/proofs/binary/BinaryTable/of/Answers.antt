use Rattle.std.proofs.Common.{◌≡◌, ◌*◌, length}
use Rattle.std.proofs.Math.Facts.{Fits-lt-pow}
use Rattle.comtrade_read.specs.Head.{last_sample}
use Rattle.comtrade_read.specs.Reads.{row_size}
use Rattle.comtrade_table.proofs.InPlace.{read_in_place}
use Rattle.comtrade_table.proofs.binary.BinaryTable.of.Goals as goal

pub returns-clause-rows : goal.returns-clause-rows
returns-clause-rows g c =
    let h = c.head.inside in
    let whole : length c.args.dat.now ≡ last_sample h.rates * row_size (length h.analog) (length h.status) =
    rw (← c.items-analog.ensures, ← c.items-status.ensures, ← c.items.ensures, ← c.last_sample-count.ensures, ← c.row_size-size.ensures) c.if-dat-count.false in
    rw (c.items-analog.ensures, c.items-status.ensures, c.last_sample-count.ensures, c.items.ensures, ← c.head.view_is)
    (read_in_place _ c.args.dat.now (λ i. Fits-lt-pow (c.type_inv.dat i)) c.in-Binary.is whole)
