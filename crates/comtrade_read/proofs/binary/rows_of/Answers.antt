use Rattle.std.proofs.Common.{ℕ, ◌*◌, drop, refl, arith}
use Rattle.std.proofs.lemmas.List.FromFn.{map-range_with_len_more}
use Rattle.comtrade_read.specs.Inner.BinaryRows.{row_at}
use Rattle.comtrade_read.specs.Reads.{row_size}
use Rattle.comtrade_read.proofs.Outcomes.{part_there, part_is}
use Rattle.comtrade_read.proofs.binary.rows_of.Goals as goal

pub row_of-requires-clause-whole : goal.row_of-requires-clause-whole
row_of-requires-clause-whole g c =
    rw c.row_size-size.ensures (part_there c.loop-i.i c.args.count (row_size c.args.k c.args.m) c.args.dat.now c.loop-i-test.true c.requires.whole)

pub loop-i-preserved : goal.loop-i-preserved
loop-i-preserved g c =
    let dat = c.args.dat.now in
    let size = row_size c.args.k c.args.m in
    let e = map-range_with_len_more (λ (i : ℕ). row_at c.args.k c.args.m (drop (i * size) dat)) 0 c.loop-i.i c.loop-i.i (omega arith) in
    rw (c.in_ok-push.ensures.items, e, c.loop-i.invariant, c.in_ok-row_of.ensures, c.row_size-size.ensures, part_is (c.loop-i.i * size) dat) refl
