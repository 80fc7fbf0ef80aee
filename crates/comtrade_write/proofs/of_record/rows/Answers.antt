use Rattle.std.proofs.Common.{◌≡◌, ◌+◌, ◌-◌, arith, refl}
use Rattle.comtrade_write.specs.OfRecord.{row_of}
use Rattle.comtrade_format.proofs.Numbered.{numbered-more}
use Rattle.comtrade_write.proofs.of_record.rows.Goals as goal

pub loop-i-preserved : goal.loop-i-preserved
loop-i-preserved g c =
    let e : c.loop-i.i + 1 - 1 ≡ c.loop-i.i = omega arith in
    let made : c.in_ok-row.field-0 ≡ row_of c.args.rate (c.loop-i.i + 1) c.index-scans-i.result = rw (c.in_ok-row.ensures, e) refl in
    numbered-more (row_of c.args.rate) 1 c.args.scans.now c.loop-i.i (c.loop-i.i + 1) c.index-scans-i.result c.in_ok-row.field-0 c.loop-i.list.items _ _ (omega arith) c.loop-i-test.true c.index-scans-i.is made c.in_ok-push.ensures.items c.loop-i.invariant
