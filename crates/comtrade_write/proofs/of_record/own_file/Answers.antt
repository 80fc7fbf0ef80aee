use Rattle.std.proofs.Common.{sym, subst, refl, arith}
use Rattle.comtrade_format.specs.Data.{IsWritable}
use Rattle.comtrade_write.specs.OfRecord.{file}
use Rattle.comtrade_write.proofs.Own.{own_parts, own_writable, earlier_instant, scans_few}
use Rattle.comtrade_write.proofs.of_record.own_file.Goals as goal

pub head-requires : goal.head-requires
head-requires g c =
    let o = own_parts c.args.layout.now c.args.taken.now c.requires in
    let w = c.extent-whole.ensures.whole in
    record {
      first = earlier_instant c.args.layout.now c.args.taken.now.extent.first c.args.taken.now.extent.last (omega (arith, w.begun, w.ended)) o.last;
      trigger = earlier_instant c.args.layout.now c.args.taken.now.extent.trigger c.args.taken.now.extent.last w.ended o.last;
    }

pub rows-requires-clause-few : goal.rows-requires-clause-few
rows-requires-clause-few g c =
    let o = own_parts c.args.layout.now c.args.taken.now c.requires in
    rw c.scans.ensures (scans_few c.args.layout.now c.args.taken.now c.rate-rate.ensures.lawful o)

pub returns-clause-file : goal.returns-clause-file
unfolding file
returns-clause-file g c = rw (c.in_ok-head.ensures, c.in_ok-rows.ensures, c.scans.ensures, c.rate-rate.ensures.value) refl

pub returns-clause-writable : goal.returns-clause-writable
unfolding file
returns-clause-writable g c =
    let w = own_writable c.args.layout.now c.args.taken.now c.args.kind c.rate-rate.ensures.lawful c.extent-whole.ensures.whole c.requires in
    subst IsWritable (sym (rw (c.in_ok-head.ensures, c.in_ok-rows.ensures, c.scans.ensures, c.rate-rate.ensures.value) refl)) w
