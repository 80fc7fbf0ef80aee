use Rattle.std.proofs.Common.{rules, ◌≡◌, ◌+◌, ◌<◌, length, arith, ap, slice_index_or}
use Rattle.dfr_recorder.proofs.Held.{scans_more, scans_part}
use Rattle.dfr_recorder.proofs.shelf.scans_in.Goals as goal

pub overflow_add-all : goal.overflow_add-all
overflow_add-all g c =
    let lt : c.loop-i.i < length c.args.shelf.now.items = search rules in
    let got : c.in-Some.record.now ≡ slice_index_or c.args.shelf.now.items c.loop-i.i c.in-Some.record.now = c.in-Some.ensures.lookup in
    let n : length c.scans.result.now ≡ length c.in-Some.record.now.scans = ap length c.scans.ensures in
    omega (arith, scans_more c.loop-i.i c.args.shelf.now.items c.in-Some.record.now lt got, scans_part (c.loop-i.i + 1) c.args.shelf.now.items, c.loop-i.invariant, c.requires, n)

pub loop-i-preserved : goal.loop-i-preserved
loop-i-preserved g c =
    let lt : c.loop-i.i < length c.args.shelf.now.items = search rules in
    let got : c.in-Some.record.now ≡ slice_index_or c.args.shelf.now.items c.loop-i.i c.in-Some.record.now = c.in-Some.ensures.lookup in
    let n : length c.scans.result.now ≡ length c.in-Some.record.now.scans = ap length c.scans.ensures in
    omega (arith, c.loop-i.invariant, scans_more c.loop-i.i c.args.shelf.now.items c.in-Some.record.now lt got, n)
