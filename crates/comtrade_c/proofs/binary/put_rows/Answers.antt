use Rattle.std.proofs.Common.{◌≡◌, ◌≤◌, ◌<◌, ℕ, List, ◌+◌, ◌-◌, ◌*◌, ◌/◌, length, map, take, drop, sym, ap, ◌∙◌, arith, rules, length-drop}
use Rattle.std.proofs.Math.Nat.{mul-le-mul_right}
use Rattle.comtrade_read.proofs.Outcomes.{part_is}
use Rattle.comtrade_format.specs.Parts.{RowParts}
use Rattle.comtrade_format.specs.Packed.{values_at, bits_at}
use Rattle.comtrade_read.specs.Inner.BinaryRows.{stamp_at, row_at, rows_at}
use Rattle.comtrade_read.specs.Reads.{row_size}
use Rattle.comtrade_c.specs.Tables.{stamp_of, sample_of, bit_of, row_samples, row_bits}
use Rattle.comtrade_c.proofs.Filled.{Filled}
use Rattle.comtrade_c.proofs.Laid.{laid_more, laid_all}
use Rattle.comtrade_c.proofs.Flat.{rows_long, row_there, row_stamp_is, row_samples_are, row_bits_are, samples_count, bits_count, row_within, row_over, all_over, part_behind, part_long}
use Rattle.comtrade_c.proofs.binary.put_rows.Goals as goal

pub slice_bounds-put_row-end : goal.slice_bounds-put_row-end
slice_bounds-put_row-end c =
    row_within row_samples c.args.k c.args.m c.args.dat.now (length c.args.stamps.now) c.loop-i.i c.args.k c.loop-i.samples c.args.samples.now c.loop-i.sample
    (samples_count c.args.k c.args.m) c.loop-i-test.true c.loop-i.invariant.samples (search rules)

pub slice_bounds-put_row_bits-end : goal.slice_bounds-put_row_bits-end
slice_bounds-put_row_bits-end c =
    row_within row_bits c.args.k c.args.m c.args.dat.now (length c.args.stamps.now) c.loop-i.i c.args.m c.loop-i.bits c.args.bits.now c.loop-i.bit
    (bits_count c.args.k c.args.m) c.loop-i-test.true c.loop-i.invariant.bits (search rules)

-- a part of row i begins within the data
row_in : (k m i n size from : ℕ) (dat : List ℕ) → i < n → length dat ≡ n * row_size k m → size ≡ row_size k m → from ≤ size → i * size + from ≤ length dat
row_in k m i n size from dat below whole is within =
    let next : (i + 1) * size ≤ n * size = mul-le-mul_right size (omega (arith, below)) in
    omega (arith, next, whole ∙ ap (λ z. n * z) (sym is), within)

-- and as many bytes follow as belong to it
row_left :
    (k m i n size from count : ℕ) (dat : List ℕ) → i < n → length dat ≡ n * row_size k m → size ≡ row_size k m → from + count ≤ size
    → count ≤ length (take (length dat - (i * size + from)) (drop (i * size + from) dat))
row_left k m i n size from count dat below whole is within =
    let end = row_in k m i n size (from + count) dat below whole is within in
    rw (part_is (i * size + from) dat) (omega (arith, length-drop (i * size + from) dat, end))

-- and as many as are wanted by the part of a table where its items go
row_wants :
    {B : Type 0} (f : RowParts → List B) (need : ℕ → ℕ) (k m i n c size from : ℕ) (dat : List ℕ) (vs ws : List B) (at : ℕ)
    → ((bytes : List ℕ) → length (f (row_at k m bytes)) ≡ c) → i < n → Filled f (rows_at k m dat n) i vs ws at → length vs ≡ n * c
    → length dat ≡ n * row_size k m → size ≡ row_size k m → from + need c ≤ size
    → need (length (take (at + c - at) (drop at vs))) ≤ length (take (length dat - (i * size + from)) (drop (i * size + from) dat))
row_wants f need k m i n c size from dat vs ws at each below filled long whole is within =
    rw (part_long at c vs (row_within f k m dat n i c vs ws at each below filled long)) (row_left k m i n size from (need c) dat below whole is within)

pub slice_bounds-put_row-count-in-loop-i : goal.slice_bounds-put_row-count-in-loop-i
slice_bounds-put_row-count-in-loop-i c =
    row_in c.args.k c.args.m c.loop-i.i _ _ 8 c.args.dat.now c.loop-i-test.true c.requires.whole c.row_size-size.ensures (omega (arith, c.row_size-size.ensures))

pub slice_bounds-put_row-start-in-loop-i : goal.slice_bounds-put_row-start-in-loop-i
slice_bounds-put_row-start-in-loop-i c =
    row_in c.args.k c.args.m c.loop-i.i _ _ 8 c.args.dat.now c.loop-i-test.true c.requires.whole c.row_size-size.ensures (omega (arith, c.row_size-size.ensures))

pub put_row-requires : goal.put_row-requires
put_row-requires c =
    row_wants row_samples (λ z. 2 * z) c.args.k c.args.m c.loop-i.i (length c.args.stamps.now) c.args.k c.row_size-size.result 8 c.args.dat.now c.loop-i.samples
    c.args.samples.now c.loop-i.sample (samples_count c.args.k c.args.m) c.loop-i-test.true c.loop-i.invariant.samples (search rules) c.requires.whole
    c.row_size-size.ensures (omega (arith, c.row_size-size.ensures))

pub slice_bounds-put_row_bits-count-in-loop-i : goal.slice_bounds-put_row_bits-count-in-loop-i
slice_bounds-put_row_bits-count-in-loop-i c =
    row_in c.args.k c.args.m c.loop-i.i _ _ (8 + 2 * c.args.k) c.args.dat.now c.loop-i-test.true c.requires.whole c.row_size-size.ensures
    (omega (arith, c.row_size-size.ensures))

pub slice_bounds-put_row_bits-start-in-loop-i : goal.slice_bounds-put_row_bits-start-in-loop-i
slice_bounds-put_row_bits-start-in-loop-i c =
    row_in c.args.k c.args.m c.loop-i.i _ _ (8 + 2 * c.args.k) c.args.dat.now c.loop-i-test.true c.requires.whole c.row_size-size.ensures
    (omega (arith, c.row_size-size.ensures))

pub put_row_bits-requires : goal.put_row_bits-requires
put_row_bits-requires c =
    row_wants row_bits (λ z. 2 * ((z + 15) / 16)) c.args.k c.args.m c.loop-i.i (length c.args.stamps.now) c.args.m c.row_size-size.result (8 + 2 * c.args.k)
    c.args.dat.now c.loop-i.bits c.args.bits.now c.loop-i.bit (bits_count c.args.k c.args.m) c.loop-i-test.true c.loop-i.invariant.bits (search rules)
    c.requires.whole c.row_size-size.ensures (omega (arith, c.row_size-size.ensures))

pub loop-i-preserved : goal.loop-i-preserved
loop-i-preserved c =
    let k = c.args.k in
    let m = c.args.m in
    let dat = c.args.dat.now in
    let i = c.loop-i.i in
    let n = length c.args.stamps.now in
    let below = c.loop-i-test.true in
    let bytes = drop (i * row_size k m) dat in
    let row = row_at k m bytes in
    let rows = rows_at k m dat n in
    let long = rows_long k m dat n in
    let size = c.row_size-size.result in
    let is = c.row_size-size.ensures in
    let samples_long : length c.loop-i.samples ≡ n * k = search rules in
    let bits_long : length c.loop-i.bits ≡ n * m = search rules in
    let samples_room = row_within row_samples k m dat n i k c.loop-i.samples c.args.samples.now c.loop-i.sample (samples_count k m) below c.loop-i.invariant.samples samples_long in
    let bits_room = row_within row_bits k m dat n i m c.loop-i.bits c.args.bits.now c.loop-i.bit (bits_count k m) below c.loop-i.invariant.bits bits_long in
    let values = take (length dat - (i * size + 8)) (drop (i * size + 8) dat) in
    let groups = take (length dat - (i * size + (8 + 2 * k))) (drop (i * size + (8 + 2 * k)) dat) in
    let samples : c.put_row.new.to ≡ row_samples row =
    c.put_row.ensures ∙ ap (λ z. map sample_of (values_at z values)) (part_long c.loop-i.sample k c.loop-i.samples samples_room)
    ∙ ap (λ b. map sample_of (values_at k b)) (part_behind i 8 size (row_size k m) dat is) ∙ row_samples_are k m bytes in
    let bits : c.put_row_bits.new.to ≡ row_bits row =
    c.put_row_bits.ensures ∙ ap (λ z. map bit_of (bits_at z groups)) (part_long c.loop-i.bit m c.loop-i.bits bits_room)
    ∙ ap (λ b. map bit_of (bits_at m b)) (part_behind i (8 + 2 * k) size (row_size k m) dat is) ∙ row_bits_are k m bytes in
    record {
      stamps = laid_more (λ r. stamp_of r.stamp) rows c.loop-i.stamps c.args.stamps.now i row _ (omega (arith, long, below)) (sym long) c.loop-i.invariant.stamps
          (c.stamp_at.ensures ∙ ap (λ b. stamp_of (stamp_at b)) (part_behind i 4 size (row_size k m) dat is) ∙ row_stamp_is k m bytes
          ∙ ap (λ r. stamp_of r.stamp) (sym (row_there k m dat n i row below)));
      samples = row_over row_samples k m dat n i k c.loop-i.samples c.args.samples.now c.put_row.new.to c.loop-i.sample (samples_count k m) below
          c.loop-i.invariant.samples samples_long samples;
      bits = row_over row_bits k m dat n i m c.loop-i.bits c.args.bits.now c.put_row_bits.new.to c.loop-i.bit (bits_count k m) below
          c.loop-i.invariant.bits bits_long bits;
    }

pub returns-clause-stamps : goal.returns-clause-stamps
returns-clause-stamps c =
    let n = length c.args.stamps.now in
    let long = rows_long c.args.k c.args.m c.args.dat.now n in
    laid_all (λ r. stamp_of r.stamp) (rows_at c.args.k c.args.m c.args.dat.now n) c.loop-i.stamps c.args.stamps.now c.loop-i.i
    (omega (arith, long, c.loop-i-test.false)) (omega (arith, c.loop-i-test.false)) c.loop-i.invariant.stamps

pub returns-clause-samples : goal.returns-clause-samples
returns-clause-samples c =
    all_over row_samples c.args.k c.args.m c.args.dat.now (length c.args.stamps.now) c.loop-i.i c.args.k c.loop-i.samples c.args.samples.now c.loop-i.sample
    (samples_count c.args.k c.args.m) (omega (arith, c.loop-i-test.false)) c.loop-i.invariant.samples c.requires.samples

pub returns-clause-bits : goal.returns-clause-bits
returns-clause-bits c =
    all_over row_bits c.args.k c.args.m c.args.dat.now (length c.args.stamps.now) c.loop-i.i c.args.m c.loop-i.bits c.args.bits.now c.loop-i.bit
    (bits_count c.args.k c.args.m) (omega (arith, c.loop-i-test.false)) c.loop-i.invariant.bits c.requires.bits
