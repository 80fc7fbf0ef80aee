use Rattle.std.proofs.Common.{◌≡◌, ◌≢◌, ◌⊎◌, ◌*◌, length, arith, rules}
use Rattle.std.proofs.Math.Facts.{Fits-lt-pow}
use Rattle.std.proofs.lemmas.Grind.{common_steps}
use Rattle.comtrade_read.specs.Head.{last_sample}
use Rattle.comtrade_read.specs.Inner.BinaryRows.{rows_at}
use Rattle.comtrade_read.specs.Reads.{row_size}
use Rattle.comtrade_c.specs.Tables.{stamps_of, samples_of, bits_of}
use Rattle.comtrade_c.proofs.Flat.{rows_read, no_rows_read, lacks}
use Rattle.comtrade_c.proofs.binary.binary_rows.Goals as goal

pub returns-then-not-are-clause-unread : goal.returns-then-not-are-clause-unread
returns-then-not-are-clause-unread c =
    let h = c.args.head.now in
    let other : length c.args.dat.now ≢ last_sample h.rates * row_size (length h.analog) (length h.status) = grind (arith, common_steps) in
    no_rows_read h c.args.dat.now c.requires.kind other

pub returns-then-not-are_tables-clause-room : goal.returns-then-not-are_tables-clause-room
returns-then-not-are_tables-clause-room c = λ done.
    let h = c.args.head.now in
    let whole : length c.args.dat.now ≡ last_sample h.rates * row_size (length h.analog) (length h.status) = grind (arith, common_steps) in
    let short : (length c.args.stamps.now ≢ last_sample h.rates) ⊎ (length c.args.samples.now ≢ last_sample h.rates * length h.analog) ⊎ (length c.args.bits.now ≢ last_sample h.rates * length h.status) = search (rules, common_steps) in
    lacks h c.args.dat.now c.args.stamps.now c.args.samples.now c.args.bits.now (λ i. Fits-lt-pow (c.type_inv.dat i)) c.requires.kind whole short

pub returns-clause-done : goal.returns-clause-done
returns-clause-done c = λ done.
    let h = c.args.head.now in
    let dat = c.args.dat.now in
    let k = length h.analog in
    let m = length h.status in
    let n = last_sample h.rates in
    let whole : length dat ≡ n * row_size k m = grind (arith, common_steps) in
    let stamps : c.put_rows.new.stamps ≡ stamps_of (rows_at k m dat n) = grind (arith, common_steps) in
    let samples : c.put_rows.new.samples ≡ samples_of (rows_at k m dat n) = grind (arith, common_steps) in
    let bits : c.put_rows.new.bits ≡ bits_of (rows_at k m dat n) = grind (arith, common_steps) in
    record {
      rows = rows_at k m dat n;
      reads = rows_read h dat (λ i. Fits-lt-pow (c.type_inv.dat i)) c.requires.kind whole;
      stamps_are = stamps;
      samples_are = samples;
      bits_are = bits;
    }
