use Rattle.std.proofs.Common.{◌∙◌, ◌*◌, ℕ, List, length, slice_index, length-set}
use Rattle.std.specs.Prelude.{◌==◌}
use Rattle.dfr_script.proofs.PlainBits.{next_reads, written}
use Rattle.dfr_script.proofs.plain_bits.write_bits.Goals as goal

pub loop-i-preserved : goal.loop-i-preserved
loop-i-preserved c =
    let text : List ℕ = c.args.text.now in
    let i : ℕ = c.loop-i.i in
    let n : ℕ = length c.args.slot.now in
    let len = c.loop-i.auto.slot in
    let same_length = length-set c.loop-i.slot i (slice_index text (2 * i) == 49) in
    record {
      all = rw (same_length, len) (rw len at c.loop-i.invariant.all ∙ next_reads text n c.requires.bits c.requires.room i c.loop-i-test.true);
      same = rw (same_length, len) (written text n c.requires.bits c.requires.room c.loop-i.slot i len c.loop-i-test.true (rw len at c.loop-i.invariant.same));
    }
