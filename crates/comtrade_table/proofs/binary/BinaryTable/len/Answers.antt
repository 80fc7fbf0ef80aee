use Rattle.std.proofs.Common.{ℕ, ◌*◌, drop, length, ap, sym, ◌∙◌}
use Rattle.std.proofs.lemmas.List.FromFn.{length-map-range_with_len}
use Rattle.comtrade_read.specs.Reads.{row_size}
use Rattle.comtrade_read.specs.Inner.BinaryRows.{row_at}
use Rattle.comtrade_table.proofs.binary.BinaryTable.len.Goals as goal

pub returns : goal.returns
returns c =
    let i = c.self.inside in
    sym (ap length (sym c.self.view_is) ∙ length-map-range_with_len (λ (r : ℕ). row_at i.analog i.status (drop (r * row_size i.analog i.status) i.dat.now)) 0 i.count)
