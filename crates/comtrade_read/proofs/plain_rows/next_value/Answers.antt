use Rattle.std.proofs.Common.{◌≡◌, sym, w64, to_z, of_z, arith}
use Rattle.std.proofs.lemmas.Int.{ints}
use Rattle.comtrade_read.proofs.PlainRows.{value_read}
use Rattle.comtrade_read.proofs.plain_rows.next_value.Goals as goal

pub returns : goal.returns
returns c =
    let same : to_z w64 (of_z w64 c.in_ok-number.number) ≡ c.in_ok-number.number = omega (arith, ints, c.in_ok-number.ensures.above, c.in_ok-number.ensures.below) in
    let number = rw same at c.in_ok-value.ensures in
    rw c.in_ok-left.was (value_read _ _ _ _ c.in_ok-number.ensures.first (sym number))
