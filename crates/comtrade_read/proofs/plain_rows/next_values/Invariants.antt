use Rattle.std.proofs.Common.{◌≡◌, vec_len}
use Rattle.std.specs.Prelude.{option_copied, vec_capacity}
use Rattle.comtrade_values.specs.PlainNumbers.{fields_behind}
use Rattle.comtrade_read.specs.Ascii.{value}
use Rattle.comtrade_read.specs.Inner.PlainRows.{AreNext}
use Rattle.comtrade_read.proofs.plain_rows.next_values.Given as goal

abbrev pub invariant-loop-i : goal.invariant-loop-i
invariant-loop-i g l = record {
  count : vec_len l.list ≡ l._i;
  room : vec_capacity l.list ≡ l.count;
  read : AreNext value (fields_behind (option_copied l.text)) l._i l.list.items (fields_behind (option_copied l.left));
}
