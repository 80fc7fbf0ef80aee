use Rattle.std.proofs.Common.{arith, ◌∙◌}
use Rattle.std.specs.Prelude.{option_copied}
use Rattle.comtrade_values.specs.PlainNumbers.{fields_behind}
use Rattle.comtrade_read.specs.Ascii.{value}
use Rattle.comtrade_read.proofs.PlainRows.{none_yet, one_more}
use Rattle.comtrade_read.proofs.plain_rows.next_values.Goals as goal

pub loop-i-init : goal.loop-i-init
loop-i-init g c = record {
  count = c.in_ok-list.ensures.len;
  room = c.in_ok-list.ensures.exact;
  read = rw c.in_ok-list.ensures.items (none_yet value (fields_behind (option_copied c.args.text)));
}

pub loop-i-preserved : goal.loop-i-preserved
loop-i-preserved g c = record {
  count = omega (arith, c.push_reserved.ensures.len, c.loop-i.invariant.count);
  room = c.push_reserved.ensures.capacity ∙ c.loop-i.invariant.room;
  read = rw c.push_reserved.ensures.items (one_more value _ c.loop-i._i _ _ c.in-Some.value _ c.loop-i.invariant.read c.in-Some.ensures);
}
