use Rattle.std.proofs.Common.{◌≡◌, ◌<◌, ◌+◌, ◌-◌}
use Rattle.std.specs.Prelude.{drop, length}
use Rattle.comtrade_values.specs.Lines.{fields}
use Rattle.comtrade_values.specs.Fields.{bit}
use Rattle.comtrade_read.specs.Line.{need_each}
use Rattle.comtrade_read.specs.Ascii.{value, row_line}
use Rattle.comtrade_read.proofs.RowLine.{with_bits, with_values}
use Rattle.comtrade_read.proofs.ascii.parts_of.Given as goal

abbrev pub invariant-loop-i : goal.invariant-loop-i
invariant-loop-i g l = record {
  row : row_line l.k l.m (fields l.text) ≡ need_each value (2 + l.i) (l.k - l.i) l.values.items (fields l.text) (with_values l.k l.m (fields l.text) l.number l.stamp);
  rest : 2 + l.i < length (fields l.text) → fields l.left ≡ drop (2 + l.i) (fields l.text);
}

abbrev pub invariant-loop-j : goal.invariant-loop-j
invariant-loop-j g l = record {
  row : row_line l.k l.m (fields l.text) ≡ need_each bit (2 + l.k + l.j) (l.m - l.j) l.bits.items (fields l.text) (with_bits l.number l.stamp l.values.items);
  rest : 2 + l.k + l.j < length (fields l.text) → fields l.left ≡ drop (2 + l.k + l.j) (fields l.text);
}
