use Rattle.std.proofs.Common.{◌≡◌, ◌+◌, ◌*◌, ◌++◌, take, length, true}
use Rattle.std.specs.List.{flat_map, list_all}
use Rattle.comtrade_format.specs.Ascii.{row_line}
use Rattle.comtrade_format.specs.Refusals.{ascii_bounds, takes_row}
use Rattle.comtrade_format.proofs.rows_ascii.put_rows.Given as goal

abbrev pub invariant-loop-row : goal.invariant-loop-row
invariant-loop-row g l = record {
  written : l.out.items ≡ l.initial.out.items ++ flat_map row_line (take l.row-index l.rows);
  taken : list_all (takes_row ascii_bounds) (take l.row-index l.rows) ≡ true;
  values_room : length l.values.items ≡ 7 * l.k + 8;
  bits_room : length l.bits.items ≡ 2 * l.n;
}
