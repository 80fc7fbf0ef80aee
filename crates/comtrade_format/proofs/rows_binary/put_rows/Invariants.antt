use Rattle.std.proofs.Common.{◌≡◌, ◌+◌, ◌*◌, ◌/◌, ◌++◌, take, length, true}
use Rattle.std.specs.List.{flat_map, list_all}
use Rattle.comtrade_format.specs.Binary.{row_bytes}
use Rattle.comtrade_format.specs.Refusals.{binary_bounds, takes_row}
use Rattle.comtrade_format.proofs.rows_binary.put_rows.Given as goal

abbrev pub invariant-loop-row : goal.invariant-loop-row
invariant-loop-row g l = record {
  written : l.out.items ≡ l.initial.out.items ++ flat_map row_bytes (take l.row-index l.rows);
  taken : list_all (takes_row binary_bounds) (take l.row-index l.rows) ≡ true;
  values_room : length l.values.items ≡ 2 * l.k;
  status_room : length l.status.items ≡ 2 * ((l.n + 15) / 16);
}
