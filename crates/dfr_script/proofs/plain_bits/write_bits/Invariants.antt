use Rattle.std.proofs.Common.{◌≡◌, ◌++◌, take, length}
use Rattle.std.specs.List.{filter_map}
use Rattle.comtrade_values.specs.Fields.{bit}
use Rattle.dfr_script.specs.Fields.{reads_all}
use Rattle.dfr_script.specs.ScanLines.{fields}
use Rattle.dfr_script.proofs.PlainBits.{fields_from}
use Rattle.dfr_script.proofs.plain_bits.write_bits.Given as goal

abbrev pub invariant-loop-i : goal.invariant-loop-i
invariant-loop-i l = record {
  all : reads_all bit (fields l.text) ≡ reads_all bit (fields_from l.text (length l.slot) l.i);
  same : filter_map bit (fields l.text) ≡ take l.i l.slot ++ filter_map bit (fields_from l.text (length l.slot) l.i);
}
