use Rattle.std.proofs.Common.{◌≡◌, ◌≤◌, ◌*◌, ◌∷◌, take}
use Rattle.std.specs.List.{flat_map}
use Rattle.comtrade_format.specs.Ascii.{reading_text}
use Rattle.comtrade_format.proofs.rows_ascii.write_readings.Given as goal

abbrev pub invariant-loop-i : goal.invariant-loop-i
invariant-loop-i l = record {
  text : take l.at l.slot ≡ flat_map (λ v. 44 ∷ reading_text v) (take l.i l.readings);
  longest : l.at ≤ 7 * l.i;
}
