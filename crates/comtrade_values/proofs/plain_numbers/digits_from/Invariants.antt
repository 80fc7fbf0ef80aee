use Rattle.std.proofs.Common.{◌≡◌, ◌<◌, ◌≤◌, ◌^◌, ◌-◌, true, take, length}
use Rattle.std.specs.Str.{all_ascii_digits}
use Rattle.std.specs.Str.Parse.{digits_value}
use Rattle.comtrade_values.proofs.plain_numbers.digits_from.Given as goal

abbrev pub invariant-loop-count : goal.invariant-loop-count
invariant-loop-count l = record {
  few : l.count ≤ l.most;
  ten : l.most ≤ 10;
  within : l.most ≤ length l.text;
  digits : all_ascii_digits (take l.count l.text) ≡ true;
  value : l.number ≡ digits_value 10 (take l.count l.text);
  small : l.number < 10 ^ l.count;
}

abbrev pub decreases-loop-count : goal.decreases-loop-count
decreases-loop-count l = l.most - l.count
