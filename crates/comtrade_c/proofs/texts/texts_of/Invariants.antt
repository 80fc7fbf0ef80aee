use Rattle.std.proofs.Common.{◌≡◌, ◌++◌, take}
use Rattle.std.specs.List.{flat_map}
use Rattle.comtrade_c.specs.Channels.{analog_text, analog_lengths, status_text, status_lengths}
use Rattle.comtrade_c.proofs.texts.texts_of.Given as goal

abbrev pub invariant-loop-analog : goal.invariant-loop-analog
invariant-loop-analog l = record {
  bytes : l.texts.bytes.items ≡ l.initial.texts.bytes.items ++ flat_map analog_text (take l.analog-index l.analog-items);
  lengths : l.texts.lengths.items ≡ l.initial.texts.lengths.items ++ flat_map analog_lengths (take l.analog-index l.analog-items);
}

abbrev pub invariant-loop-status : goal.invariant-loop-status
invariant-loop-status l = record {
  bytes : l.texts.bytes.items ≡ l.initial.texts.bytes.items ++ flat_map status_text (take l.status-index l.status-items);
  lengths : l.texts.lengths.items ≡ l.initial.texts.lengths.items ++ flat_map status_lengths (take l.status-index l.status-items);
}
