use Rattle.std.proofs.Common.{◌≡◌, take}
use Rattle.std.specs.Prelude.{map}
use Rattle.comtrade_c.specs.Writing.{reading_of}
use Rattle.comtrade_c.proofs.write.readings_of.Given as goal

abbrev pub invariant-loop-sample : goal.invariant-loop-sample
invariant-loop-sample l = l.list.items ≡ map reading_of (take l.sample-index l.samples)
