use Rattle.std.proofs.Common.{◌≡◌, ◌+◌, drop}
use Rattle.comtrade_format.specs.Numbered.{first_from}
use Rattle.comtrade_format.specs.Refusals.{analog_refusal}
use Rattle.comtrade_format.proofs.texts.analogs_fault.Given as goal

abbrev pub invariant-loop-i : goal.invariant-loop-i
invariant-loop-i g l = first_from analog_refusal (3 + l.i) (drop l.i l.channels) ≡ first_from analog_refusal 3 l.channels
