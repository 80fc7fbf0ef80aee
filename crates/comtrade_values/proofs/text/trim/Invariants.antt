use Rattle.std.proofs.Common.{◌≡◌, length}
use Rattle.std.specs.Prelude.{reverse}
use Rattle.comtrade_values.specs.Spelling.{trimmed, trim_start}
use Rattle.comtrade_values.proofs.text.trim.Given as goal

abbrev pub invariant-loop-inner : goal.invariant-loop-inner
invariant-loop-inner l = trim_start l.inner ≡ trim_start l.text

abbrev pub decreases-loop-inner : goal.decreases-loop-inner
decreases-loop-inner l = length l.inner

abbrev pub invariant-loop-inner-2 : goal.invariant-loop-inner-2
invariant-loop-inner-2 l = reverse (trim_start (reverse l.inner)) ≡ trimmed l.text

abbrev pub decreases-loop-inner-2 : goal.decreases-loop-inner-2
decreases-loop-inner-2 l = length l.inner
