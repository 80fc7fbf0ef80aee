use Rattle.std.proofs.Common.{◌≡◌, ◌++◌, drop}
use Rattle.comtrade_io.specs.Safe.{safe, safe_after}
use Rattle.comtrade_io.proofs.text.put_safe.Given as goal

abbrev pub invariant-loop-i : goal.invariant-loop-i
invariant-loop-i g l = l.out.items ++ safe_after l.left (drop l.i l.text) ≡ l.initial.out.items ++ safe l.text
