use Rattle.std.proofs.Common.{◌≡◌, ◌++◌}
use Rattle.comtrade_values.proofs.input.append.Given as goal

abbrev pub invariant-loop-part : goal.invariant-loop-part
invariant-loop-part g l = l.bytes.items ++ l.part-iterator.rest.now ≡ l.initial.bytes.items ++ l.piece
