use Rattle.std.proofs.Common.{◌≡◌, ◌≤◌, ℕ, length}
use Rattle.comtrade_format.specs.Times.{since_by}
use Rattle.comtrade_format.proofs.values.clock.past.Given as goal

-- the rates that are left say the same of the row and those after it
abbrev pub invariant-loop-rate : goal.invariant-loop-rate
invariant-loop-rate l = (later : ℕ) → l.row ≤ later → since_by l.left later ≡ since_by l.initial.left later

abbrev pub decreases-loop-rate : goal.decreases-loop-rate
decreases-loop-rate l = length l.left.rates.now
