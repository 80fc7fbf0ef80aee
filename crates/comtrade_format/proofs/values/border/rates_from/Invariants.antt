use Rattle.std.proofs.Common.{◌≡◌, ◌≤◌, ℕ, length}
use Rattle.comtrade_format.specs.Borders.{rate_at}
use Rattle.comtrade_format.proofs.values.border.rates_from.Given as goal

-- the rates that are left say the same of the row and those after it
abbrev pub invariant-loop-rate : goal.invariant-loop-rate
invariant-loop-rate l = (later : ℕ) → l.row ≤ later → rate_at l.left later ≡ rate_at l.rates later

abbrev pub decreases-loop-rate : goal.decreases-loop-rate
decreases-loop-rate l = length l.left
