use Rattle.std.proofs.Common.{◌≡◌, ◌<◌, ◌≤◌, ◌-◌, length}
use Rattle.std.specs.Prelude.{◌≤ℤ◌, ◌<ℤ◌}
use Rattle.std.specs.List.{HoldsAt}
use Rattle.comtrade_plot.proofs.plan.beside.place_of.Given as goal

-- the moment at low isn't after the time, and the one at high is
abbrev pub invariant-loop-low : goal.invariant-loop-low
invariant-loop-low l = (l.low < l.high) × (l.high ≤ length l.moments)
    × HoldsAt (λ m. m.time ≤ℤ l.time) l.moments l.low
    × (l.high < length l.moments → HoldsAt (λ m. l.time <ℤ m.time) l.moments l.high)

abbrev pub decreases-loop-low : goal.decreases-loop-low
decreases-loop-low l = l.high - l.low
