use Rattle.std.proofs.Common.{◌≡◌, ◌≤◌, ◌++◌, ℕ, Option, take, drop}
use Rattle.comtrade_format.specs.Times.{time_by, time_with}
use Rattle.comtrade_c.specs.Times.{border_in, times_in}
use Rattle.comtrade_c.proofs.times.put_times.Given as goal

abbrev pub invariant-loop-k : goal.invariant-loop-k
invariant-loop-k g l = record {
  laid : l.times ≡ take l.k (times_in l.head l.stamps) ++ drop l.k l.initial.times;
  same : (later : ℕ) (stamp : Option ℕ) → l.k ≤ later → time_by l.clock later stamp ≡ time_with (border_in l.head l.stamps) l.head later stamp;
}
