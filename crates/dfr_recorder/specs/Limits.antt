-- Which limits are valid.
use Rattle.std.specs.Prelude.{ℕ, ◌+◌, ◌-◌, Bool, ◌&&◌, nat_le, Option}
use Rattle.comtrade_values.specs.Faults.{◌or◌, fault_unless}
use Rattle.dfr_channels.specs.Scans.{micros}
use Rattle.dfr_recorder.specs.declared.limits.LimitFault.{LimitFault}
use Rattle.dfr_recorder.specs.declared.limits.LimitFault.TheVariants.{Pre, Post, Longest, Shelf, Stamp}

-- the time stamps of n rows at this rate can be written, the last of which is the highest
abbrev pub has_stamps : ℕ → ℕ → Bool
has_stamps rate n = nat_le (micros rate (n - 1)) 4_294_967_294

-- the first fault of limits at a rate
abbrev pub limit_fault : ℕ → ℕ → ℕ → ℕ → ℕ → Option LimitFault
limit_fault rate pre post longest shelf =
    fault_unless (nat_le pre 100_000) Pre
    or (fault_unless (nat_le 1 post) Post
    or (fault_unless (nat_le (pre + 1 + post) longest && nat_le longest 1_000_000) Longest
    or (fault_unless (nat_le 1 shelf && nat_le shelf 64) Shelf
    or fault_unless (has_stamps rate longest) Stamp)))
