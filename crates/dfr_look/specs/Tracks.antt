-- The sample counts (smpCnt) of a stream, one after the other. They go from 0 to a top, and begin anew with each second.
use Rattle.std.specs.Prelude.{ℕ, ◌+◌, ◌-◌, ◌*◌, ◌^◌, min, max, Bool, ◌&&◌, ◌||◌, ◌==◌, nat_lt, nat_le, if◌then◌else◌, List, [], ◌∷◌}
use Rattle.dfr_look.specs.declared.track.Step.{Step}
use Rattle.dfr_look.specs.declared.track.Step.TheVariants.{Repeated, Late, Ahead, Anew}
use Rattle.dfr_look.specs.declared.track.Track.{Track}

-- a counter and so many more: it stops at the largest number of 64 bits
abbrev pub up : ℕ → ℕ → ℕ
up count more = min (count + more) (2 ^ 64 - 1)

-- A sample is late that is up to 64 before the newest, in the same second or before its top. Where the second before ended is known once a
-- second has ended: at the highest count so far.
abbrev pub is_late : Track → ℕ → Bool
is_late t count =
    (nat_lt count t.newest && nat_le (t.newest - count) 64)
    || (nat_lt 0 t.tops && nat_lt t.newest count && nat_le count t.high && nat_le (t.newest + (t.high + 1 - count)) 64)

-- what the next count is: the newest once more, a late one, one that is ahead of the newest with so many lost between them, or one of a new second
abbrev pub step : Track → ℕ → Step
step t count =
    if count == t.newest then Repeated
    else if is_late t count then Late
    else if nat_lt t.newest count then Ahead (count - t.newest - 1)
    else Anew

-- Up to the top of a second samples are lost from the newest to the highest count, and after it those before the next count. Where a count is
-- higher than all before, each second that ended had so many samples more.
abbrev pub ahead : (lost count : ℕ) → Track → Track
ahead lost count t = record t {
  newest = count;
  high = max t.high count;
  lost = up t.lost (lost + t.tops * (max t.high count - t.high));
}

abbrev pub anew : (count : ℕ) → Track → Track
anew count t = record t { newest = count; tops = up t.tops 1; lost = up t.lost (t.high - t.newest + count) }

abbrev pub moved : Step → ℕ → Track → Track
moved Repeated count t = record t { repeated = up t.repeated 1 }
moved Late count t = record t { late = up t.late 1 }
moved (Ahead lost) count t = ahead lost count t
moved Anew count t = anew count t

abbrev pub beginning : ℕ → Track
beginning count = record { newest = count; high = count; tops = 0; lost = 0; repeated = 0; late = 0 }

abbrev pub after : Track → ℕ → Track
after t count = moved (step t count) count t

-- the track of a first count and those after it, the newest first
abbrev pub track : ℕ → List ℕ → Track
track first [] = beginning first
track first (count ∷ past) = after (track first past) count
