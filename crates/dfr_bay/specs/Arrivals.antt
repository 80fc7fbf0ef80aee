-- What becomes of a frame. A place is the number of a sample in its stream: modulo the rate it is the sample count.
use Rattle.std.specs.Prelude.{ℕ, ◌+◌, ◌-◌, ◌%◌, ◌==◌, if◌then◌else◌, Bool, true, false, nat_le}
use Rattle.dfr_bay.specs.declared.settings.Settings.{Settings}
use Rattle.dfr_bay.specs.declared.arrival.Arrival.{Arrival}
use Rattle.dfr_bay.specs.declared.arrival.Arrival.TheVariants.{Taken, Restarted, Repeated, Late, Astray, Invalid}

-- how many samples are missing from the count that is due to the next sample of this count
abbrev pub missing_from : (rate due count : ℕ) → ℕ
missing_from rate due count = (count + (rate - due)) % rate

-- and from a place that is due
abbrev pub missing : (rate place count : ℕ) → ℕ
missing rate place count = missing_from rate (place % rate) count

-- What becomes of a frame with so many samples missing before it, after so many frames astray. A late one is so few samples before a whole
-- second; if it has the count of the newest sample, it is that one once more.
abbrev pub by_missing : Settings → (is_newest : Bool) (strays missing : ℕ) → Arrival
by_missing s is_newest strays missing =
    if nat_le s.rate (missing + s.late) then (if is_newest then Repeated else Late)
    else if nat_le missing s.reach then Taken missing
    else if nat_le s.confirm (strays + 1) then Restarted missing
    else Astray

abbrev pub is_taken : Arrival → Bool
is_taken (Taken lost) = true
is_taken (Restarted lost) = true
is_taken Repeated = false
is_taken Late = false
is_taken Astray = false
is_taken Invalid = false

abbrev pub is_astray : Arrival → Bool
is_astray (Taken lost) = false
is_astray (Restarted lost) = false
is_astray Repeated = false
is_astray Late = false
is_astray Astray = true
is_astray Invalid = false

-- how many samples a frame that is taken shows to be lost
abbrev pub lost_before : Arrival → ℕ
lost_before (Taken lost) = lost
lost_before (Restarted lost) = lost
lost_before Repeated = 0
lost_before Late = 0
lost_before Astray = 0
lost_before Invalid = 0

-- the number of frames astray in a row after one more
abbrev pub strays_after : Arrival → ℕ → ℕ
strays_after a strays = if is_astray a then strays + 1 else 0
