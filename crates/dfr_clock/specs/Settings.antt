-- How the clock is followed.
use Rattle.std.specs.Prelude.{ℕ, ◌*◌, ◌/◌, ◌≤◌, ◌^◌, ◌&&◌, nat_le, Option, Some, None, if◌then◌else◌}
use Rattle.dfr_clock.specs.declared.settings.Settings.{Settings}
use Rattle.dfr_clock.specs.declared.settings.SettingsFault.{SettingsFault}
use Rattle.dfr_clock.specs.declared.settings.SettingsFault.TheVariants.{Rate, Window, Slew}

-- the first fault
abbrev pub settings_fault : Settings → Option SettingsFault
settings_fault s =
    if nat_le 1 s.rate && nat_le s.rate 1_000_000 then
    (if nat_le 1 s.window && nat_le s.window 1_073_741_824 then
    (if nat_le s.slew 1_000_000 then None else Some Slew)
    else Some Window)
    else Some Rate

-- how many microseconds the course may gain or lose in a window
abbrev pub slewed : Settings → ℕ
slewed s = s.window * s.slew / 1_000_000

-- what settings without a fault have
pub record Fits (s : Settings) : Type 0 where
  pub some : 1 ≤ s.rate
  pub few : s.rate ≤ 1_000_000
  pub wide : 1 ≤ s.window
  pub narrow : s.window ≤ 2 ^ 30
  pub slow : s.slew ≤ 1_000_000
