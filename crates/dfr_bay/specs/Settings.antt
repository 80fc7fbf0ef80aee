-- How the streams of a bay are followed.
use Rattle.std.specs.Prelude.{◌<◌, ◌≤◌, ◌&&◌, nat_le, nat_lt, Option, Some, None, if◌then◌else◌}
use Rattle.dfr_bay.specs.declared.settings.Settings.{Settings}
use Rattle.dfr_bay.specs.declared.settings.SettingsFault.{SettingsFault}
use Rattle.dfr_bay.specs.declared.settings.SettingsFault.TheVariants.{Rate, Late, Limit, Reach, Confirm}

-- the first fault
abbrev pub settings_fault : Settings → Option SettingsFault
settings_fault s =
    if nat_le 2 s.rate && nat_le s.rate 65_536 then
    (if nat_le 1 s.late && nat_lt s.late s.rate then
    (if nat_le 1 s.limit && nat_le s.limit 65_536 then
    (if nat_le s.limit s.reach then
    (if nat_le 1 s.confirm then None else Some Confirm)
    else Some Reach)
    else Some Limit)
    else Some Late)
    else Some Rate

-- what settings without a fault have
pub record Fits (s : Settings) : Type 0 where
  pub some : 2 ≤ s.rate
  pub few : s.rate ≤ 65_536
  pub repeated : 1 ≤ s.late
  pub timely : s.late < s.rate
  pub waits : 1 ≤ s.limit
  pub short : s.limit ≤ 65_536
  pub reaches : s.limit ≤ s.reach
  pub confirmed : 1 ≤ s.confirm
