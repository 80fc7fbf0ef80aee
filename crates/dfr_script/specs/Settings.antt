-- The words of a set-up.
use Rattle.std.specs.Prelude.{ℕ, if◌then◌else◌, List, Option, Some, None, codes}
use Rattle.std.specs.Str.{bytes_eq}
use Rattle.dfr_script.specs.declared.setting.Setting.{Setting}
use Rattle.dfr_script.specs.declared.setting.Setting.TheVariants.{Station, Device, Analog, Status, Freq, Rate, Start, Limits, Rules}

-- the setting that the word names
unfoldable pub setting : List ℕ → Option Setting
setting w =
    if bytes_eq w (codes "station") then Some Station
    else if bytes_eq w (codes "device") then Some Device
    else if bytes_eq w (codes "analog") then Some Analog
    else if bytes_eq w (codes "status") then Some Status
    else if bytes_eq w (codes "freq") then Some Freq
    else if bytes_eq w (codes "rate") then Some Rate
    else if bytes_eq w (codes "start") then Some Start
    else if bytes_eq w (codes "limits") then Some Limits
    else if bytes_eq w (codes "rules") then Some Rules
    else None
