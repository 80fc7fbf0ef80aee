-- The lines of settings: follow LATE,REACH,CONFIRM,LIMIT, and clock global or clock capture.
use Rattle.std.specs.Prelude.{ℕ, ◌+◌, ◌*◌, ◌/◌, ◌==◌, max, is_some, List, length, Option, Some, None, option_map, unwrap_or, Result, Ok, Err, if◌then◌else◌, codes}
use Rattle.std.specs.Str.{bytes_eq}
use Rattle.comtrade_values.specs.Lines.{field}
use Rattle.dfr_channels.specs.Parts.{SetupParts}
use Rattle.dfr_bay.specs.declared.settings.Settings.{Settings}
use Rattle.dfr_bay.specs.Settings.{settings_fault}
use Rattle.dfr_capture.specs.declared.plan.Dating.{Dating}
use Rattle.dfr_capture.specs.declared.plan.Dating.TheVariants.{Synchronised, Stamps}
use Rattle.dfr_plan.specs.declared.fault.PlanFault.{PlanFault}
use Rattle.dfr_plan.specs.declared.fault.PlanFault.TheVariants as fault
use Rattle.dfr_plan.specs.Drafts.{DraftParts}
use Rattle.dfr_plan.specs.Numbers.{number}
use Rattle.dfr_plan.specs.Refusing.{and_then, needed, unless}

-- Without a line: a quarter of a second is late, half a second may be missing, 8 frames begin anew, and a scan waits 3 ms.
abbrev pub default_settings : (rate : ℕ) → Settings
default_settings rate = record { rate = rate; late = max (rate / 4) 1; reach = rate / 2; confirm = 8; limit = rate * 3 / 1000 + 1 }

-- settings that streams can be followed by
abbrev pub checked : Settings → Result Settings PlanFault
checked s = unless (option_map fault.Follow (settings_fault s)) s

abbrev pub number_at : List (List ℕ) → ℕ → Result ℕ PlanFault
number_at fs i = needed (number (field fs i)) fault.Number

abbrev pub settings_of : (rate : ℕ) → List (List ℕ) → Result Settings PlanFault
settings_of rate fs =
    and_then (number_at fs 0) (λ late.
    and_then (number_at fs 1) (λ reach.
    and_then (number_at fs 2) (λ confirm.
    and_then (number_at fs 3) (λ limit.
    checked (record { rate = rate; late = late; reach = reach; confirm = confirm; limit = limit })))))

abbrev pub with_follow : SetupParts → DraftParts → List (List ℕ) → Result DraftParts PlanFault
with_follow s d fs =
    if is_some d.follow then Err fault.Twice
    else if length fs == 4 then and_then (settings_of s.rate fs) (λ settings. Ok (record d { follow = Some settings }))
    else Err fault.Fields

abbrev pub dating_of : List (List ℕ) → Result Dating PlanFault
dating_of fs =
    if bytes_eq (field fs 0) (codes "global") then Ok Synchronised
    else if bytes_eq (field fs 0) (codes "capture") then Ok Stamps
    else Err fault.Clock

abbrev pub with_clock : DraftParts → List (List ℕ) → Result DraftParts PlanFault
with_clock d fs =
    if is_some d.dating then Err fault.Twice
    else if length fs == 1 then and_then (dating_of fs) (λ dating. Ok (record d { dating = Some dating }))
    else Err fault.Fields

-- what the lines say, or what holds without them
abbrev pub settings_in : (rate : ℕ) → DraftParts → Settings
settings_in rate d = unwrap_or d.follow (default_settings rate)

abbrev pub dating_in : DraftParts → Dating
dating_in d = unwrap_or d.dating Synchronised
