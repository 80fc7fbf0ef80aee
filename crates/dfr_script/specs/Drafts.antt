-- What the lines of a set-up say, one after the other.
use Rattle.std.specs.Prelude.{ℕ, ℤ, Bool, true, false, if◌then◌else◌, List, [], ◌∷◌, ◌++◌, Option, Some, None, is_some, unwrap_or, Result, Ok, Err}
use Rattle.dfr_channels.specs.LineFields.{and_then, need}
use Rattle.comtrade_values.specs.Spelling.{decimal_number}
use Rattle.dfr_script.specs.declared.fault.LineFault.{LineFault}
use Rattle.dfr_script.specs.declared.fault.LineFault.TheVariants as fault
use Rattle.dfr_script.specs.declared.setting.Setting.{Setting}
use Rattle.dfr_script.specs.declared.setting.Setting.TheVariants.{Station, Device, Analog, Status, Freq, Rate, Start, Limits, Rules}
use Rattle.dfr_script.specs.declared.fault.Word.{Word}
use Rattle.dfr_script.specs.declared.fault.Word.TheVariants as words
use Rattle.dfr_script.specs.Words.{word, rest, is_silent}
use Rattle.dfr_script.specs.Fields.{natural, instant, single}
use Rattle.dfr_script.specs.Channels.{analog_line, status_line}
use Rattle.dfr_script.specs.Limits.{limits_line}
use Rattle.dfr_script.specs.RuleLines.{rules}
use Rattle.dfr_script.specs.Settings.{setting}
use Rattle.dfr_script.specs.Parts.{DraftParts, RecorderSetupParts}

abbrev pub empty : DraftParts
empty = record {
  station = None;
  device = None;
  analog = [];
  status = [];
  line_freq = None;
  rate = None;
  start = None;
  dated = false;
  limits = None;
  rules = None;
}

-- a draft with this start, whatever lines `start` come
abbrev pub dated : ℤ → DraftParts
dated start = record empty { start = Some start; dated = true }

-- a setting whose lines are skipped
unfoldable pub skips : DraftParts → Setting → Bool
skips d Start = d.dated
skips d _ = false

-- a setting that stands once came already
unfoldable pub has : DraftParts → Setting → Bool
has d Station = is_some d.station
has d Device = is_some d.device
has d Analog = false
has d Status = false
has d Freq = is_some d.line_freq
has d Rate = is_some d.rate
has d Start = is_some d.start
has d Limits = is_some d.limits
has d Rules = is_some d.rules

-- the draft with what the rest of a setting's line says
unfoldable pub put : DraftParts → Setting → List ℕ → Result DraftParts LineFault
put d Station rest = Ok (record d { station = Some rest })
put d Device rest = Ok (record d { device = Some rest })
put d Analog rest = and_then (analog_line rest) (λ channel. Ok (record d { analog = d.analog ++ channel ∷ [] }))
put d Status rest = and_then (status_line rest) (λ channel. Ok (record d { status = d.status ++ channel ∷ [] }))
put d Freq rest = and_then (single rest (decimal_number rest)) (λ freq. Ok (record d { line_freq = Some freq }))
put d Rate rest = and_then (single rest (natural rest)) (λ rate. Ok (record d { rate = Some rate }))
put d Start rest = and_then (single rest (instant rest)) (λ start. Ok (record d { start = Some start }))
put d Limits rest = and_then (limits_line rest) (λ limits. Ok (record d { limits = Some limits }))
put d Rules rest = and_then (rules rest) (λ list. Ok (record d { rules = Some list }))

-- the draft with a setting's line, where it may come
unfoldable pub add : DraftParts → Setting → List ℕ → Result DraftParts LineFault
add d s rest =
    if skips d s then Ok d
    else if has d s then Err fault.Word
    else put d s rest

abbrev pub word_adds : DraftParts → Option Setting → List ℕ → Result DraftParts LineFault
word_adds d None rest = Err fault.Word
word_adds d (Some s) rest = add d s rest

-- the draft with a line before `go`
unfoldable pub with_line : DraftParts → List ℕ → Result DraftParts LineFault
with_line d line = if is_silent line then Ok d else word_adds d (setting (word line)) (rest line)

-- the set-up of a draft to which each line came that it needs
unfoldable pub whole : DraftParts → Result RecorderSetupParts Word
whole d =
    need d.station words.Setup (λ station.
    need d.device words.Setup (λ device.
    need d.line_freq words.Setup (λ line_freq.
    need d.rate words.Setup (λ rate.
    need d.start words.Setup (λ start.
    need d.limits words.Setup (λ limits.
    Ok (record {
      setup = record {
        station = station;
        device = device;
        analog = d.analog;
        status = d.status;
        line_freq = line_freq;
        rate = rate;
        start = start;
      };
      limits = limits;
      rules = unwrap_or d.rules [];
    })))))))
