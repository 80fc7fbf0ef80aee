-- What a line of the input means, and what a frame.
use Rattle.std.specs.Prelude.{◌≡◌, ◌⊎◌, ℕ, ◌+◌, ◌==◌, Bool, false, not, ◌&&◌, ◌||◌, nat_lt, if◌then◌else◌, List, [], ◌∷◌, ◌++◌, length, All, Option, Some, None, Result, Ok, Err, codes}
use Rattle.std.specs.List.{before_first, after_first, list_all, list_any}
use Rattle.std.specs.Str.{bytes_eq}
use Rattle.comtrade_values.specs.Fields.{up_to}
use Rattle.comtrade_values.specs.Lines.{without_cr}
use Rattle.comtrade_values.specs.Spelling.{trimmed, whole_number}
use Rattle.dfr_channels.specs.Parts.{ScanParts, SetupParts}
use Rattle.dfr_channels.specs.Scans.{scan_fault}
use Rattle.dfr_channels.specs.Setups.{end_of_time}
use Rattle.dfr_channels.specs.Firing.{rules_fault}
use Rattle.dfr_channels.specs.declared.layout.ScanFault.{ScanFault}
use Rattle.dfr_channels.specs.declared.layout.ScanFault.TheVariants as unfit
use Rattle.dfr_channels.specs.declared.rule.Rule.{Rule}
use Rattle.dfr_channels.specs.declared.rules.RuleFault.{RuleFault}
use Rattle.dfr_channels.specs.declared.rules.RuleFault.TheVariants as rule_fault
use Rattle.dfr_script.specs.Commands.{command_line}
use Rattle.dfr_script.specs.Parts.{CommandParts}
use Rattle.dfr_script.specs.Parts as command
use Rattle.dfr_script.specs.Words.{is_comment, is_silent}
use Rattle.dfr_script.specs.declared.fault.LineFault.{LineFault}
use Rattle.dfr_script.specs.declared.fault.LineFault.TheVariants as line_fault
use Rattle.dfr_live.specs.Devices.{call_in}
use Rattle.dfr_live.specs.Parts.{CallParts}
use Rattle.dfr_live.specs.Parts as call
use Rattle.dfr_station.specs.Frames.{frame_scan}
use Rattle.dfr_station.specs.declared.event.Skipped.{Skipped}
use Rattle.dfr_station.specs.declared.event.Skipped.TheVariants as skipped
use Rattle.dfr_station.specs.declared.intake.feed.Why.{Why}
use Rattle.dfr_station.specs.declared.intake.feed.Why.TheVariants as why
use Rattle.dfr_station.specs.declared.intake.arrival.Arrival.{Arrival}
use Rattle.dfr_station.specs.declared.intake.arrival.Arrival.TheVariants as arrival
use Rattle.dfr_station.specs.declared.intake.line.Meaning.{Meaning}
use Rattle.dfr_station.specs.declared.intake.line.Meaning.TheVariants as meaning
use Rattle.dfr_station.specs.declared.station.Lowest.{Lowest}

-- what came: a scan that fits, a lost one, an order with the number of its line and of the scans before it, the number of a line and the
-- instant that it tells of the next scan, a line that is skipped, bytes that are no frame
pub data ArrivalParts : Type 0 where
  Scan : ScanParts → ArrivalParts
  Lost : Why → ArrivalParts
  Order : ℕ → ℕ → CallParts → ArrivalParts
  Time : ℕ → ℕ → ArrivalParts
  Skips : ℕ → Skipped → ArrivalParts
  Noise : ArrivalParts

-- what came, whatever its allocator is
abbrev pub parts_of : {A : Type 0} → Arrival A → ArrivalParts
parts_of (arrival.Scan scan) = Scan scan
parts_of (arrival.Lost lost) = Lost lost
parts_of (arrival.Order line at order) = Order line at (call_in order)
parts_of (arrival.Time line instant) = Time line instant
parts_of (arrival.Skipped line skips) = Skips line skips
parts_of arrival.Noise = Noise

-- ---- scans

abbrev pub why_of : ScanFault → Why
why_of unfit.Shape = why.Shape
why_of (unfit.Range i) = why.Range i

abbrev pub judged : Option ScanFault → ScanParts → ArrivalParts
judged None scan = Scan scan
judged (Some fault) scan = Lost (why_of fault)

-- a scan that came: it is lost where it doesn't fit the layout
abbrev pub of_scan : SetupParts → ScanParts → ArrivalParts
of_scan layout scan = judged (scan_fault layout scan) scan

-- the scan of the frame at the front of these bytes
abbrev pub of_frame : SetupParts → Lowest → List ℕ → ArrivalParts
of_frame layout l bytes = of_scan layout (frame_scan l (length layout.analog) (length layout.status) bytes)

-- so a frame means that scan; where an allocation failed, it is lost
abbrev pub FrameMeans : SetupParts → Lowest → List ℕ → ArrivalParts → Type 0
FrameMeans layout l bytes a = (a ≡ of_frame layout l bytes) ⊎ (a ≡ Lost why.Memory)

-- ---- how lines are cut

abbrev pub is_feed : ℕ → Bool
is_feed b = b == 10

abbrev pub HasNoFeed : List ℕ → Type 0
HasNoFeed bytes = All (λ b. is_feed b ≡ false) bytes

-- what stands before the first line feed, less a carriage return at its end, and how long it is with the line feed
pub record IsFirstLine (bytes line : List ℕ) (count : ℕ) : Type 0 where
  pub piece : List ℕ
  pub behind : List ℕ
  pub cut : bytes ≡ piece ++ 10 ∷ behind
  pub first : HasNoFeed piece
  pub text : line ≡ without_cr piece
  pub counted : count ≡ length piece + 1

-- ---- lines that can't be read

-- a blank or a control character
abbrev pub ends_word : ℕ → Bool
ends_word b = nat_lt b 33

abbrev pub first_word : List ℕ → List ℕ
first_word line = before_first ends_word line

-- a line that counts as a scan, even where it can't be read
abbrev pub is_scan_line : List ℕ → Bool
is_scan_line line = bytes_eq (first_word line) (codes "scan") || bytes_eq (first_word line) (codes "lost")

-- the other words of the input, and those of the script language, with which no scan line begins
abbrev pub other_words : List (List ℕ)
other_words =
    codes "time" ∷ codes "trigger" ∷ codes "rules" ∷ codes "take" ∷ codes "go" ∷ codes "station" ∷ codes "device" ∷ codes "analog"
    ∷ codes "status" ∷ codes "freq" ∷ codes "rate" ∷ codes "start" ∷ codes "limits" ∷ []

abbrev pub is_blank : ℕ → Bool
is_blank b = (b == 32) || ((b == 9) || (b == 13))

-- neither blank nor a comment, and its first word is none of these
unfoldable pub is_damaged : List ℕ → Bool
is_damaged line =
    not (is_comment line) && not (list_all is_blank line)
    && not (is_scan_line line)
    && not (list_any (λ known. bytes_eq (first_word line) known) other_words)

-- line n, which can't be read, after so many scans: a scan line is a lost scan, and any other line is skipped; a damaged line
-- after the first scan is skipped and a lost scan
abbrev pub refused : ℕ → ℕ → List ℕ → Skipped → Why → List ArrivalParts
refused n came line skips lost =
    if is_scan_line line then Lost lost ∷ []
    else if nat_lt 0 came && is_damaged line then Skips n skips ∷ Lost why.Unread ∷ []
    else Skips n skips ∷ []

-- ---- lines that tell the time

abbrev pub tells_time : List ℕ → Bool
tells_time line = bytes_eq (first_word line) (codes "time")

-- what stands behind the first word, without the blanks around it
unfoldable pub behind_word : List ℕ → List ℕ
behind_word line = trimmed (after_first ends_word line)

-- microseconds since 1970-01-01 00:00:00 UTC, up to the end of the year 9999
unfoldable pub told_instant : List ℕ → Option ℕ
told_instant text = up_to end_of_time (whole_number text)

abbrev pub of_time : ℕ → Option ℕ → ArrivalParts
of_time n None = Skips n skipped.Number
of_time n (Some instant) = Time n instant

-- ---- lines

abbrev pub skipped_of_line : LineFault → Skipped
skipped_of_line line_fault.Word = skipped.Word
skipped_of_line line_fault.Fields = skipped.Fields
skipped_of_line line_fault.Number = skipped.Number

abbrev pub skipped_of_rules : RuleFault → Skipped
skipped_of_rules rule_fault.TooMany = skipped.TooMany
skipped_of_rules (rule_fault.NoChannel i) = skipped.NoChannel

abbrev pub of_rules : Option RuleFault → ℕ → ℕ → List Rule → ArrivalParts
of_rules None n came list = Order n came (call.SetRules list)
of_rules (Some fault) n came list = Skips n (skipped_of_rules fault)

-- the command of line n, after so many scans
abbrev pub of_command : SetupParts → ℕ → ℕ → CommandParts → ArrivalParts
of_command layout n came (command.Scan scan) = of_scan layout scan
of_command layout n came command.Lost = Lost why.Told
of_command layout n came command.Trigger = Order n came call.Trigger
of_command layout n came command.Take = Skips n skipped.Word
of_command layout n came (command.Rules line list) = of_rules (rules_fault layout list) line came list

-- line n is no command: it tells the time of the next scan, or it can't be read
abbrev pub no_command : ℕ → ℕ → List ℕ → LineFault → List ArrivalParts
no_command n came line fault =
    if tells_time line then of_time n (told_instant (behind_word line)) ∷ [] else refused n came line (skipped_of_line fault) why.Unread

abbrev pub said : SetupParts → ℕ → ℕ → List ℕ → Result (Option CommandParts) LineFault → List ArrivalParts
said layout n came line (Ok None) = []
said layout n came line (Ok (Some c)) = of_command layout n came c ∷ []
said layout n came line (Err fault) = no_command n came line fault

-- what line n says, after so many scans: the same as after the `go` of a script, but that `take` is skipped, and `time` tells the time
abbrev pub line_says : SetupParts → ℕ → ℕ → List ℕ → List ArrivalParts
line_says layout n came line = said layout n came line (command_line n line)

-- so a line means that; where an allocation failed, it is one that can't be read. A silent line needs none
abbrev pub LineMeans : SetupParts → ℕ → ℕ → List ℕ → List ArrivalParts → Type 0
LineMeans layout n came line xs =
    (xs ≡ line_says layout n came line)
    ⊎ ((is_silent line ≡ false) × (xs ≡ refused n came line skipped.Memory why.Memory))

-- what the meaning of line n gives
abbrev pub given_by : {A : Type 0} → ℕ → Meaning A → List ArrivalParts
given_by n meaning.Nothing = []
given_by n (meaning.One a) = parts_of a ∷ []
given_by n (meaning.Damaged skips) = Skips n skips ∷ Lost why.Unread ∷ []
