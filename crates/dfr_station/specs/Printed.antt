-- The lines of events: the instant of printing, what happened, and its numbers with their names.
use Rattle.std.specs.Prelude.{ℕ, ◌+◌, ◌/◌, ◌%◌, ◌<◌, nat_lt, ℤ, pos, int_lt, unsigned_abs, Bool, true, false, ◌&&◌, if◌then◌else◌, List, [], ◌++◌, codes, decimal, Option, Some, None, Result, Ok, Err}
use Rattle.comtrade_format.specs.Shape.{is_writable}
use Rattle.comtrade_values.specs.Dates.{civil_text}
use Rattle.comtrade_values.specs.Written.{padded}
use Rattle.dfr_folder.specs.Texts.{key_text}
use Rattle.dfr_folder.specs.declared.name.Key.{Key}
use Rattle.dfr_recorder.specs.declared.record.Cause.{Cause}
use Rattle.dfr_recorder.specs.declared.record.Cause.TheVariants as cause
use Rattle.dfr_recorder.specs.declared.record.Extent.{Extent}
use Rattle.dfr_recorder.specs.declared.step.Hit.{Hit}
use Rattle.dfr_recorder.specs.declared.step.Hit.TheVariants as hit
use Rattle.dfr_recorder.specs.declared.step.TriggerFault.{TriggerFault}
use Rattle.dfr_recorder.specs.declared.step.TriggerFault.TheVariants as refused
use Rattle.dfr_station.specs.declared.event.Asked.{Asked}
use Rattle.dfr_station.specs.declared.event.Asked.TheVariants as asked
use Rattle.dfr_station.specs.declared.event.ClockState.{ClockState}
use Rattle.dfr_station.specs.declared.event.Event.{Event}
use Rattle.dfr_station.specs.declared.event.Event.TheVariants as event
use Rattle.dfr_station.specs.declared.event.Followed.{Followed}
use Rattle.dfr_station.specs.declared.event.Replied.{Replied}
use Rattle.dfr_station.specs.declared.event.Replied.TheVariants as replied
use Rattle.dfr_station.specs.declared.event.Skipped.{Skipped}
use Rattle.dfr_station.specs.declared.event.Skipped.TheVariants as skipped
use Rattle.dfr_station.specs.declared.event.Trouble.{Trouble}
use Rattle.dfr_station.specs.declared.event.Trouble.TheVariants as trouble
use Rattle.dfr_station.specs.declared.intake.feed.Why.{Why}
use Rattle.dfr_station.specs.declared.intake.feed.Why.TheVariants as why

-- ---- words

abbrev pub skipped_word : Skipped → List ℕ
skipped_word skipped.Word = codes "word"
skipped_word skipped.Fields = codes "fields"
skipped_word skipped.Number = codes "number"
skipped_word skipped.NoChannel = codes "no-channel"
skipped_word skipped.TooMany = codes "too-many"
skipped_word skipped.Long = codes "long"
skipped_word skipped.Busy = codes "busy"
skipped_word skipped.Undated = codes "undated"
skipped_word skipped.Memory = codes "memory"

abbrev pub trouble_word : Trouble → List ℕ
trouble_word trouble.Full = codes "full"
trouble_word trouble.Gone = codes "gone"
trouble_word trouble.Denied = codes "denied"
trouble_word trouble.Memory = codes "memory"
trouble_word trouble.Other = codes "other"
trouble_word trouble.Storm = codes "storm"

-- why scans were lost; of values out of range the channel
abbrev pub why_text : Why → List ℕ
why_text why.Told = codes "told"
why_text why.Unread = codes "unread"
why_text why.Shape = codes "shape"
why_text (why.Range channel) = codes "range " ++ decimal channel
why_text why.Full = codes "full"
why_text why.Memory = codes "memory"
why_text why.Counted = codes "counted"
why_text why.Silent = codes "silent"

-- ---- instants and times

-- an instant of the years 1 to 9999
abbrev pub instant_text : ℤ → List ℕ
instant_text t = if is_writable t then civil_text 84 t else codes "?"

abbrev pub sign_text : Bool → List ℕ
sign_text true = codes "-"
sign_text false = codes "+"

-- thousandths as a decimal; nothing is below zero
unfoldable pub thousandths_text : Bool → ℕ → List ℕ
thousandths_text is_negative size = sign_text (is_negative && nat_lt 0 size) ++ padded 1 (size / 1_000) ++ codes "." ++ padded 3 (size % 1_000)

-- microseconds in seconds, to the nearest millisecond
unfoldable pub seconds_text : List ℕ → ℤ → List ℕ
seconds_text word micros = word ++ thousandths_text (int_lt micros (pos 0)) ((unsigned_abs micros + 500) / 1_000)

-- parts per billion in parts per million
abbrev pub drift_text : Option ℤ → List ℕ
drift_text None = []
drift_text (Some drift) = codes " drift " ++ thousandths_text (int_lt drift (pos 0)) (unsigned_abs drift)

abbrev pub followed_text : Option Followed → List ℕ
followed_text None = []
followed_text (Some f) = seconds_text (codes " offset ") f.offset ++ drift_text f.drift

-- how the wall clock and the scans stand to each other
abbrev pub clock_text : Option ClockState → List ℕ
clock_text None = []
clock_text (Some c) = seconds_text (codes " clock ") c.ahead ++ followed_text c.followed

-- ---- orders

abbrev pub hit_text : Hit → List ℕ
hit_text (hit.Opened n) = codes "opened " ++ decimal n
hit_text (hit.Extended n) = codes "extended " ++ decimal n
hit_text (hit.AtLimit n) = codes "at-limit " ++ decimal n
hit_text hit.ShelfFull = codes "refused shelf-full"

abbrev pub answer_text : Result Hit TriggerFault → List ℕ
answer_text (Ok hit) = hit_text hit
answer_text (Err refused.NoScan) = codes "refused no-scan"
answer_text (Err refused.ShelfFull) = codes "refused shelf-full"
answer_text (Err refused.Covered) = codes "refused covered"
answer_text (Err refused.Memory) = codes "refused memory"

abbrev pub replied_text : Replied → List ℕ
replied_text (replied.Trigger answer) = codes "trigger " ++ answer_text answer
replied_text (replied.Rules true) = codes "rules set"
replied_text (replied.Rules false) = codes "rules refused no-channel"
replied_text replied.Stop = codes "stop"

abbrev pub asked_word : Asked → List ℕ
asked_word asked.Input = codes "input at "
asked_word asked.Operator = codes "operator at "

-- who asked, after how many scans it was answered, the answer
unfoldable pub reply_text : Asked → ℕ → Replied → List ℕ
reply_text who at reply = (asked_word who ++ decimal at) ++ codes " " ++ replied_text reply

-- ---- records

abbrev pub cause_text : Cause → List ℕ
cause_text cause.Manual = codes " manual"
cause_text (cause.Rule rule) = codes " rule " ++ decimal rule

-- a record's number, its scans, and what triggered it
unfoldable pub extent_text : List ℕ → Extent → List ℕ
extent_text word e =
    (word ++ decimal e.number) ++ (codes " first " ++ decimal e.first) ++ (codes " trigger " ++ decimal e.trigger)
    ++ (codes " last " ++ decimal e.last) ++ cause_text e.cause

abbrev pub cut_text : Bool → List ℕ
cut_text true = codes " cut"
cut_text false = []

-- a record with the names of its files
unfoldable pub record_text : Extent → Key → Option ClockState → Bool → List ℕ
record_text e key clock is_cut =
    extent_text (codes "record ") e ++ codes " " ++ key_text key ++ codes ".cfg " ++ key_text key ++ codes ".dat" ++ clock_text clock ++ cut_text is_cut

unfoldable pub unwritten_text : Extent → Key → Trouble → List ℕ
unwritten_text e key why = extent_text (codes "unwritten ") e ++ codes " " ++ key_text key ++ codes " " ++ trouble_word why

-- ---- counts

unfoldable pub counts_text : List ℕ → ℕ → ℕ → ℕ → List ℕ
counts_text word scans lost records = (word ++ decimal scans) ++ (codes " lost " ++ decimal lost) ++ codes " records " ++ decimal records

unfoldable pub minute_text : ℕ → ℕ → ℕ → ℕ → ℕ → Option ClockState → List ℕ
minute_text scans lost records waiting missed clock =
    counts_text (codes "minute scans ") scans lost records ++ (codes " waiting " ++ decimal waiting) ++ (codes " missed " ++ decimal missed) ++ clock_text clock

unfoldable pub ended_text : ℕ → ℕ → ℕ → ℕ → List ℕ
ended_text scans lost records left = counts_text (codes "end scans ") scans lost records ++ codes " left " ++ decimal left

-- of the scans from one to another so many were lost
unfoldable pub losses_text : ℕ → ℕ → ℕ → Why → List ℕ
losses_text first last count why = (codes "lost " ++ decimal count) ++ (codes " from " ++ decimal first) ++ (codes " to " ++ decimal last) ++ codes " " ++ why_text why

unfoldable pub line_text : ℕ → Skipped → List ℕ
line_text line why = (codes "skipped line " ++ decimal line) ++ codes " " ++ skipped_word why

unfoldable pub started_text : ℤ → ℕ → List ℕ
started_text start rate = codes "start " ++ instant_text start ++ codes " rate " ++ decimal rate

abbrev pub refused_text : Skipped → List ℕ
refused_text why = codes "operator refused " ++ skipped_word why

abbrev pub trouble_text : Trouble → List ℕ
trouble_text trouble = codes "trouble " ++ trouble_word trouble

-- ---- lines

abbrev pub what_text : Event → List ℕ
what_text (event.Started start rate) = started_text start rate
what_text (event.Lost first last count why) = losses_text first last count why
what_text (event.Line line why) = line_text line why
what_text (event.Order why) = refused_text why
what_text (event.Reply who at reply) = reply_text who at reply
what_text (event.Record extent key clock is_cut) = record_text extent key clock is_cut
what_text (event.Unwritten extent key why) = unwritten_text extent key why
what_text (event.ShelfFull waiting) = codes "shelf full " ++ decimal waiting
what_text event.ShelfFree = codes "shelf free"
what_text (event.Unopened count) = codes "missed triggers " ++ decimal count
what_text (event.Trouble trouble) = trouble_text trouble
what_text event.Over = codes "trouble over"
what_text (event.Removed count) = codes "removed " ++ decimal count
what_text event.Unfinished = codes "unfinished record"
what_text (event.Cut bytes) = codes "cut frame " ++ decimal bytes
what_text (event.Noise at) = codes "noise after " ++ decimal at
what_text event.Broken = codes "input broken"
what_text event.Memory = codes "memory"
what_text (event.Missed count) = codes "missed lines " ++ decimal count
what_text (event.Silent seconds) = codes "silent " ++ decimal seconds
what_text event.Heard = codes "silent over"
what_text (event.Minute scans lost records waiting missed clock) = minute_text scans lost records waiting missed clock
what_text event.Undated = codes "undated"
what_text (event.ClockSet micros) = seconds_text (codes "clock set ") micros
what_text (event.Ended scans lost records left) = ended_text scans lost records left

-- the line of an event that is printed at an instant
unfoldable pub event_line : ℤ → Event → List ℕ
event_line at event = instant_text at ++ codes " " ++ what_text event ++ codes "\n"
