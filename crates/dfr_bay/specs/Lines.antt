-- Several streams side by side. A line has the samples of one stream from scan 0 on: what was sent, or None where it is lost.
use Rattle.std.specs.Prelude.{◌≡◌, ℕ, zero, suc, ◌+◌, ◌-◌, ◌==◌, max, Bool, false, ◌||◌, if◌then◌else◌, nat_lt, List, [], ◌∷◌, ◌++◌, length, map, slice_index_or, slice_set, replicate, Option, Some, None}
use Rattle.std.specs.List.{list_all, list_any}
use Rattle.dfr_bay.specs.declared.settings.Settings.{Settings}
use Rattle.dfr_bay.specs.declared.arrival.Arrival.{Arrival}
use Rattle.dfr_bay.specs.declared.arrival.Arrival.TheVariants.{Taken, Restarted, Repeated, Late, Astray, Invalid}
use Rattle.dfr_bay.specs.Arrivals.{missing, by_missing}

-- a frame: the number of its stream, its sample count, and what was sampled
pub record Frame (X : Type 0) : Type 0 where
  pub stream : ℕ
  pub count : ℕ
  pub content : X

-- what the frames of a history come to: the count of scan 0; the lines; how many scans are complete; the count of the newest sample of each
-- stream; how many frames up to the newest are astray in a row
pub record Board (X : Type 0) : Type 0 where
  pub first : Option ℕ
  pub lines : List (List (Option X))
  pub done : ℕ
  pub newest : List (Option ℕ)
  pub strays : ℕ

abbrev pub line_at : {X : Type 0} → List (List (Option X)) → ℕ → List (Option X)
line_at lines stream = slice_index_or lines stream []

-- a scan is complete when the line of each stream goes beyond it, or a line goes beyond it by the limit
abbrev pub is_complete : {X : Type 0} → (limit scan : ℕ) → List (List (Option X)) → Bool
is_complete limit scan lines = list_all (λ line. nat_lt scan (length line)) lines || list_any (λ line. nat_lt (scan + limit) (length line)) lines

-- a line that ends before so many scans, filled up to them
abbrev pub filled : {X : Type 0} → ℕ → List (Option X) → List (Option X)
filled scans line = line ++ replicate (scans - length line) None

-- One place more on the line of a stream. What is complete stays as it is, so the place is beyond it.
abbrev pub with_place : {X : Type 0} → (limit stream : ℕ) → Option X → Board X → Board X
with_place limit stream x b =
    let lines = slice_set b.lines stream (filled b.done (line_at b.lines stream) ++ x ∷ []) in
    record b { lines = lines; done = if is_complete limit b.done lines then suc b.done else b.done }

-- and so many lost samples
abbrev pub with_lost : {X : Type 0} → (limit stream lost : ℕ) → Board X → Board X
with_lost limit stream zero b = b
with_lost limit stream (suc lost) b = with_place limit stream None (with_lost limit stream lost b)

-- the first sample is of scan 0
abbrev pub first_count : Option ℕ → ℕ → Option ℕ
first_count None count = Some count
first_count (Some first) count = Some first

-- a frame that is taken, so many samples before it being lost
abbrev pub with_frame : {X : Type 0} → Settings → Frame X → ℕ → Board X → Board X
with_frame s f lost b =
    let gone = with_lost s.limit f.stream lost (record b { first = first_count b.first f.count; newest = slice_set b.newest f.stream (Some f.count); strays = 0 }) in
    with_place s.limit f.stream (Some f.content) gone

-- the scan that is due for a stream: after its line, and after what is complete
abbrev pub due : {X : Type 0} → Board X → ℕ → ℕ
due b stream = max (length (line_at b.lines stream)) b.done

abbrev pub is_count : Option ℕ → ℕ → Bool
is_count None count = false
is_count (Some newest) count = newest == count

-- what becomes of a frame when a scan is due. The count of a scan is that of scan 0 and its number, around the rate
abbrev pub arrival_at : Settings → Option ℕ → (due : ℕ) (is_newest : Bool) (strays count : ℕ) → Arrival
arrival_at s None due is_newest strays count = if nat_lt count s.rate then Taken 0 else Invalid
arrival_at s (Some first) due is_newest strays count =
    if nat_lt count s.rate then by_missing s is_newest strays (missing s.rate (first + due) count) else Invalid

abbrev pub arrival : {X : Type 0} → Settings → Board X → Frame X → Arrival
arrival s b f = arrival_at s b.first (due b f.stream) (is_count (slice_index_or b.newest f.stream None) f.count) b.strays f.count

-- frames that are not taken change nothing, and those astray in a row are counted
abbrev pub after_arrival : {X : Type 0} → Settings → Arrival → Frame X → Board X → Board X
after_arrival s (Taken lost) f b = with_frame s f lost b
after_arrival s (Restarted lost) f b = with_frame s f lost b
after_arrival s Repeated f b = record b { strays = 0 }
after_arrival s Late f b = record b { strays = 0 }
after_arrival s Astray f b = record b { strays = b.strays + 1 }
after_arrival s Invalid f b = record b { strays = 0 }

-- before the first frame of so many streams
abbrev pub blank : {X : Type 0} → ℕ → Board X
blank streams = record { first = None; lines = replicate streams []; done = 0; newest = replicate streams None; strays = 0 }

-- after the frames of a history, the newest first
abbrev pub board : {X : Type 0} → Settings → ℕ → List (Frame X) → Board X
board s streams [] = blank streams
board s streams (f ∷ past) = after_arrival s (arrival s (board s streams past) f) f (board s streams past)

-- a scan: the sample of each stream
abbrev pub scan : {X : Type 0} → List (List (Option X)) → ℕ → List (Option X)
scan lines k = map (λ line. slice_index_or line k None) lines

-- the first scans, one after the other
abbrev pub scans : {X : Type 0} → List (List (Option X)) → ℕ → List (Option X)
scans lines zero = []
scans lines (suc n) = scans lines n ++ scan lines n

-- all that are complete
abbrev pub source : {X : Type 0} → Board X → List (Option X)
source b = scans b.lines b.done
