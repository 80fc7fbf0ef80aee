-- What is kept of the lines: the samples that wait until their scans are complete.
use Rattle.std.specs.Prelude.{◌≡◌, ℕ, zero, suc, ◌+◌, ◌%◌, ◌<◌, ◌≤◌, Bool, ◌||◌, if◌then◌else◌, nat_lt, List, [], ◌∷◌, ◌++◌, length, map, drop, slice_index_or, slice_set, Option, Some, None, option_map, IfSome}
use Rattle.std.specs.List.{All, list_all, list_any}
use Rattle.circular_buffer.specs.Buffer.{Buffer, buffer}
use Rattle.dfr_bay.specs.declared.settings.Settings.{Settings}
use Rattle.dfr_bay.specs.declared.arrival.Arrival.{Arrival}
use Rattle.dfr_bay.specs.declared.arrival.Arrival.TheVariants.{Taken, Restarted, Repeated, Late, Astray, Invalid}
use Rattle.dfr_bay.specs.Arrivals.{missing_from, by_missing}
use Rattle.dfr_bay.specs.Settings.{Fits}
use Rattle.dfr_bay.specs.Lines.{Frame, Board, first_count, is_count, arrival, board, source}

-- the count that is due, of the first scan that is not complete; what waits of each line, with its room; the rest of the board
pub record Kept (X : Type 0) : Type 0 where
  pub settings : Settings
  pub due : Option ℕ
  pub queues : List (Buffer (Option X))
  pub newest : List (Option ℕ)
  pub strays : ℕ

abbrev pub queue : {X : Type 0} → (limit done : ℕ) → List (Option X) → Buffer (Option X)
queue limit done line = buffer (drop done line) (limit + 1)

abbrev pub kept : {X : Type 0} → Settings → Board X → Kept X
kept s b =
    record {
      settings = s;
      due = option_map (λ first. (first + b.done) % s.rate) b.first;
      queues = map (queue s.limit b.done) b.lines;
      newest = b.newest;
      strays = b.strays;
    }

-- a list grew by just the scans by which the source did
pub record Grows {X : Type 0} (before after was now : List X) : Type 0 where
  pub given : List X
  pub appended : after ≡ before ++ given
  pub source_grew : now ≡ was ++ given

-- For every history of which `old` is kept: this becomes of the next frame; a list, whatever it has, grows by the scans that the source has
-- more with that frame; and `new` is kept.
abbrev pub IsTaken : {X : Type 0} → Kept X → Frame X → List (Option X) → Arrival → List (Option X) → Kept X → Type 0
IsTaken {X} old f before a after new =
    (s : Settings) (streams : ℕ) (past : List (Frame X)) → kept s (board s streams past) ≡ old
    → (arrival s (board s streams past) f ≡ a) × Grows before after (source (board s streams past)) (source (board s streams (f ∷ past)))
    × (kept s (board s streams (f ∷ past)) ≡ new)

-- how the queues are kept
abbrev pub queue_at : {X : Type 0} → ℕ → List (Buffer (Option X)) → ℕ → Buffer (Option X)
queue_at limit queues stream = slice_index_or queues stream (buffer [] (limit + 1))

abbrev pub pushed : {X : Type 0} → Option X → Buffer (Option X) → Buffer (Option X)
pushed x q = buffer (q.items ++ x ∷ []) q.capacity

abbrev pub popped : {X : Type 0} → Buffer (Option X) → Buffer (Option X)
popped q = buffer (drop 1 q.items) q.capacity

abbrev pub head : {X : Type 0} → Buffer (Option X) → Option X
head q = slice_index_or q.items 0 None

abbrev pub all_wait : {X : Type 0} → List (Buffer (Option X)) → Bool
all_wait queues = list_all (λ q. nat_lt 0 (length q.items)) queues

abbrev pub one_waits_long : {X : Type 0} → ℕ → List (Buffer (Option X)) → Bool
one_waits_long limit queues = list_any (λ q. nat_lt limit (length q.items)) queues

abbrev pub is_ready : {X : Type 0} → ℕ → List (Buffer (Option X)) → Bool
is_ready limit queues = all_wait queues || one_waits_long limit queues

abbrev pub entered : {X : Type 0} → (limit stream : ℕ) → Option X → List (Buffer (Option X)) → List (Buffer (Option X))
entered limit stream x queues = slice_set queues stream (pushed x (queue_at limit queues stream))

-- the scan that a place more makes complete
abbrev pub finished : {X : Type 0} → ℕ → List (Buffer (Option X)) → List (Option X)
finished limit queues = if is_ready limit queues then map head queues else []

abbrev pub kept_place : {X : Type 0} → ℕ → Option X → Kept X → Kept X
kept_place stream x k =
    let queues = entered k.settings.limit stream x k.queues in
    if is_ready k.settings.limit queues then record k { queues = map popped queues; due = option_map (λ d. (d + 1) % k.settings.rate) k.due }
    else record k { queues = queues }

abbrev pub place_gives : {X : Type 0} → ℕ → Option X → Kept X → List (Option X)
place_gives stream x k = finished k.settings.limit (entered k.settings.limit stream x k.queues)

abbrev pub kept_lost : {X : Type 0} → (stream lost : ℕ) → Kept X → Kept X
kept_lost stream zero k = k
kept_lost stream (suc lost) k = kept_place stream None (kept_lost stream lost k)

abbrev pub lost_give : {X : Type 0} → (stream lost : ℕ) → Kept X → List (Option X)
lost_give stream zero k = []
lost_give stream (suc lost) k = lost_give stream lost k ++ place_gives stream None (kept_lost stream lost k)

-- what a call makes of a frame
abbrev pub arrival_by : Settings → Option ℕ → (waiting : ℕ) (is_newest : Bool) (strays count : ℕ) → Arrival
arrival_by s None waiting is_newest strays count = if nat_lt count s.rate then Taken 0 else Invalid
arrival_by s (Some due) waiting is_newest strays count =
    if nat_lt count s.rate then by_missing s is_newest strays (missing_from s.rate ((due + waiting) % s.rate) count) else Invalid

abbrev pub arrival_of : {X : Type 0} → Kept X → (stream count : ℕ) → Arrival
arrival_of k stream count =
    arrival_by k.settings k.due (length (queue_at k.settings.limit k.queues stream).items) (is_count (slice_index_or k.newest stream None) count)
    k.strays count

-- begins a frame that is taken
abbrev pub begun : {X : Type 0} → (stream count : ℕ) → Kept X → Kept X
begun stream count k = record k { due = first_count k.due count; newest = slice_set k.newest stream (Some count); strays = 0 }

abbrev pub kept_frame : {X : Type 0} → Frame X → ℕ → Kept X → Kept X
kept_frame f lost k = kept_place f.stream (Some f.content) (kept_lost f.stream lost (begun f.stream f.count k))

abbrev pub frame_gives : {X : Type 0} → Frame X → ℕ → Kept X → List (Option X)
frame_gives f lost k = let k' = begun f.stream f.count k in lost_give f.stream lost k' ++ place_gives f.stream (Some f.content) (kept_lost f.stream lost k')

abbrev pub kept_after : {X : Type 0} → Arrival → Frame X → Kept X → Kept X
kept_after (Taken lost) f k = kept_frame f lost k
kept_after (Restarted lost) f k = kept_frame f lost k
kept_after Repeated f k = record k { strays = 0 }
kept_after Late f k = record k { strays = 0 }
kept_after Astray f k = record k { strays = k.strays + 1 }
kept_after Invalid f k = record k { strays = 0 }

abbrev pub gives : {X : Type 0} → Arrival → Frame X → Kept X → List (Option X)
gives (Taken lost) f k = frame_gives f lost k
gives (Restarted lost) f k = frame_gives f lost k
gives Repeated f k = []
gives Late f k = []
gives Astray f k = []
gives Invalid f k = []

-- what waits of a line is not more than the limit, and there is room for one more
pub record Waits {X : Type 0} (limit : ℕ) (q : Buffer (Option X)) : Type 0 where
  pub few : length q.items ≤ limit
  pub room : q.capacity ≡ limit + 1

pub record IsBay {X : Type 0} (s : Settings) (due : Option ℕ) (queues : List (Buffer (Option X))) (newest : List (Option ℕ)) : Type 0 where
  pub fits : Fits s
  pub below : IfSome due (λ d. d < s.rate)
  pub waits : All (Waits s.limit) queues
  pub same : length newest ≡ length queues
  pub few : length queues ≤ 256
