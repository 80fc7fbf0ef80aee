-- What a call keeps is what is kept of the board with a frame more, and the scans that it gives are those that the board has more.
use Rattle.std.proofs.Common.{◌≡◌, ◌∙◌, sym, ap, subst, refl, ℕ, zero, suc, ◌+◌, ◌-◌, ◌%◌, ◌<◌, ◌≤◌, max, Bool, true, false, cond, List, [], ◌∷◌, ◌++◌, length, map, drop, set, get_or, Option, Some, None, arith, append_assoc}
use Rattle.std.specs.Prelude.{nat_lt, option_map}
use Rattle.std.proofs.lemmas.List.{append-nil, length-drop}
use Rattle.std.proofs.Math.Nat.{mod-add-mod, mod-eq_of_lt}
use borrow.Author.Tests.{ltb-true}
use Rattle.circular_buffer.specs.Buffer.{Buffer, buffer}
use Rattle.dfr_bay.specs.declared.settings.Settings.{Settings}
use Rattle.dfr_bay.specs.declared.arrival.Arrival.{Arrival}
use Rattle.dfr_bay.specs.declared.arrival.Arrival.TheVariants.{Taken, Restarted, Repeated, Late, Astray, Invalid}
use Rattle.dfr_bay.specs.Arrivals.{missing_from, by_missing}
use Rattle.dfr_bay.specs.Lines.{Frame, Board, line_at, is_complete, filled, with_place, with_lost, first_count, with_frame, due, is_count, arrival_at, arrival, after_arrival, board, scan, scans, source}
use Rattle.dfr_bay.specs.Waiting.{Kept, queue, kept, IsTaken, queue_at, popped, head, is_ready, entered, finished, kept_place, place_gives, kept_lost, lost_give, arrival_by, arrival_of, begun, kept_frame, frame_gives, kept_after, gives}
use Rattle.dfr_bay.proofs.Places.{same_queues, same_ready, queues_more, heads_are, scans_same, at_map, drop_none}

-- the lines with a place more
abbrev more_lines : {X : Type 0} → ℕ → Option X → Board X → List (List (Option X))
more_lines stream x b = set b.lines stream (filled b.done (line_at b.lines stream) ++ x ∷ [])

due_more : (rate done : ℕ) (first : Option ℕ) → option_map (λ c. (c + suc done) % rate) first ≡ option_map (λ d. (d + 1) % rate) (option_map (λ c. (c + done) % rate) first)
due_more rate done None = refl
due_more rate done (Some c) = ap Some (ap (λ n. n % rate) (let e : c + suc done ≡ c + done + 1 = omega arith in e) ∙ sym (mod-add-mod (c + done) rate 1))

-- a board of these lines, so many scans being complete
abbrev lined : {X : Type 0} → Board X → List (List (Option X)) → ℕ → Board X
lined b lines done = record b { lines = lines; done = done }

abbrev queued : {X : Type 0} → Kept X → Option ℕ → List (Buffer (Option X)) → Kept X
queued k due queues = record k { due = due; queues = queues }

kept_by_ready : {X : Type 0} (s : Settings) (stream : ℕ) (x : Option X) (b : Board X) (ready : Bool) → let lines = more_lines stream x b in
    let queues = map (queue s.limit b.done) lines in
    kept s (lined b lines (cond ready (suc b.done) b.done))
    ≡ cond ready (record (kept s b) { queues = map popped queues; due = option_map (λ d. (d + 1) % s.rate) (kept s b).due }) (record (kept s b) { queues = queues })
kept_by_ready {X = X} s stream x b true =
    ap (λ (d : Option ℕ). queued (kept s b) d (map (queue s.limit (suc b.done)) (more_lines stream x b))) (due_more s.rate b.done b.first)
    ∙ ap (λ (qs : List (Buffer (Option X))). queued (kept s b) (option_map (λ d. (d + 1) % s.rate) (kept s b).due) qs) (queues_more s.limit b.done (more_lines stream x b))
kept_by_ready s stream x b false = refl

pub same_place : {X : Type 0} (s : Settings) (stream : ℕ) (x : Option X) (b : Board X) → kept s (with_place s.limit stream x b) ≡ kept_place stream x (kept s b)
same_place {X = X} s stream x b =
    let lines = more_lines stream x b in
    let k = kept s b in
    let step : Bool → List (Buffer (Option X)) → Kept X =
    λ ready queues. cond ready (record k { queues = map popped queues; due = option_map (λ d. (d + 1) % s.rate) k.due }) (record k { queues = queues }) in
    ap (λ ready. kept s (lined b lines (cond ready (suc b.done) b.done))) (same_ready s.limit b.done lines)
    ∙ kept_by_ready s stream x b (is_ready s.limit (map (queue s.limit b.done) lines))
    ∙ ap (λ (qs : List (Buffer (Option X))). step (is_ready s.limit qs) qs) (same_queues s.limit b.done stream x b.lines)

scans_by_ready : {X : Type 0} (limit stream : ℕ) (x : Option X) (b : Board X) (ready : Bool) → let lines = more_lines stream x b in
    scans lines (cond ready (suc b.done) b.done) ≡ scans b.lines b.done ++ cond ready (map head (map (queue limit b.done) lines)) []
scans_by_ready {X = X} limit stream x b true =
    let lines = more_lines stream x b in
    ap (λ (xs : List (Option X)). xs ++ scan lines b.done) (scans_same b.done b.done stream x b.lines (omega arith))
    ∙ ap (λ (xs : List (Option X)). scans b.lines b.done ++ xs) (sym (heads_are limit b.done lines))
scans_by_ready limit stream x b false = scans_same b.done b.done stream x b.lines (omega arith) ∙ sym (append-nil (scans b.lines b.done))

pub more_source : {X : Type 0} (s : Settings) (stream : ℕ) (x : Option X) (b : Board X) → source (with_place s.limit stream x b) ≡ source b ++ place_gives stream x (kept s b)
more_source {X = X} s stream x b =
    let lines = more_lines stream x b in
    ap (λ ready. scans lines (cond ready (suc b.done) b.done)) (same_ready s.limit b.done lines)
    ∙ scans_by_ready s.limit stream x b (is_ready s.limit (map (queue s.limit b.done) lines))
    ∙ ap (λ (qs : List (Buffer (Option X))). source b ++ finished s.limit qs) (same_queues s.limit b.done stream x b.lines)

-- so many lost samples
same_lost : {X : Type 0} (s : Settings) (stream lost : ℕ) (b : Board X) → kept s (with_lost s.limit stream lost b) ≡ kept_lost stream lost (kept s b)
same_lost s stream zero b = refl
same_lost {X = X} s stream (suc lost) b = same_place s stream None (with_lost s.limit stream lost b) ∙ ap (λ (k : Kept X). kept_place stream None k) (same_lost s stream lost b)

lost_source : {X : Type 0} (s : Settings) (stream lost : ℕ) (b : Board X) → source (with_lost s.limit stream lost b) ≡ source b ++ lost_give stream lost (kept s b)
lost_source s stream zero b = sym (append-nil (source b))
lost_source {X = X} s stream (suc lost) b =
    more_source s stream None (with_lost s.limit stream lost b)
    ∙ ap (λ (xs : List (Option X)). xs ++ place_gives stream None (kept s (with_lost s.limit stream lost b))) (lost_source s stream lost b)
    ∙ append_assoc (source b) (lost_give stream lost (kept s b)) (place_gives stream None (kept s (with_lost s.limit stream lost b)))
    ∙ ap (λ (k : Kept X). source b ++ (lost_give stream lost (kept s b) ++ place_gives stream None k)) (same_lost s stream lost b)

-- a frame that is taken
abbrev board_begun : {X : Type 0} → ℕ → ℕ → Board X → Board X
board_begun stream count b = record b { first = first_count b.first count; newest = set b.newest stream (Some count); strays = 0 }

due_begun : (rate done count : ℕ) (first : Option ℕ) → count < rate → (first ≡ None → done ≡ 0)
    → option_map (λ c. (c + done) % rate) (first_count first count) ≡ first_count (option_map (λ c. (c + done) % rate) first) count
due_begun rate done count None h none =
    let zero_done = none refl in
    ap Some (ap (λ n. n % rate) (let e : count + done ≡ count = omega (arith, zero_done) in e) ∙ mod-eq_of_lt h)
due_begun rate done count (Some c) h none = refl

same_begun : {X : Type 0} (s : Settings) (stream count : ℕ) (b : Board X) → count < s.rate → (b.first ≡ None → b.done ≡ 0) → kept s (board_begun stream count b) ≡ begun stream count (kept s b)
same_begun {X = X} s stream count b h none =
    let with_due : Option ℕ → Kept X = λ d. record { settings = s; due = d; queues = map (queue s.limit b.done) b.lines; newest = set b.newest stream (Some count); strays = 0 } in
    ap with_due (due_begun s.rate b.done count b.first h none)

same_frame : {X : Type 0} (s : Settings) (f : Frame X) (lost : ℕ) (b : Board X) → f.count < s.rate → (b.first ≡ None → b.done ≡ 0) → kept s (with_frame s f lost b) ≡ kept_frame f lost (kept s b)
same_frame {X = X} s f lost b h none =
    let begins = board_begun f.stream f.count b in
    same_place s f.stream (Some f.content) (with_lost s.limit f.stream lost begins)
    ∙ ap (λ (k : Kept X). kept_place f.stream (Some f.content) k) (same_lost s f.stream lost begins ∙ ap (λ (k : Kept X). kept_lost f.stream lost k) (same_begun s f.stream f.count b h none))

frame_source : {X : Type 0} (s : Settings) (f : Frame X) (lost : ℕ) (b : Board X) → f.count < s.rate → (b.first ≡ None → b.done ≡ 0) → source (with_frame s f lost b) ≡ source b ++ frame_gives f lost (kept s b)
frame_source {X = X} s f lost b h none =
    let begins = board_begun f.stream f.count b in
    let gone = with_lost s.limit f.stream lost begins in
    let x = Some f.content in
    more_source s f.stream x gone
    ∙ ap (λ (xs : List (Option X)). xs ++ place_gives f.stream x (kept s gone)) (lost_source s f.stream lost begins)
    ∙ append_assoc (source b) (lost_give f.stream lost (kept s begins)) (place_gives f.stream x (kept s gone))
    ∙ ap (λ (k : Kept X). source b ++ (lost_give f.stream lost (kept s begins) ++ place_gives f.stream x k)) (same_lost s f.stream lost begins)
    ∙ ap (λ (k : Kept X). source b ++ (lost_give f.stream lost k ++ place_gives f.stream x (kept_lost f.stream lost k))) (same_begun s f.stream f.count b h none)

-- what becomes of a frame
same_at : (s : Settings) (first : Option ℕ) (long done : ℕ) (is_newest : Bool) (strays count : ℕ)
    → arrival_at s first (max long done) is_newest strays count ≡ arrival_by s (option_map (λ c. (c + done) % s.rate) first) (long - done) is_newest strays count
same_at s None long done is_newest strays count = refl
same_at s (Some c) long done is_newest strays count =
    let sum : c + max long done ≡ c + done + (long - done) = omega arith in
    ap (λ d. cond (nat_lt count s.rate) (by_missing s is_newest strays (missing_from s.rate d count)) Invalid)
    (ap (λ n. n % s.rate) sum ∙ sym (mod-add-mod (c + done) s.rate (long - done)))

pub same_arrival : {X : Type 0} (s : Settings) (b : Board X) (f : Frame X) → arrival s b f ≡ arrival_of (kept s b) f.stream f.count
same_arrival {X = X} s b f =
    let empty : queue s.limit b.done [] ≡ buffer [] (s.limit + 1) = ap (λ (l : List (Option X)). buffer l (s.limit + 1)) (drop_none b.done) in
    let here : queue_at s.limit (map (queue s.limit b.done) b.lines) f.stream ≡ queue s.limit b.done (line_at b.lines f.stream) =
    ap (get_or (map (queue s.limit b.done) b.lines) f.stream) (sym empty) ∙ at_map (queue s.limit b.done) b.lines f.stream [] in
    let long : length (line_at b.lines f.stream) - b.done ≡ length (queue_at s.limit (map (queue s.limit b.done) b.lines) f.stream).items =
    sym (length-drop b.done (line_at b.lines f.stream)) ∙ ap (λ (q : Buffer (Option X)). length q.items) (sym here) in
    let is_newest = is_count (get_or b.newest f.stream None) f.count in
    same_at s b.first (length (line_at b.lines f.stream)) b.done is_newest b.strays f.count
    ∙ ap (λ n. arrival_by s (kept s b).due n is_newest b.strays f.count) long

invalid : (s : Settings) (first : Option ℕ) (place : ℕ) (is_newest : Bool) (strays count : ℕ) → nat_lt count s.rate ≡ false → arrival_at s first place is_newest strays count ≡ Invalid
invalid s None place is_newest strays count e = ap (λ v. cond v (Taken 0) Invalid) e
invalid s (Some c) place is_newest strays count e = ap (λ v. cond v (by_missing s is_newest strays (missing_from s.rate ((c + place) % s.rate) count)) Invalid) e

-- any frame
after_any : {X : Type 0} (s : Settings) (a : Arrival) (f : Frame X) (b : Board X) → f.count < s.rate → (b.first ≡ None → b.done ≡ 0)
    → (kept s (after_arrival s a f b) ≡ kept_after a f (kept s b)) × (source (after_arrival s a f b) ≡ source b ++ gives a f (kept s b))
after_any s (Taken lost) f b h none = (same_frame s f lost b h none, frame_source s f lost b h none)
after_any s (Restarted lost) f b h none = (same_frame s f lost b h none, frame_source s f lost b h none)
after_any s Repeated f b h none = (refl, sym (append-nil (source b)))
after_any s Late f b h none = (refl, sym (append-nil (source b)))
after_any s Astray f b h none = (refl, sym (append-nil (source b)))
after_any s Invalid f b h none = (refl, sym (append-nil (source b)))

abbrev After : {X : Type 0} → Settings → Frame X → Board X → Arrival → Type 0
After s f b a = (kept s (after_arrival s a f b) ≡ kept_after a f (kept s b)) × (source (after_arrival s a f b) ≡ source b ++ gives a f (kept s b))

after_by : {X : Type 0} (s : Settings) (f : Frame X) (b : Board X) (valid : Bool) → nat_lt f.count s.rate ≡ valid → (b.first ≡ None → b.done ≡ 0) → After s f b (arrival s b f)
after_by s f b true e none = after_any s (arrival s b f) f b (ltb-true f.count s.rate e) none
after_by s f b false e none =
    subst (After s f b) (sym (invalid s b.first (due b f.stream) (is_count (get_or b.newest f.stream None) f.count) b.strays f.count e)) (refl, sym (append-nil (source b)))

-- before the first frame that is taken nothing is complete
lost_first : {X : Type 0} (limit stream lost : ℕ) (b : Board X) → (with_lost limit stream lost b).first ≡ b.first
lost_first limit stream zero b = refl
lost_first limit stream (suc lost) b = lost_first limit stream lost b

begun_first : (first : Option ℕ) (count : ℕ) → first_count first count ≡ None → ⊥
begun_first None count e = cc
begun_first (Some c) count e = cc

frame_first : {X : Type 0} (s : Settings) (f : Frame X) (lost : ℕ) (b : Board X) → (with_frame s f lost b).first ≡ None → ⊥
frame_first s f lost b e = begun_first b.first f.count (sym (lost_first s.limit f.stream lost (board_begun f.stream f.count b)) ∙ e)

none_after : {X : Type 0} (s : Settings) (a : Arrival) (f : Frame X) (b : Board X) → (b.first ≡ None → b.done ≡ 0) → (after_arrival s a f b).first ≡ None → (after_arrival s a f b).done ≡ 0
none_after s (Taken lost) f b none e = absurd (frame_first s f lost b e)
none_after s (Restarted lost) f b none e = absurd (frame_first s f lost b e)
none_after s Repeated f b none e = none e
none_after s Late f b none e = none e
none_after s Astray f b none e = none e
none_after s Invalid f b none e = none e

none_done : {X : Type 0} (s : Settings) (streams : ℕ) (past : List (Frame X)) → (board s streams past).first ≡ None → (board s streams past).done ≡ 0
none_done s streams [] e = refl
none_done s streams (f ∷ past) e = none_after s (arrival s (board s streams past) f) f (board s streams past) (none_done s streams past) e

pub taken : {X : Type 0} (old : Kept X) (f : Frame X) (before : List (Option X)) (a : Arrival) (after : List (Option X)) (new : Kept X)
    → a ≡ arrival_of old f.stream f.count → after ≡ before ++ gives a f old → new ≡ kept_after a f old → IsTaken old f before a after new
taken {X = X} old f before a after new is gave keeps s streams past h =
    let b = board s streams past in
    let same : arrival s b f ≡ a = same_arrival s b f ∙ ap (λ (k : Kept X). arrival_of k f.stream f.count) h ∙ sym is in
    let more = after_by s f b _ refl (none_done s streams past) in
    let given : gives (arrival s b f) f (kept s b) ≡ gives a f old = ap (λ v. gives v f (kept s b)) same ∙ ap (λ (k : Kept X). gives a f k) h in (
      same,
      record { given = gives a f old; appended = gave; source_grew = more.1 ∙ ap (λ (xs : List (Option X)). source b ++ xs) given },
      more.0 ∙ ap (λ v. kept_after v f (kept s b)) same ∙ ap (λ (k : Kept X). kept_after a f k) h ∙ sym keeps,
    )

-- one lost sample more
pub lost_more : {X : Type 0} (stream lost : ℕ) (old now next : Kept X) → now ≡ kept_lost stream lost old → next ≡ kept_place stream None now → next ≡ kept_lost stream (lost + 1) old
lost_more {X = X} stream lost old now next so step =
    let e : suc lost ≡ lost + 1 = omega arith in
    step ∙ ap (λ (k : Kept X). kept_place stream None k) so ∙ ap (λ n. kept_lost stream n old) e

pub given_more : {X : Type 0} (stream lost : ℕ) (old now : Kept X) (before scans after : List (Option X)) → now ≡ kept_lost stream lost old → scans ≡ before ++ lost_give stream lost old → after ≡ scans ++ place_gives stream None now
    → after ≡ before ++ lost_give stream (lost + 1) old
given_more {X = X} stream lost old now before scans after so stand step =
    let e : suc lost ≡ lost + 1 = omega arith in
    step
    ∙ ap (λ (us : List (Option X)). us ++ place_gives stream None now) stand
    ∙ append_assoc before (lost_give stream lost old) (place_gives stream None now)
    ∙ ap (λ (k : Kept X). before ++ (lost_give stream lost old ++ place_gives stream None k)) so
    ∙ ap (λ n. before ++ lost_give stream n old) e
