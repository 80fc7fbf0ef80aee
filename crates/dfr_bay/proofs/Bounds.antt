-- No queue grows beyond its room.
use Rattle.std.proofs.Common.{◌≡◌, refl, ℕ, ◌+◌, ◌-◌, ◌<◌, ◌≤◌, Bool, true, false, cond, ◌||◌, List, [], ◌∷◌, ◌++◌, length, map, drop, set, Option, ◌∙◌, sym, ap, arith}
use Rattle.std.specs.Prelude.{nat_lt, IfSome}
use Rattle.std.specs.List.{All}
use Rattle.std.proofs.lemmas.List.{length-append, length-drop, length-map, length-set}
use Rattle.std.proofs.lemmas.List.Elements.{All-nil, All-cons, All-head, All-tail, All-set, All-weaker, All-map, All-get_or, All-same}
use borrow.Author.Tests.{ltb-false}
use Rattle.circular_buffer.specs.Buffer.{Buffer, buffer}
use Rattle.dfr_bay.specs.declared.settings.Settings.{Settings}
use Rattle.dfr_bay.specs.Waiting.{IsBay, Waits, pushed, popped, queue_at, all_wait, one_waits_long, is_ready, entered}

-- one more than the limit
pub record WaitsMore {X : Type 0} (limit : ℕ) (q : Buffer (Option X)) : Type 0 where
  pub few : length q.items ≤ limit + 1
  pub room : q.capacity ≡ limit + 1

weaker : {X : Type 0} (limit : ℕ) (q : Buffer (Option X)) → Waits limit q → WaitsMore limit q
weaker limit q w = record { few = omega (arith, w.few); room = w.room }

pushed_more : {X : Type 0} (limit : ℕ) (x : Option X) (q : Buffer (Option X)) → Waits limit q → WaitsMore limit (pushed x q)
pushed_more limit x q w = record { few = (let long = length-append q.items (x ∷ []) in omega (arith, long, w.few)); room = w.room }

popped_waits : {X : Type 0} (limit : ℕ) (q : Buffer (Option X)) → WaitsMore limit q → Waits limit (popped q)
popped_waits limit q w = record { few = (let long = length-drop 1 q.items in omega (arith, long, w.few)); room = w.room }

pub entered_more : {X : Type 0} (limit stream : ℕ) (x : Option X) (queues : List (Buffer (Option X))) → stream < length queues → All (Waits limit) queues → All (WaitsMore limit) (entered limit stream x queues)
entered_more limit stream x queues inside waits =
    All-set (WaitsMore limit) queues stream (pushed x (queue_at limit queues stream))
    (pushed_more limit x (queue_at limit queues stream) (All-get_or (Waits limit) queues stream (buffer [] (limit + 1)) inside waits))
    (All-weaker (Waits limit) (WaitsMore limit) (weaker limit) queues waits)

left_false : (a b : Bool) → a || b ≡ false → a ≡ false
left_false true b e = cc
left_false false b e = refl

right_false : (a b : Bool) → a || b ≡ false → b ≡ false
right_false true b e = cc
right_false false b e = e

none_long : {X : Type 0} (limit : ℕ) (queues : List (Buffer (Option X))) → one_waits_long limit queues ≡ false → All (WaitsMore limit) queues → All (Waits limit) queues
none_long limit [] e waits = All-nil (Waits limit)
none_long limit (q ∷ queues) e waits =
    let here = All-head (WaitsMore limit) q queues waits in
    let short = ltb-false limit (length q.items) (left_false _ _ e) in
    All-cons (Waits limit) q queues (record { few = short; room = here.room }) (none_long limit queues (right_false _ _ e) (All-tail (WaitsMore limit) q queues waits))

pub after_ready : {X : Type 0} (limit : ℕ) (queues : List (Buffer (Option X))) → All (WaitsMore limit) queues → All (Waits limit) (map popped queues)
after_ready limit queues waits = All-map (Waits limit) popped queues (All-weaker (WaitsMore limit) (λ q. Waits limit (popped q)) (popped_waits limit) queues waits)

pub after_not_ready : {X : Type 0} (limit : ℕ) (queues : List (Buffer (Option X))) → is_ready limit queues ≡ false → All (WaitsMore limit) queues → All (Waits limit) queues
after_not_ready limit queues e waits = none_long limit queues (right_false (all_wait queues) (one_waits_long limit queues) e) waits

entered_long : {X : Type 0} (limit stream : ℕ) (x : Option X) (queues : List (Buffer (Option X))) → length (entered limit stream x queues) ≡ length queues
entered_long limit stream x queues = length-set queues stream (pushed x (queue_at limit queues stream))

-- a bay after a scan, and after a place more of a scan that is not complete
pub sound_ready : {X : Type 0} (s : Settings) (due next : Option ℕ) (queues left : List (Buffer (Option X))) (newest : List (Option ℕ)) (stream : ℕ) (x : Option X)
    → IsBay s due queues newest → stream < length queues → IfSome next (λ d. d < s.rate) → left ≡ map popped (entered s.limit stream x queues) → IsBay s next left newest
sound_ready s due next queues left newest stream x sound inside below is =
    let long : length left ≡ length queues = ap length is ∙ length-map (entered s.limit stream x queues) popped ∙ entered_long s.limit stream x queues in
    record {
      fits = sound.fits;
      below = below;
      waits = All-same (Waits s.limit) left (map popped (entered s.limit stream x queues)) is (after_ready s.limit (entered s.limit stream x queues) (entered_more s.limit stream x queues inside sound.waits));
      same = sound.same ∙ sym long;
      few = omega (arith, long, sound.few);
    }

pub sound_waiting : {X : Type 0} (s : Settings) (due : Option ℕ) (queues left : List (Buffer (Option X))) (newest : List (Option ℕ)) (stream : ℕ) (x : Option X)
    → IsBay s due queues newest → stream < length queues → left ≡ entered s.limit stream x queues → is_ready s.limit left ≡ false → IsBay s due left newest
sound_waiting s due queues left newest stream x sound inside is waiting =
    let long : length left ≡ length queues = ap length is ∙ entered_long s.limit stream x queues in
    let more = All-same (WaitsMore s.limit) left (entered s.limit stream x queues) is (entered_more s.limit stream x queues inside sound.waits) in
    record {
      fits = sound.fits;
      below = sound.below;
      waits = after_not_ready s.limit left waiting more;
      same = sound.same ∙ sym long;
      few = omega (arith, long, sound.few);
    }
