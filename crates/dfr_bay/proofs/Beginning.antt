-- A bay of which no frame came.
use Rattle.std.proofs.Common.{◌≡◌, ◌∙◌, sym, ap, refl, ℕ, zero, suc, ◌+◌, ◌≤◌, Bool, true, false, cond, leb, ◌&&◌, List, [], ◌∷◌, ◌++◌, length, map, Option, Some, None, arith}
use Rattle.std.specs.Prelude.{replicate, nat_lt}
use Rattle.std.specs.List.{All}
use Rattle.std.proofs.lemmas.List.{length-replicate, replicate_more}
use Rattle.std.proofs.lemmas.List.Elements.{All-same, All-replicate}
use Rattle.std.proofs.lemmas.Bool.{and_parts, leb-true}
use borrow.Author.Tests.{ltb-true}
use Rattle.circular_buffer.specs.Buffer.{Buffer, buffer}
use Rattle.dfr_bay.specs.declared.settings.Settings.{Settings}
use Rattle.dfr_bay.specs.declared.settings.SettingsFault.TheVariants.{Rate, Late, Limit, Reach, Confirm}
use Rattle.dfr_bay.specs.Settings.{settings_fault, Fits}
use Rattle.dfr_bay.specs.Lines.{blank}
use Rattle.dfr_bay.specs.Waiting.{Kept, kept, queue, Waits, IsBay}

passed : {F : Type 0} (test : Bool) (rest : Option F) (fault : F) → cond test rest (Some fault) ≡ None → (test ≡ true) × (rest ≡ None)
passed true rest fault h = (refl, h)
passed false rest fault h = absurd cc

settings_fit : (s : Settings) → settings_fault s ≡ None → Fits s
settings_fit s h =
    let rate = passed (leb 2 s.rate && leb s.rate 65_536) _ Rate h in
    let late = passed (leb 1 s.late && nat_lt s.late s.rate) _ Late rate.1 in
    let limit = passed (leb 1 s.limit && leb s.limit 65_536) _ Limit late.1 in
    let reach = passed (leb s.limit s.reach) _ Reach limit.1 in
    let confirm = passed (leb 1 s.confirm) _ Confirm reach.1 in
    record {
      some = leb-true 2 s.rate (and_parts _ _ rate.0).0;
      few = leb-true s.rate 65_536 (and_parts _ _ rate.0).1;
      repeated = leb-true 1 s.late (and_parts _ _ late.0).0;
      timely = ltb-true s.late s.rate (and_parts _ _ late.0).1;
      waits = leb-true 1 s.limit (and_parts _ _ limit.0).0;
      short = leb-true s.limit 65_536 (and_parts _ _ limit.0).1;
      reaches = leb-true s.limit s.reach reach.0;
      confirmed = leb-true 1 s.confirm confirm.0;
    }

map_replicate : {X Y : Type 0} (f : X → Y) (n : ℕ) (x : X) → map f (replicate n x) ≡ replicate n (f x)
map_replicate f zero x = refl
map_replicate {Y = Y} f (suc n) x = ap (λ (ys : List Y). f x ∷ ys) (map_replicate f n x)

empty_waits : {X : Type 0} (limit : ℕ) → Waits {X = X} limit (buffer [] (limit + 1))
empty_waits limit = record { few = omega arith; room = refl }

pub sound_new : {X : Type 0} (s : Settings) (streams : ℕ) (queues : List (Buffer (Option X))) (newest : List (Option ℕ))
    → settings_fault s ≡ None → streams ≤ 256 → queues ≡ replicate streams (buffer [] (s.limit + 1)) → newest ≡ replicate streams None → IsBay s None queues newest
sound_new {X = X} s streams queues newest fine few is_queues is_newest =
    let empty : Buffer (Option X) = buffer [] (s.limit + 1) in
    let none : Option ℕ = None in
    let long : length queues ≡ streams = ap length is_queues ∙ length-replicate streams empty in
    let as_long : length newest ≡ streams = ap length is_newest ∙ length-replicate streams none in
    record {
      fits = settings_fit s fine;
      below = tt;
      waits = All-same (Waits s.limit) queues (replicate streams empty) is_queues (All-replicate (Waits s.limit) streams empty (empty_waits s.limit));
      same = as_long ∙ sym long;
      few = omega (arith, long, few);
    }

pub kept_new : {X : Type 0} (s : Settings) (streams : ℕ) (queues : List (Buffer (Option X))) (newest : List (Option ℕ))
    → queues ≡ replicate streams (buffer [] (s.limit + 1)) → newest ≡ replicate streams None
    → (let made : Kept X = record { settings = s; due = None; queues = queues; newest = newest; strays = 0 } in made ≡ kept s (blank streams))
kept_new {X = X} s streams queues newest is_queues is_newest =
    let by : List (Buffer (Option X)) → List (Option ℕ) → Kept X = λ qs ns. record { settings = s; due = None; queues = qs; newest = ns; strays = 0 } in
    ap (λ (qs : List (Buffer (Option X))). by qs newest) (is_queues ∙ sym (map_replicate (queue s.limit 0) streams [])) ∙ ap (by (map (queue s.limit 0) (replicate streams []))) is_newest

-- one item more of a list of like items
pub one_more : {X : Type 0} (n : ℕ) (y x : X) (xs ys : List X) → xs ≡ replicate n y → x ≡ y → ys ≡ xs ++ x ∷ [] → ys ≡ replicate (n + 1) y
one_more {X = X} n y x xs ys so same push =
    push ∙ ap (λ (us : List X). us ++ x ∷ []) so ∙ ap (λ (v : X). replicate n y ++ v ∷ []) same ∙ replicate_more n y
