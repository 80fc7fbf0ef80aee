-- The blocks one after the other, and the contacts.
use Rattle.std.proofs.Common.{◌≡◌, ◌∙◌, sym, ap, refl, ℕ, suc, ◌+◌, ◌<◌, ◌≤◌, List, [], ◌∷◌, ◌++◌, length, map, take, drop, set, get_or, Option, Some, None, append_assoc, append-nil, arith}
use Rattle.std.specs.Prelude.{slice_get, slice_set}
use Rattle.std.proofs.lemmas.List.{map-append, length-map, length-take-le, take_more, drop_more, drop_all, get_or_at, set_at}
use Rattle.std.proofs.lemmas.Option.{slice_get-get_or}
use Rattle.dfr_bus.specs.declared.span.Span.{Span}
use Rattle.dfr_bus.specs.declared.goose.Goose.{Goose}
use Rattle.dfr_capture.specs.declared.listened.Listened.{Listened}
use Rattle.dfr_capture.specs.declared.contact.Held.{Held}
use Rattle.dfr_capture.specs.declared.feed.Event.{Event}
use Rattle.dfr_capture.specs.Contacts.{no_state, no_states}
use Rattle.dfr_capture.specs.Listening.{Listening, listening_of, passed_block, passed_held, over_by, over_events, passed, passed_events, turn_events, state_events, heard_at, held_after, message_by, message_events_by}

-- one contact more becomes another
pub map_more : (f : Held → Held) (old new : List Held) (i : ℕ) (d r : Held) → i < length old → new ≡ map f (take i old) ++ drop i old → r ≡ f (get_or new i d)
    → set new i r ≡ map f (take (i + 1) old) ++ drop (i + 1) old
map_more f old new i d r lt is becomes =
    let front = map f (take i old) in
    let y = get_or old i d in
    let rest = drop (i + 1) old in
    let long : length front ≡ i = length-map (take i old) f ∙ length-take-le i old (omega arith) in
    let opened : new ≡ front ++ (y ∷ rest) = is ∙ ap (λ (us : List Held). front ++ us) (drop_more old i d lt) in
    let same : get_or new i d ≡ y = ap (λ (us : List Held). get_or us i d) opened ∙ get_or_at front y rest d i long in
    ap (λ (us : List Held). set us i r) opened
    ∙ set_at front y rest r i long
    ∙ ap (λ (h : Held). front ++ h ∷ rest) (becomes ∙ ap f same)
    ∙ sym (append_assoc front (f y ∷ []) rest)
    ∙ ap (λ (us : List Held). us ++ rest) (sym (map-append f (take i old) (y ∷ [])))
    ∙ ap (λ (us : List Held). map f us ++ rest) (sym (take_more old i d lt))

pub state_more : (bytes : List ℕ) (content : Span) (block : ℕ) (held : List Held) (i : ℕ) (d : Held) (before after : List Event) → i < length held
    → after ≡ before ++ no_state bytes content block i (get_or held i d)
    → after ++ no_states bytes content block (i + 1) (drop (i + 1) held) ≡ before ++ no_states bytes content block i (drop i held)
unfolding no_states
state_more bytes content block held i d before after lt put = rw (put, drop_more held i d lt) (simp append_assoc)

pub state_end : (bytes : List ℕ) (content : Span) (block : ℕ) (held : List Held) (i : ℕ) (out : List Event) → length held ≤ i
    → out ++ no_states bytes content block i (drop i held) ≡ out
unfolding no_states
state_end bytes content block held i out le = rw (drop_all i held le, append-nil) refl

-- one block by a time
pub over_is : (blocks more : List Listened) (held after : List Held) (time n : ℕ) (d : Listened) → n < length blocks
    → more ≡ slice_set blocks n (passed_block time (get_or blocks n d)) → after ≡ passed_held time n (get_or blocks n d) held
    → listening_of more after ≡ over_by time n (slice_get blocks n) (listening_of blocks held)
over_is blocks more held after time n d lt b h = rw (slice_get-get_or blocks n d lt, b, h) refl

pub over_told : (blocks : List Listened) (before after : List Event) (time n : ℕ) (d : Listened) → n < length blocks
    → after ≡ before ++ over_events time n (Some (get_or blocks n d)) → after ≡ before ++ over_events time n (slice_get blocks n)
over_told blocks before after time n d lt e = e ∙ ap (λ (l : Option Listened). before ++ over_events time n l) (sym (slice_get-get_or blocks n d lt))

pub passed_none : (time : ℕ) (s : Listening) → passed time 0 s ≡ s
unfolding passed
passed_none time s = refl

pub passed_more : (time n : ℕ) (s now next : Listening) → now ≡ passed time n s → next ≡ over_by time n (slice_get now.blocks n) now → next ≡ passed time (n + 1) s
unfolding passed
passed_more time n s now next so step =
    let k : n + 1 ≡ suc n = omega arith in
    rw k (step ∙ ap (λ (t : Listening). over_by time n (slice_get t.blocks n) t) so)

pub told_none : (time : ℕ) (s : Listening) (before : List Event) → before ≡ before ++ passed_events time 0 s
unfolding passed_events
told_none time s before = sym (append-nil before)

pub told_more : (time n : ℕ) (s now : Listening) (before events next : List Event) → now ≡ passed time n s → events ≡ before ++ passed_events time n s
    → next ≡ events ++ over_events time n (slice_get now.blocks n) → next ≡ before ++ passed_events time (n + 1) s
unfolding passed_events
told_more time n s now before events next so told step =
    let k : n + 1 ≡ suc n = omega arith in
    rw k
    (step
    ∙ ap (λ (e : List Event). e ++ over_events time n (slice_get now.blocks n)) told
    ∙ append_assoc before (passed_events time n s) (over_events time n (slice_get now.blocks n))
    ∙ ap (λ (t : Listening). before ++ (passed_events time n s ++ over_events time n (slice_get t.blocks n))) so)

-- a message of one block
pub message_is : (bytes : List ℕ) (time : ℕ) (g : Goose) (blocks more : List Listened) (held after : List Held) (n : ℕ) (d new : Listened) → n < length blocks
    → more ≡ slice_set blocks n new → new ≡ record (get_or blocks n d) { heard = Some (heard_at time g) }
    → after ≡ held_after bytes g n (get_or blocks n d) held
    → listening_of more after ≡ message_by bytes time g n (slice_get blocks n) (listening_of blocks held)
message_is bytes time g blocks more held after n d new lt b is h = rw (slice_get-get_or blocks n d lt, b, is, h) refl

pub message_told : (bytes : List ℕ) (g : Goose) (blocks : List Listened) (held : List Held) (n : ℕ) (d : Listened) (before mid after : List Event) → n < length blocks
    → mid ≡ before ++ turn_events n (get_or blocks n d).heard g → after ≡ mid ++ state_events bytes g n held
    → after ≡ before ++ message_events_by bytes g n (slice_get blocks n) (listening_of blocks held)
message_told bytes g blocks held n d before mid after lt t e =
    rw (slice_get-get_or blocks n d lt)
    (e ∙ ap (λ (m : List Event). m ++ state_events bytes g n held) t ∙ append_assoc before (turn_events n (get_or blocks n d).heard g) (state_events bytes g n held))
