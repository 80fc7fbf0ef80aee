-- Orders at their places, and records handed on, one after the other.
use Rattle.std.proofs.Common.{◌≡◌, ◌⊎◌, inl, inr, ℕ, ◌≤◌, true≢false, Bool, true, false, Option, Some, None, Result, Ok, Err, List, [], ◌∷◌, ◌++◌, map, refl, sym, ◌∙◌, ap, subst, arith, append_assoc}
use Rattle.std.specs.Prelude.{min, max, All, IfOk, IfErr, IfSome, IsErrAnd}
use Rattle.std.proofs.lemmas.List.{map-append, append-nil}
use Rattle.std.proofs.lemmas.List.Elements.{All-append, All-cons, All-nil}
use Rattle.comtrade_values.specs.declared.memory.Memory.{Memory as Want}
use Rattle.dfr_channels.specs.Parts.{SetupParts}
use Rattle.dfr_recorder.specs.Parts.{RecordParts}
use Rattle.dfr_recorder.specs.declared.record.Extent.{Extent}
use Rattle.dfr_live.specs.declared.devices.Short.{Short}
use Rattle.dfr_live.specs.declared.devices.Short.TheVariants as short
use Rattle.dfr_recorder.specs.History.{Opening}
use Rattle.comtrade_format.specs.declared.file.Kind.{Kind}
use Rattle.dfr_live.specs.declared.entry.Reply.{Reply}
use Rattle.dfr_live.specs.declared.outcome.OpenFault.{OpenFault}
use Rattle.dfr_live.specs.declared.report.LiveFault.{LiveFault}
use Rattle.dfr_live.specs.declared.report.LiveFault.TheVariants as fault
use Rattle.dfr_live.specs.declared.station.Order.{Order}
use Rattle.dfr_live.specs.declared.export.Taken.{Taken}
use Rattle.dfr_live.specs.declared.export.Taken.TheVariants as taken
use Rattle.dfr_live.specs.declared.entry.Reply.TheVariants as replied
use Rattle.dfr_live.specs.Parts.{CallParts, EntryParts}
use Rattle.dfr_live.specs.Parts as call
use Rattle.dfr_live.specs.Weave.{extent_of}
use Rattle.dfr_live.specs.Seen.{TokenParts}
use Rattle.dfr_live.specs.Calls.{with_entry, NotesTake}
use Rattle.dfr_live.specs.Station.{PumpsOn, PumpsOut}
use Rattle.dfr_live.specs.Devices.{GivesOf, LosesOf, AsksOf, HearsOf, PutsOf, LacksOf, Came, Noted, noted, noted_of, call_in, Turn, Waits, Makes, Desked, new_desk, TookTurn, AsksDone, MadeAll, IsMade, Waited, MadeOne, Handed, extents_taken, extent_taken, extents_of, IsTaken, HandedOn, HandsTaken, records_of, Got, GotAll, GotNoMore, GotFront, GotOne, GotNone, GotOn, SinkFailed, IsTake, is_again, FilesParts, files_of, PutsOnce, Tried, HandsRecord}
use Rattle.dfr_live.specs.Causes.{PutFails, ExportFails, AcquisitionFails, TriggerFails, RunFails, HasCause, HasTokens, IsEnd}
use Rattle.dfr_live.specs.Gone.{Follows}

-- a token that pumped on keeps its seat
pub seat_kept : (x : Bool) (t u : TokenParts) → PumpsOut x t u → u.seat ≡ t.seat
seat_kept true t u q = ap (λ (z : TokenParts). z.seat) q
seat_kept false t u q = ap (λ (z : TokenParts). z.seat) q.0

pub seat_on : (p : ℕ) (x y : Bool) (t u : TokenParts) → PumpsOn p x t y u → u.seat ≡ t.seat
seat_on p true y t u q = ap (λ (z : TokenParts). z.seat) q.1
seat_on p false true t u q = ap (λ (z : TokenParts). z.seat) q.0
seat_on p false false t u q = ap (λ (z : TokenParts). z.seat) q

-- ---- the orders of a desk

module _ {A O : Type 0} (Asks : AsksOf A O) (Hears : HearsOf O) where
  -- a desk with what its token made
  abbrev pub desked : O → TokenParts → Desked O
  desked g t = record { desk = g; pumped = t.pumped; notes = map noted t.made }

  -- so far: however many steps the run makes in the end, if no scan comes any more they are those made now
  abbrev pub MadeSoFar : O → O → Bool → TokenParts → Type 0
  MadeSoFar f g x t =
      (steps : ℕ) → t.pumped ≤ steps → (x ≡ true → steps ≡ t.pumped)
      → (turns : List (Turn A)) × Came (TookTurn Asks Hears steps) (new_desk f) turns (desked g t)

  -- what an order that was made adds to the notes
  notes-more : (o : Order A) (t u v : TokenParts) (reply : Option Reply)
      → u.made ≡ t.made → IsMade o u reply v → (v.pumped ≡ u.pumped) × (map noted v.made ≡ map noted t.made ++ noted_of u.pumped o reply)
  notes-more o t u v (Some reply) same (e, is, at, call, answer) =
      let here : noted e ≡ (u.pumped, call_in o, reply) = rw (at, call, answer) refl in (
        ap (λ (z : TokenParts). z.pumped) is,
        ap (λ (z : TokenParts). map noted z.made) is
            ∙ map-append noted u.made (e ∷ [])
            ∙ ap (λ (l : List EntryParts). map noted l ++ noted e ∷ []) same
            ∙ ap (λ (n : Noted). map noted t.made ++ n ∷ []) here,
      )
  notes-more o t u v None same is = (
    ap (λ (z : TokenParts). z.pumped) is,
    ap (λ (z : TokenParts). map noted z.made) is ∙ ap (map noted) same ∙ sym (append-nil (map noted t.made)),
  )

  pub made_more : (f g h : O) (x y : Bool) (t v : TokenParts)
      → MadeSoFar f g x t → MadeOne Asks Hears g x t h y v → MadeSoFar f h y v
  made_more f g h true y t v far (standing, place, o, reply, m, u, same, asked, pumps, is, hears) =
      let made = notes-more o t u v reply (ap (λ (z : TokenParts). z.made) pumps.1) is in
      let still : u.pumped ≡ t.pumped = ap (λ (z : TokenParts). z.pumped) pumps.1 in
      λ steps le last.
      let all : steps ≡ v.pumped = last pumps.0 in
      let before = far steps (omega (arith, all, made.0, still)) (λ on. omega (arith, all, made.0, still)) in (
        Makes standing place o reply ∷ before.0,
        (desked g t, before.1, (m, same, asked, rw made.0 hears, omega (arith, all, made.0, still), rw made.0 made.1)),
      )
  made_more f g h false true t v far (standing, place, o, reply, m, u, same, asked, pumps, is, hears) =
      let made = notes-more o t u v reply (ap (λ (z : TokenParts). z.made) pumps.0) is in
      let least : t.pumped ≤ u.pumped = pumps.1 in
      let most : u.pumped ≤ max t.pumped place = pumps.2 in
      λ steps le last.
      let all : steps ≡ v.pumped = last refl in
      let before = far steps (omega (arith, all, made.0, least)) (λ no. absurd (true≢false (sym no))) in (
        Makes standing place o reply ∷ before.0,
        (desked g t, before.1, (m, same, asked, rw made.0 hears, omega (arith, all, made.0, most), rw made.0 made.1)),
      )
  made_more f g h false false t v far (standing, place, o, reply, m, u, same, asked, pumps, is, hears) =
      let made = notes-more o t u v reply (ap (λ (z : TokenParts). z.made) pumps) is in
      let there : u.pumped ≡ max t.pumped place = ap (λ (z : TokenParts). z.pumped) pumps in
      λ steps le last.
      let before = far steps (omega (arith, le, made.0, there)) (λ no. absurd (true≢false (sym no))) in (
        Makes standing place o reply ∷ before.0,
        (desked g t, before.1, (m, same, asked, rw made.0 hears, omega (arith, le, made.0, there), rw made.0 made.1)),
      )

  pub made_waited : (f g h : O) (x : Bool) (t u : TokenParts)
      → MadeSoFar f g x t → Waited Asks g t h u → (x ≡ true → u ≡ t) → MadeSoFar f h x u
  made_waited f g h x t u far (standing, free, same, asked, on, least, most) still =
      λ steps le last.
      let before = far steps (omega (arith, le, least)) (λ (all : x ≡ true). last all ∙ ap (λ (z : TokenParts). z.pumped) (still all)) in (
        Waits standing free ∷ before.0,
        (desked g t, before.1, (same, asked, least, most, ap (λ (z : TokenParts). map noted z.made) on)),
      )

  pub made_last : (f g h : O) (x : Bool) (t v : TokenParts)
      → MadeSoFar f g x t → AsksDone Asks g h → PumpsOut x t v → MadeAll Asks Hears f v.made v.pumped h
  made_last f g h true t v far done out =
      let pumped : v.pumped ≡ t.pumped = ap (λ (z : TokenParts). z.pumped) out in
      let all = far v.pumped (omega (arith, pumped)) (λ on. pumped) in
      record { turns = all.0; last = desked g t; came = all.1; done = done; notes = ap (λ (z : TokenParts). map noted z.made) out }
  made_last f g h false t v far done out =
      let all = far v.pumped out.1 (λ no. absurd (true≢false (sym no))) in
      record { turns = all.0; last = desked g t; came = all.1; done = done; notes = ap (λ (z : TokenParts). map noted z.made) out.0 }

  pub made_end : (f g h : O) (x y : Bool) (t u v : TokenParts)
      → MadeSoFar f g x t → AsksDone Asks g h → y ≡ x → u ≡ t → PumpsOut y u v → MadeAll Asks Hears f v.made v.pumped h
  made_end f g h x y t u v far done same token out =
      made_last f g h x t v far done
      (subst (λ (b : Bool). PumpsOut b t v) same (subst (λ (z : TokenParts). PumpsOut y z v) token out))

  pub seat_made : (g h : O) (x y : Bool) (t v : TokenParts) → MadeOne Asks Hears g x t h y v → v.seat ≡ t.seat
  seat_made g h x y t v (standing, place, o, Some reply, m, u, same, asked, pumps, is, hears) =
      ap (λ (z : TokenParts). z.seat) is.1 ∙ seat_on place x y t u pumps
  seat_made g h x y t v (standing, place, o, None, m, u, same, asked, pumps, is, hears) =
      ap (λ (z : TokenParts). z.seat) is ∙ seat_on place x y t u pumps

-- the entry of a take
abbrev pub entry : TokenParts → ℕ → Option RecordParts → EntryParts
entry t at r = record { caller = t.seat; at = at; call = call.Take; reply = replied.Take (extent_of r) }

abbrev nothing-in : Result Taken LiveFault → Bool
nothing-in (Ok taken.One) = false
nothing-in (Ok taken.Nothing) = true
nothing-in (Ok taken.Again) = false
nothing-in (Ok taken.Stopped) = false
nothing-in (Err why) = false

abbrev Asked : Type 0
Asked = Result Taken LiveFault

err-is-none : (why : LiveFault) → (came : Asked) → came ≡ Err why → came ≡ Ok taken.Nothing → ⊥
err-is-none why came e h = true≢false (sym (ap nothing-in h) ∙ ap nothing-in e)

one-is-some : (c : Taken) (came : Asked) → came ≡ Ok c → c ≡ taken.One → came ≡ Ok taken.Nothing → ⊥
one-is-some c came e is h = true≢false (sym (ap nothing-in h) ∙ ap nothing-in e ∙ ap (λ (x : Taken). nothing-in (Ok x)) is)

again-is-none : (c : Taken) (came : Asked) → came ≡ Ok c → is_again c ≡ true → came ≡ Ok taken.Nothing → ⊥
again-is-none taken.One came e a h = true≢false (sym a)
again-is-none taken.Nothing came e a h = true≢false (sym a)
again-is-none taken.Again came e a h = true≢false (sym (ap nothing-in h) ∙ ap nothing-in e)
again-is-none taken.Stopped came e a h = true≢false (sym (ap nothing-in h) ∙ ap nothing-in e)

abbrev is-memory : LiveFault → Bool
is-memory (fault.Feed code) = false
is-memory (fault.Sink code) = false
is-memory fault.Turns = false
is-memory fault.Counter = false
is-memory fault.Memory = true
is-memory (fault.Open why) = false
is-memory (fault.End why) = false

not-memory : (why : LiveFault) → why ≡ fault.Memory → is-memory why ≡ false → ⊥
not-memory why h other = true≢false (sym (ap is-memory h) ∙ other)

-- ---- records handed on

-- the extents of one more entry stand last
pub extents-more : (es : List EntryParts) (e : EntryParts) → extents_taken (es ++ e ∷ []) ≡ extents_taken es ++ extent_taken e.reply
extents-more [] e = append-nil (extent_taken e.reply)
extents-more (x ∷ es) e =
    ap (λ l. extent_taken x.reply ++ l) (extents-more es e)
    ∙ sym (append_assoc (extent_taken x.reply) (extents_taken es) (extent_taken e.reply))

-- one more take
takes-more : (t u : TokenParts) (e : EntryParts) → u ≡ with_entry t e → IsTake e → All IsTake t.made → All IsTake u.made
takes-more t u e is one all =
    subst (λ (z : TokenParts). All IsTake z.made) (sym is) (All-append IsTake t.made (e ∷ []) all (All-cons IsTake e [] one (All-nil IsTake)))

-- the files of a record that was tried so often
module _ {K : Type 0} (Puts : PutsOf K) (Lacks : LacksOf K) (layout : SetupParts) (kind : Kind) where
  pub tried_more : (f m g : K) (here e : Extent) (what : Short) (tries : List (Unit {0}))
      → Tried Lacks e f tries m → Lacks m here what g → here ≡ e → what ≡ short.Again → (more : List (Unit {0})) × Tried Lacks e f more g
  tried_more f m g here e what tries far lacks same again = (tt ∷ tries, (m, far, rw (sym same, sym again) lacks))

  pub tried_put : (f m g : K) (r : RecordParts) (tries : List (Unit {0})) (files : FilesParts) (came : Result (Unit {0}) LiveFault)
      → Tried Lacks r.extent f tries m → PutsOnce Puts m files came g → files ≡ files_of layout kind r
      → HandsRecord Puts Lacks layout kind f r came g
  tried_put f m g r tries files (Ok done) far put same = (true, (tries, m, far, rw (sym same) put))
  tried_put f m g r tries files (Err (fault.Sink code)) far put same = (tries, m, far, rw (sym same) put)
  tried_put f m g r tries files (Err (fault.Feed code)) far put same = absurd put
  tried_put f m g r tries files (Err fault.Turns) far put same = absurd put
  tried_put f m g r tries files (Err fault.Counter) far put same = absurd put
  tried_put f m g r tries files (Err fault.Memory) far put same = absurd put
  tried_put f m g r tries files (Err (fault.Open why)) far put same = absurd put
  tried_put f m g r tries files (Err (fault.End why)) far put same = absurd put

-- no call is a take
pub no_takes : (made : List EntryParts) → made ≡ [] → All IsTake made
no_takes made none = subst (λ (es : List EntryParts). All IsTake es) (sym none) (All-nil IsTake)

-- the records that came out
abbrev pub Out : Type 0
Out = Option (List RecordParts)

follows-none : (v w : Out) → Follows v (Ok None) w → w ≡ v
follows-none None w h = h
follows-none (Some out) w h = h ∙ ap (λ (l : List RecordParts). Some l) (append-nil out)

follows-still : (v w : Out) (refused : Want) → Follows v (Err refused) w → w ≡ v
follows-still None w refused h = h
follows-still (Some out) w refused h = h

module _ {K : Type 0} (Puts : PutsOf K) (Lacks : LacksOf K) (o : Opening) (kind : Kind) where
  abbrev Fit : Handed → Type 0
  Fit x = IsTaken o x.0

  pub got_first : (f : K) (t : TokenParts) (x : Out) → t.made ≡ [] → x ≡ Some [] → GotAll Puts Lacks o kind f t.made x f
  got_first f t x none empty = ([], (All-nil Fit, refl), sym (ap extents_taken none), empty)

  got-more : (f g h : K) (t u : TokenParts) (v w : Out)
      → GotAll Puts Lacks o kind f t.made v g → (one : GotOne Puts Lacks o kind g t h u) → Follows v (Ok (Some one.0.0)) w
      → GotAll Puts Lacks o kind f u.made w h
  got-more f g h t u v w far one follows =
      let x : Handed = one.0 in
      let e : EntryParts = one.1 in
      let extents : extents_taken u.made ≡ extents_taken t.made ++ x.0.extent ∷ [] =
      ap (λ (z : TokenParts). extents_taken z.made) one.4 ∙ extents-more t.made e ∙ ap (λ l. extents_taken t.made ++ l) one.6 in (
        x ∷ far.0,
        (All-cons Fit x far.0 one.2 far.1.0, (g, far.1.1, one.3)),
        ap (λ l. l ++ x.0.extent ∷ []) far.2 ∙ sym extents,
        subst (λ (z : Out). Follows z (Ok (Some x.0)) w) far.3 follows,
      )

  got-none : (f g h : K) (t u : TokenParts) (v w : Out)
      → GotAll Puts Lacks o kind f t.made v g → GotNone g t h u → w ≡ v → GotAll Puts Lacks o kind f u.made w h
  got-none f g h t u v w far none still =
      let e : EntryParts = none.0 in
      let extents : extents_taken u.made ≡ extents_taken t.made =
      ap (λ (z : TokenParts). extents_taken z.made) none.2 ∙ extents-more t.made e ∙ ap (λ (r : Reply). extents_taken t.made ++ extent_taken r) none.4 ∙ append-nil (extents_taken t.made) in
      subst (λ (s : K). GotAll Puts Lacks o kind f u.made w s) (sym none.1) (far.0, far.1, far.2 ∙ sym extents, still ∙ far.3)

  on-one : (g h : K) (t u : TokenParts) (v w : Out) → (one : GotOne Puts Lacks o kind g t h u) → Follows v (Ok (Some one.0.0)) w
      → GotOn Puts Lacks o kind g t v h u w
  on-one g h t u v w one follows = (
    ap (λ (z : TokenParts). z.seat) one.4,
    ap (λ (z : TokenParts). z.pumped) one.4,
    (λ (f : K) (far : GotAll Puts Lacks o kind f t.made v g). got-more f g h t u v w far one follows),
    takes-more t u one.1 one.4 one.5,
  )

  on-none : (g h : K) (t u : TokenParts) (v w : Out) → GotNone g t h u → w ≡ v → GotOn Puts Lacks o kind g t v h u w
  on-none g h t u v w none still = (
    ap (λ (z : TokenParts). z.seat) none.2,
    ap (λ (z : TokenParts). z.pumped) none.2,
    (λ (f : K) (far : GotAll Puts Lacks o kind f t.made v g). got-none f g h t u v w far none still),
    takes-more t u none.0 none.2 none.3,
  )

  pub on-still : (g h : K) (t u : TokenParts) (v w : Out) → u ≡ t → h ≡ g → w ≡ v → GotOn Puts Lacks o kind g t v h u w
  on-still g h t u v w same kept still = (
    ap (λ (z : TokenParts). z.seat) same,
    ap (λ (z : TokenParts). z.pumped) same,
    (λ (f : K) (far : GotAll Puts Lacks o kind f t.made v g). rw (same, kept, still) far),
    (λ (all : All IsTake t.made). subst (λ (z : TokenParts). All IsTake z.made) (sym same) all),
  )

  -- what was taken, and what handing it on came to
  handed_on-own : (f g : K) (t u : TokenParts) (v w : Out) (r : Result (Option RecordParts) Want) (came : Result Taken LiveFault)
      → NotesTake o t r u → Follows v r w → HandsTaken Puts Lacks o.layout kind f r came g → IfOk came (λ c. GotOn Puts Lacks o kind f t v g u w)
  handed_on-own f g t u v w (Ok (Some r)) (Ok c) notes follows hands =
      on-one f g t u v w ((r, hands.1.0), entry t notes.0.0 (Some r), (notes.2, notes.1), hands.1.1, notes.0.1, refl, refl) follows
  handed_on-own f g t u v w (Ok None) (Ok c) notes follows hands =
      on-none f g t u v w (entry t notes.0.0 None, hands.1, notes.0.1, refl, refl) (follows-none v w follows)
  handed_on-own f g t u v w (Err refused) (Ok c) notes follows hands = on-still f g t u v w notes hands.1 (follows-still v w refused follows)
  handed_on-own f g t u v w r (Err why) notes follows hands = tt

  handed_none-own : (f g : K) (t u : TokenParts) (r : Result (Option RecordParts) Want) (came : Result Taken LiveFault)
      → NotesTake o t r u → HandsTaken Puts Lacks o.layout kind f r came g → came ≡ Ok taken.Nothing → GotNone f t g u
  handed_none-own f g t u (Ok (Some r)) (Ok c) notes hands is = absurd (one-is-some c (Ok c) refl hands.0 is)
  handed_none-own f g t u (Ok (Some r)) (Err why) notes hands is = absurd (err-is-none why (Err why) refl is)
  handed_none-own f g t u (Ok None) came notes hands is = (entry t notes.0.0 None, hands.1, notes.0.1, refl, refl)
  handed_none-own f g t u (Err refused) (Ok c) notes hands is = absurd (again-is-none c (Ok c) refl hands.0 is)
  handed_none-own f g t u (Err refused) (Err why) notes hands is = absurd (err-is-none why (Err why) refl is)

  handed_fails-own : (f g : K) (t u : TokenParts) (r : Result (Option RecordParts) Want) (came : Result Taken LiveFault)
      → NotesTake o t r u → HandsTaken Puts Lacks o.layout kind f r came g → IfErr came (λ why. PutFails Puts Lacks o kind f why g)
  handed_fails-own f g t u (Ok (Some r)) (Err why) notes hands = inr (r, (notes.2, notes.1), hands)
  handed_fails-own f g t u (Ok None) (Err why) notes hands = absurd (err-is-none why (Err why) refl hands.0)
  handed_fails-own f g t u (Err refused) (Err why) notes hands = inl hands
  handed_fails-own f g t u r (Ok c) notes hands = tt

  -- so with the layout of the opening
  pub handed_on : (l : SetupParts) (f g : K) (t u : TokenParts) (v w : Out) (r : Result (Option RecordParts) Want) (came : Result Taken LiveFault)
      → l ≡ o.layout → NotesTake o t r u → Follows v r w → HandsTaken Puts Lacks l kind f r came g → IfOk came (λ c. GotOn Puts Lacks o kind f t v g u w)
  handed_on l f g t u v w r came same notes follows hands =
      handed_on-own f g t u v w r came notes follows (subst (λ (x : SetupParts). HandsTaken Puts Lacks x kind f r came g) same hands)

  pub handed_none : (l : SetupParts) (f g : K) (t u : TokenParts) (r : Result (Option RecordParts) Want) (came : Result Taken LiveFault)
      → l ≡ o.layout → NotesTake o t r u → HandsTaken Puts Lacks l kind f r came g → came ≡ Ok taken.Nothing → GotNone f t g u
  handed_none l f g t u r came same notes hands =
      handed_none-own f g t u r came notes (subst (λ (x : SetupParts). HandsTaken Puts Lacks x kind f r came g) same hands)

  pub handed_fails : (l : SetupParts) (f g : K) (t u : TokenParts) (r : Result (Option RecordParts) Want) (came : Result Taken LiveFault)
      → l ≡ o.layout → NotesTake o t r u → HandsTaken Puts Lacks l kind f r came g → IfErr came (λ why. PutFails Puts Lacks o kind f why g)
  handed_fails l f g t u r came same notes hands =
      handed_fails-own f g t u r came notes (subst (λ (x : SetupParts). HandsTaken Puts Lacks x kind f r came g) same hands)

  -- ---- what the outlet has where a run stops

  -- those that came out are these
  pub got_these : (f g : K) (es : List EntryParts) (v : Out) (rs : List RecordParts)
      → GotAll Puts Lacks o kind f es v g → IfSome v (λ (out : List RecordParts). out ≡ rs) → GotAll Puts Lacks o kind f es (Some rs) g
  got_these f g es v rs all is =
      let same = subst (λ (z : Out). IfSome z (λ (out : List RecordParts). out ≡ rs)) all.3 is in
      (all.0, all.1, all.2, ap (λ (l : List RecordParts). Some l) (sym same))

  pub front_of_all : (f g : K) (es : List EntryParts) (v : Out) → GotAll Puts Lacks o kind f es v g → GotFront Puts Lacks o kind f g
  front_of_all f g es v all = (all.0, g, all.1, inl refl)

  pub front_fails : (f g h : K) (es : List EntryParts) (v : Out) (why : LiveFault)
      → GotAll Puts Lacks o kind f es v g → PutFails Puts Lacks o kind g why h → GotFront Puts Lacks o kind f h
  front_fails f g h es v why all (inl none) = (all.0, g, all.1, inl none.1)
  front_fails f g h es v why all (inr stopped) = (all.0, g, all.1, inr (stopped.0, why, stopped.1, stopped.2))

  pub export_fails : (f g h : K) (es : List EntryParts) (v : Out) (why : LiveFault)
      → GotAll Puts Lacks o kind f es v g → PutFails Puts Lacks o kind g why h → ExportFails Puts Lacks o kind f why h
  export_fails f g h es v (fault.Sink code) all (inr stopped) = (all.0, g, stopped.0, all.1, stopped.1, stopped.2)
  export_fails f g h es v (fault.Sink code) all (inl none) = absurd (not-memory (fault.Sink code) none.0 refl)
  export_fails f g h es v (fault.Feed code) all (inr stopped) = stopped.2
  export_fails f g h es v (fault.Feed code) all (inl none) = absurd (not-memory (fault.Feed code) none.0 refl)
  export_fails f g h es v fault.Turns all stopped = tt
  export_fails f g h es v fault.Memory all stopped = tt
  export_fails f g h es v fault.Counter all (inr stopped) = stopped.2
  export_fails f g h es v fault.Counter all (inl none) = absurd (not-memory fault.Counter none.0 refl)
  export_fails f g h es v (fault.Open why) all (inr stopped) = stopped.2
  export_fails f g h es v (fault.Open why) all (inl none) = absurd (not-memory (fault.Open why) none.0 refl)
  export_fails f g h es v (fault.End why) all (inr stopped) = stopped.2
  export_fails f g h es v (fault.End why) all (inl none) = absurd (not-memory (fault.End why) none.0 refl)

-- a fault that is handed on says what it said
pub handed_up : {R E : Type 0} (came : Result R E) (e : E) (P : E → Type 0) → IsErrAnd came (λ f. f ≡ e) → P e → IfErr came P
handed_up (Ok done) e P same h = tt
handed_up (Err f) e P same h = subst P (sym same) h

-- what is known of a token that came back
pub if_known : {T E : Type 0} (came : Result (Option T) E) (P Q : T → Type 0)
    → ((t : T) → P t → Q t) → IfOk came (λ known. IfSome known P) → IfOk came (λ known. IfSome known Q)
if_known (Ok (Some t)) P Q on h = on t h
if_known (Ok None) P Q on h = tt
if_known (Err e) P Q on h = tt

-- what is known of what is there
pub some_has : {X : Type 0} (P : X → Type 0) (o : Option X) (x : X) → o ≡ Some x → IfSome o P → P x
some_has {X} P o x is h = subst (λ (z : Option X). IfSome z P) is h

pub err_has : {T : Type 0} (P : LiveFault → Type 0) (came : Result T LiveFault) (why : LiveFault) → came ≡ Err why → IfErr came P → P why
err_has {T} P came why is h = subst (λ (z : Result T LiveFault). IfErr z P) is h

-- ---- why a run failed

abbrev done_well : Result (Unit {0}) LiveFault
done_well = Ok tt

abbrev is-err : Result (Unit {0}) LiveFault → Bool
is-err (Ok done) = false
is-err (Err why) = true

ok-is-err : (why : LiveFault) → done_well ≡ Err why → ⊥
ok-is-err why h = true≢false (sym (ap is-err h))

module _ {A F K : Type 0} (Gives : GivesOf A F) (Loses : LosesOf F) (Puts : PutsOf K) (Lacks : LacksOf K) (o : Opening) (kind : Kind)
    (f : F) (k : K) (g : F) (l : K) where
  abbrev pub Fails : LiveFault → Type 0
  Fails why = RunFails Gives Loses Puts Lacks o kind f k g l why

  pub by-export : (why : LiveFault) → ExportFails Puts Lacks o kind k why l → Fails why
  by-export (fault.Feed code) h = absurd h
  by-export (fault.Sink code) h = h
  by-export fault.Turns h = tt
  by-export fault.Counter h = absurd h
  by-export fault.Memory h = tt
  by-export (fault.Open why) h = absurd h
  by-export (fault.End why) h = absurd h

  by-acquisition : (why : LiveFault) → AcquisitionFails Gives Loses f why g → Fails why
  by-acquisition (fault.Feed code) h = h
  by-acquisition (fault.Sink code) h = absurd h
  by-acquisition fault.Turns h = tt
  by-acquisition fault.Counter h = h
  by-acquisition fault.Memory h = tt
  by-acquisition (fault.Open why) h = absurd h
  by-acquisition (fault.End why) h = subst HasTokens (sym h) tt

  by-trigger : (why : LiveFault) → TriggerFails why → Fails why
  by-trigger (fault.Feed code) h = absurd h
  by-trigger (fault.Sink code) h = absurd h
  by-trigger fault.Turns h = tt
  by-trigger fault.Counter h = absurd h
  by-trigger fault.Memory h = tt
  by-trigger (fault.Open why) h = absurd h
  by-trigger (fault.End why) h = subst HasTokens (sym h) tt

  pub by-end : {R : Type 0} (came : Result R LiveFault) → IfErr came IsEnd → IfErr came Fails
  by-end (Ok r) h = tt
  by-end (Err (fault.Feed code)) h = absurd h
  by-end (Err (fault.Sink code)) h = absurd h
  by-end (Err fault.Turns) h = absurd h
  by-end (Err fault.Counter) h = absurd h
  by-end (Err fault.Memory) h = absurd h
  by-end (Err (fault.Open why)) h = absurd h
  by-end (Err (fault.End why)) h = h

  -- of a run whose threads were all started
  pub one_failed : {T S U : Type 0} (came : Result (Unit {0}) LiveFault) (a : Result T LiveFault) (b : Result S LiveFault) (e : Result U LiveFault)
      → IfErr came (λ why. (a ≡ Err why) ⊎ ((b ≡ Err why) ⊎ (e ≡ Err why)))
      → IfErr a (λ why. AcquisitionFails Gives Loses f why g) → IfErr b (λ why. TriggerFails why) → IfErr e (λ why. ExportFails Puts Lacks o kind k why l)
      → IfErr came Fails
  one_failed (Ok done) a b e which x y z = tt
  one_failed (Err why) a b e (inl is) x y z = by-acquisition why (err_has (λ (w : LiveFault). AcquisitionFails Gives Loses f w g) a why is x)
  one_failed (Err why) a b e (inr (inl is)) x y z = by-trigger why (err_has (λ (w : LiveFault). TriggerFails w) b why is y)
  one_failed (Err why) a b e (inr (inr is)) x y z = by-export why (err_has (λ (w : LiveFault). ExportFails Puts Lacks o kind k w l) e why is z)

  -- of a run of which only the export was started
  pub trigger_not_started : {U : Type 0} (came e' : Result (Unit {0}) LiveFault) (e : Result U LiveFault)
      → IfErr came (λ why. (why ≡ fault.Memory) ⊎ ((done_well ≡ Err why) ⊎ (e' ≡ Err why)))
      → IfErr e' (λ why. e ≡ Err why) → IfErr e (λ why. ExportFails Puts Lacks o kind k why l)
      → IfErr came Fails
  trigger_not_started (Ok done) e' e which j z = tt
  trigger_not_started (Err why) e' e (inl is) j z = rw is tt
  trigger_not_started (Err why) e' e (inr (inl is)) j z = absurd (ok-is-err why is)
  trigger_not_started (Err why) e' e (inr (inr is)) j z =
      by-export why (err_has (λ (w : LiveFault). ExportFails Puts Lacks o kind k w l) e why (err_has (λ (w : LiveFault). e ≡ Err w) e' why is j) z)

  -- of a run of which the acquisition was not started
  pub acquisition_not_started : {T U : Type 0} (came b' e' : Result (Unit {0}) LiveFault) (b : Result T LiveFault) (e : Result U LiveFault)
      → IfErr came (λ why. (why ≡ fault.Memory) ⊎ ((b' ≡ Err why) ⊎ (e' ≡ Err why)))
      → IfErr b' (λ why. b ≡ Err why) → IfErr e' (λ why. e ≡ Err why)
      → IfErr b (λ why. TriggerFails why) → IfErr e (λ why. ExportFails Puts Lacks o kind k why l)
      → IfErr came Fails
  acquisition_not_started (Ok done) b' e' b e which i j y z = tt
  acquisition_not_started (Err why) b' e' b e (inl is) i j y z = rw is tt
  acquisition_not_started (Err why) b' e' b e (inr (inl is)) i j y z =
      by-trigger why (err_has (λ (w : LiveFault). TriggerFails w) b why (err_has (λ (w : LiveFault). b ≡ Err w) b' why is i) y)
  acquisition_not_started (Err why) b' e' b e (inr (inr is)) i j y z =
      by-export why (err_has (λ (w : LiveFault). ExportFails Puts Lacks o kind k w l) e why (err_has (λ (w : LiveFault). e ≡ Err w) e' why is j) z)

-- a run over the opening of its recorder
pub has_cause : {A F O K : Type 0} (Gives : GivesOf A F) (Loses : LosesOf F) (Puts : PutsOf K) (Lacks : LacksOf K) (o o' : Opening) (kind : Kind)
    (refused : Option OpenFault) (old new : F × O × K) {R : Type 0} (came : Result R LiveFault)
    → o ≡ o' → IfErr came (RunFails Gives Loses Puts Lacks o kind old.0 old.2 new.0 new.2)
    → IfErr came (HasCause Gives Loses Puts Lacks o' kind refused old new)
has_cause Gives Loses Puts Lacks o o' kind refused old new (Ok r) same h = tt
has_cause Gives Loses Puts Lacks o o' kind refused old new (Err (fault.Feed code)) same h = h
has_cause {K = K} Gives Loses Puts Lacks o o' kind refused old new (Err (fault.Sink code)) same h =
    subst (λ (x : Opening). SinkFailed Puts Lacks x kind old.2 code new.2) same h
has_cause Gives Loses Puts Lacks o o' kind refused old new (Err fault.Turns) same h = tt
has_cause Gives Loses Puts Lacks o o' kind refused old new (Err fault.Counter) same h = h
has_cause Gives Loses Puts Lacks o o' kind refused old new (Err fault.Memory) same h = tt
has_cause Gives Loses Puts Lacks o o' kind refused old new (Err (fault.Open why)) same h = absurd h
has_cause Gives Loses Puts Lacks o o' kind refused old new (Err (fault.End why)) same h = h
