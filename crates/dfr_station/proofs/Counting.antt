-- What comes of counted frames, one by one.
use Rattle.std.proofs.Common.{◌≡◌, ℕ, zero, suc, ◌+◌, ◌-◌, ◌<◌, ◌≤◌, Bool, true, false, List, [], ◌∷◌, ◌++◌, length, take, drop, Option, Some, None, refl, sym, ap, ◌∙◌, arith, length-append, ◌⊎◌, inl, inr}
use Rattle.std.specs.Prelude.{◌==◌, nat_lt, nat_le, replicate}
use Rattle.std.proofs.lemmas.Bool.Decides.{nat_tests}
use Rattle.std.proofs.lemmas.Bool.{cases_lt}
use Rattle.std.proofs.lemmas.List.{append-nil, take-append-le, drop-append-le, length-drop}
use Rattle.dfr_channels.specs.Parts.{SetupParts}
use Rattle.dfr_station.specs.Counted.{Part, Frame, Other, parts_in, with_other, is_counted, counter_in, next_counter, missing_before, PartsGive}
use Rattle.dfr_station.specs.Lines.{ArrivalParts, Lost, Noise, FrameMeans, parts_of}
use Rattle.dfr_station.specs.Input.{frame_size, ReadingParts, Comes, reading_of, Cuts, Wants}
use Rattle.dfr_station.specs.declared.intake.cutter.Cutter.{Cutter}
use Rattle.dfr_station.specs.declared.intake.feed.Why.TheVariants as why
use Rattle.dfr_station.specs.declared.station.Input.TheVariants as form
use Rattle.dfr_station.specs.declared.station.Lowest.{Lowest}

-- behind the rest of a frame
rest_passed : (size rest : ℕ) (noisy : Bool) (bytes : List ℕ) → parts_in size rest noisy bytes ≡ parts_in size 0 noisy (drop rest bytes)
unfolding parts_in
rest_passed size zero noisy bytes = refl
rest_passed size (suc rest) noisy [] = refl
rest_passed size (suc rest) noisy (b ∷ bs) = rest_passed size rest noisy bs

-- what stands at the front does not depend on what comes behind it
same_front : (size : ℕ) (bytes more : List ℕ) → 5 + size ≤ length bytes → is_counted size (bytes ++ more) ≡ is_counted size bytes
unfolding is_counted
same_front size [] more whole = absurd (omega (arith, whole))
same_front size (a ∷ []) more whole = absurd (omega (arith, whole))
same_front size (a ∷ b ∷ []) more whole = absurd (omega (arith, whole))
same_front size (a ∷ b ∷ c ∷ []) more whole = absurd (omega (arith, whole))
same_front size (a ∷ b ∷ c ∷ bytes) more whole = rw (take-append-le (size + 2) bytes more (omega (arith, whole))) refl

same_counter : (bytes more : List ℕ) → 5 ≤ length bytes → counter_in (bytes ++ more) ≡ counter_in bytes
same_counter [] more whole = absurd (omega (arith, whole))
same_counter (a ∷ []) more whole = absurd (omega (arith, whole))
same_counter (a ∷ b ∷ []) more whole = absurd (omega (arith, whole))
same_counter (a ∷ b ∷ c ∷ []) more whole = absurd (omega (arith, whole))
same_counter (a ∷ b ∷ c ∷ d ∷ []) more whole = absurd (omega (arith, whole))
same_counter (a ∷ b ∷ c ∷ d ∷ e ∷ bytes) more whole = refl

-- no whole frame
few_bytes : (size : ℕ) (noisy : Bool) (bytes : List ℕ) → length bytes < 5 + size → parts_in size 0 noisy bytes ≡ []
unfolding parts_in
few_bytes size noisy [] few = refl
few_bytes size noisy (b ∷ bs) few = let t : nat_lt (length (b ∷ bs)) (5 + size) ≡ true = grind (arith, nat_tests) in rw t refl

-- a frame at the front
frame_first : (size : ℕ) (noisy : Bool) (bytes : List ℕ) → 5 + size ≤ length bytes → is_counted size bytes ≡ true
    → parts_in size 0 noisy bytes ≡ Frame (counter_in bytes) (take size (drop 5 bytes)) ∷ parts_in size 0 false (drop (5 + size) bytes)
unfolding parts_in
frame_first size noisy [] whole is = absurd (omega (arith, whole))
frame_first size noisy (b ∷ bs) whole is =
    let t : nat_lt (length (b ∷ bs)) (5 + size) ≡ false = grind (arith, nat_tests) in
    let n : size + 4 ≡ 4 + size = omega arith in
    let m : 5 + size ≡ suc (4 + size) = omega arith in
    rw (t, is, n, m) (ap (λ (ps : List Part). Frame (counter_in (b ∷ bs)) (take size (drop 5 (b ∷ bs))) ∷ ps) (rest_passed size (4 + size) false bs))

-- no frame at the front
other_first : (size : ℕ) (noisy : Bool) (bytes : List ℕ) → 5 + size ≤ length bytes → is_counted size bytes ≡ false
    → parts_in size 0 noisy bytes ≡ with_other noisy (parts_in size 0 true (drop 1 bytes))
unfolding parts_in
other_first size noisy [] whole is = absurd (omega (arith, whole))
other_first size noisy (b ∷ bs) whole is =
    let t : nat_lt (length (b ∷ bs)) (5 + size) ≡ false = grind (arith, nat_tests) in
    rw (t, is) refl

-- one more frame is missing before this one than before the next counter
one_missing : (due counter : ℕ) → due < 65_536 → counter < 65_536 → (due < counter) ⊎ (counter < due)
    → missing_before (Some due) counter ≡ suc (missing_before (Some (next_counter due)) counter)
one_missing due counter one two (inl less) =
    let here : nat_le due counter ≡ true = grind (arith, nat_tests) in
    let last : (due == 65_535) ≡ false = grind (arith, nat_tests) in
    let then : nat_le (due + 1) counter ≡ true = grind (arith, nat_tests) in
    rw (here, last, then) (omega (arith, less))
one_missing due counter one two (inr more) =
    let here : nat_le due counter ≡ false = grind (arith, nat_tests) in
    elim (cases_lt due 65_535) [
      | inl below ↦
          let last : (due == 65_535) ≡ false = grind (arith, nat_tests) in
          let then : nat_le (due + 1) counter ≡ false = grind (arith, nat_tests) in
          rw (here, last, then) (omega (arith, more))
      | inr above ↦
          let last : (due == 65_535) ≡ true = grind (arith, nat_tests) in
          let then : nat_le 0 counter ≡ true = grind (arith, nat_tests) in
          rw (here, last, then) (omega (arith, above, one))
    ]

-- a counter whose next one has 16 bits has 16 bits
low_counter : (due : ℕ) → next_counter due < 65_536 → due < 65_536
low_counter due low =
    elim (cases_lt due 65_536) [
      | inl below ↦ below
      | inr above ↦
          let last : (due == 65_535) ≡ false = grind (arith, nat_tests) in
          let next : due + 1 < 65_536 = rw last at low in
          absurd (omega (arith, above, next))
    ]

apart_from : (due counter : ℕ) → ¬ (due ≡ counter) → (due < counter) ⊎ (counter < due)
apart_from due counter other =
    elim (cases_lt due counter) [
      | inl less ↦ inl less
      | inr more ↦
          elim (cases_lt counter due) [
            | inl above ↦ inr above
            | inr below ↦ absurd (other (omega (arith, more, below)))
          ]
    ]

-- none is missing before the one that was to come
none_missing : (counter : ℕ) → missing_before (Some counter) counter ≡ 0
none_missing counter =
    let here : nat_le counter counter ≡ true = grind (arith, nat_tests) in
    rw here (omega arith)

-- none is missing before the first one, or before the one that was to come
pub none_missed : (due : Option ℕ) (counter : ℕ) → (due ≡ None) ⊎ (due ≡ Some counter) → missing_before due counter ≡ 0
none_missed due counter (inl first) = rw first refl
none_missed due counter (inr next) = rw next (none_missing counter)

module _ (layout : SetupParts) (l : Lowest) (bytes more : List ℕ) (whole : 5 + frame_size layout ≤ length bytes) where
  abbrev size : ℕ
  size = frame_size layout

  longer : 5 + size ≤ length (bytes ++ more)
  longer = omega (arith, whole, length-append bytes more)

  -- the parts of the bytes with a frame at their front, whatever comes after them
  frame_parts : (noisy : Bool) → is_counted size bytes ≡ true
      → parts_in size 0 noisy (bytes ++ more) ≡ Frame (counter_in bytes) (take size (drop 5 bytes)) ∷ parts_in size 0 false (drop (5 + size) bytes ++ more)
  frame_parts noisy is =
      let counter = same_counter bytes more (omega (arith, whole)) in
      let front = drop-append-le 5 bytes more (omega (arith, whole)) in
      let frame = take-append-le size (drop 5 bytes) more (omega (arith, whole, length-drop 5 bytes)) in
      let behind = drop-append-le (5 + size) bytes more whole in
      frame_first size noisy (bytes ++ more) longer (same_front size bytes more whole ∙ is)
      ∙ rw (counter, front, frame, behind) refl

  other_parts : (noisy : Bool) → is_counted size bytes ≡ false
      → parts_in size 0 noisy (bytes ++ more) ≡ with_other noisy (parts_in size 0 true (drop 1 bytes ++ more))
  other_parts noisy is =
      let behind = drop-append-le 1 bytes more (omega (arith, whole)) in
      other_first size noisy (bytes ++ more) longer (same_front size bytes more whole ∙ is) ∙ rw behind refl

  -- a frame that is missing before the one at the front is a lost scan
  lost_leads : (due : ℕ) (noisy : Bool) (xs : List ArrivalParts) → is_counted size bytes ≡ true
      → missing_before (Some due) (counter_in bytes) ≡ suc (missing_before (Some (next_counter due)) (counter_in bytes))
      → PartsGive layout l (Some (next_counter due)) (parts_in size 0 noisy (bytes ++ more)) xs
      → PartsGive layout l (Some due) (parts_in size 0 noisy (bytes ++ more)) (Lost why.Counted ∷ xs)
  unfolding PartsGive
  lost_leads due noisy xs is one comes =
      let parts = frame_parts noisy is in
      let c = rw parts at comes in
      rw (parts, one) (c.0, c.1, c.2, ap (λ (ys : List ArrivalParts). Lost why.Counted ∷ ys) c.3, c.4)

  -- the frame at the front, before which none is missing
  frame_leads : (due : Option ℕ) (noisy : Bool) (a : ArrivalParts) (xs : List ArrivalParts) → is_counted size bytes ≡ true
      → missing_before due (counter_in bytes) ≡ 0 → FrameMeans layout l (take size (drop 5 bytes)) a
      → PartsGive layout l (Some (next_counter (counter_in bytes))) (parts_in size 0 false (drop (5 + size) bytes ++ more)) xs
      → PartsGive layout l due (parts_in size 0 noisy (bytes ++ more)) (a ∷ xs)
  unfolding PartsGive
  frame_leads due noisy a xs is none means comes = rw (frame_parts noisy is, none) (a, xs, means, refl, comes)

  -- no frame stands at the front
  noise_leads : (due : Option ℕ) (xs : List ArrivalParts) → is_counted size bytes ≡ false
      → PartsGive layout l due (parts_in size 0 true (drop 1 bytes ++ more)) xs
      → PartsGive layout l due (parts_in size 0 false (bytes ++ more)) (Noise ∷ xs)
  unfolding PartsGive
  noise_leads due xs is comes = rw (other_parts false is) (xs, refl, comes)

  noise_goes_on : (due : Option ℕ) (xs : List ArrivalParts) → is_counted size bytes ≡ false
      → PartsGive layout l due (parts_in size 0 true (drop 1 bytes ++ more)) xs
      → PartsGive layout l due (parts_in size 0 true (bytes ++ more)) xs
  noise_goes_on due xs is comes = rw (other_parts true is) comes

-- ---- cutters

pub cuts_on : {A : Type 0} (last : Bool) (c d e : Cutter A) (given : List ArrivalParts) → Cuts last c [] d → Cuts last d given e → Cuts last c given e
cuts_on last c d e given first then = record { first = λ more none xs comes. first.first more none (given ++ xs) (then.first more none xs comes) }

-- no whole frame waits
pub waits_for_frame : {A : Type 0} (l : Lowest) (last : Bool) (c d : Cutter A) → Cuts last c [] d → d.form ≡ form.Counted l
    → length d.buffer < 5 + frame_size d.layout.now → 5 + frame_size d.layout.now ≤ 65_536 → Wants last c d
unfolding Comes PartsGive
waits_for_frame l last c d cut counts few room = record {
  room = omega (arith, few, room);
  cut = cut;
  over = λ is_last. rw (counts, append-nil d.buffer, few_bytes (frame_size d.layout.now) d.is_noisy d.buffer few) refl;
}

module _ {A : Type 0} (l : Lowest) (last : Bool) (c : Cutter A) (counts : c.form ≡ form.Counted l) (whole : 5 + frame_size c.layout.now ≤ length c.buffer) where
  -- a frame is missing before the one at the front
  pub loses_missing : (due next came counter : ℕ) → c.due ≡ Some due → is_counted (frame_size c.layout.now) c.buffer ≡ true → counter ≡ counter_in c.buffer
      → next < 65_536 → counter < 65_536 → ¬ (due ≡ counter) → next ≡ next_counter due
      → Cuts last c (Lost why.Counted ∷ []) (record c { came = came; due = Some next })
  unfolding Comes
  loses_missing due next came counter was is at low high other then = record {
    first = λ more none xs comes.
        rw (counts, was) (lost_leads c.layout.now l c.buffer more whole due c.is_noisy xs is (rw at at (one_missing due counter (low_counter due (rw then at low)) high (apart_from due counter other)))
        (rw (counts, then) at comes));
  }

  -- the frame at the front comes
  pub takes_frame : (next came counter : ℕ) (a : ArrivalParts) → is_counted (frame_size c.layout.now) c.buffer ≡ true → counter ≡ counter_in c.buffer
      → missing_before c.due counter ≡ 0 → next ≡ next_counter counter → FrameMeans c.layout.now l (take (frame_size c.layout.now) (drop 5 c.buffer)) a
      → Cuts last c (a ∷ []) (record c { buffer = drop (5 + frame_size c.layout.now) c.buffer; came = came; due = Some next; is_noisy = false })
  unfolding Comes
  takes_frame next came counter a is at none then means = record {
    first = λ more end xs comes.
        rw counts (frame_leads c.layout.now l c.buffer more whole c.due c.is_noisy a xs is (rw (sym at) none) means (rw (counts, then, at) at comes));
  }

  -- no frame stands at the front
  pub hears_noise : is_counted (frame_size c.layout.now) c.buffer ≡ false → c.is_noisy ≡ false
      → Cuts last c (Noise ∷ []) (record c { buffer = drop 1 c.buffer; is_noisy = true })
  unfolding Comes
  hears_noise is quiet = record {
    first = λ more end xs comes. rw (counts, quiet) (noise_leads c.layout.now l c.buffer more whole c.due xs is (rw counts at comes));
  }

  pub hears_more_noise : is_counted (frame_size c.layout.now) c.buffer ≡ false → c.is_noisy ≡ true → Cuts last c [] (record c { buffer = drop 1 c.buffer })
  unfolding Comes
  hears_more_noise is noisy = record {
    first = λ more end xs comes. rw (counts, noisy) (noise_goes_on c.layout.now l c.buffer more whole c.due xs is (rw (counts, noisy) at comes));
  }
