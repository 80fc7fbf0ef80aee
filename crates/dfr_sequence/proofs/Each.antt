-- Several contacts, one after the other.
use Rattle.std.proofs.Common.{◌≡◌, ◌∙◌, sym, ap, ℕ, ◌+◌, ◌<◌, ◌≤◌, inl, inr, Bool, List, [], ◌∷◌, ◌++◌, length, map, take, drop, set, get_or, Option, Some, arith, append_assoc}
use Rattle.std.proofs.lemmas.List.{append-nil, map-append, length-map, length-append, length-take, length-drop, length-take-le, take_more, drop_more, take_all, drop_all, take_at, get_or_at, set_at}
use Rattle.std.proofs.lemmas.Option.{slice_get_cases}
use Rattle.comtrade_values.proofs.Lists.{within, taken_more, item_at, list_more}
use Rattle.dfr_sequence.specs.Scans.{Came, came, newest, place_after, placed}
use Rattle.dfr_sequence.specs.Contacts.{Wanted, Kept, kept, told_now, IsStep}
use Rattle.dfr_sequence.specs.Sequences as spec
use Rattle.dfr_sequence.specs.Sequences.{all_kept, all_told, listed, AreSteps, sequence, scan, IsTold}
use Rattle.dfr_sequence.specs.declared.place.Place.{Place}
use Rattle.dfr_sequence.specs.declared.change.Change.{Change}

-- after i of them have taken in a scan
abbrev pub Stepped : List Kept → Place → List Bool → List Change → List Change → List Kept → ℕ → Type 0
Stepped old place bits before after new i =
    (ws : List Wanted) (past : List Came) → all_kept ws past ≡ old
    → (before ++ all_told (take i ws) (came place bits) past ≡ after) × (all_kept (take i ws) (came place bits ∷ past) ++ all_kept (drop i ws) past ≡ new)

pub stepped_none : (old : List Kept) (place : Place) (bits : List Bool) (before : List Change) → Stepped old place bits before before old 0
stepped_none old place bits before ws past h = (append-nil before, h)

-- what is told of one contact more
told_last : (ws : List Wanted) (w : Wanted) (now : Came) (past : List Came) → all_told (ws ++ w ∷ []) now past ≡ all_told ws now past ++ listed (told_now w now past)
told_last [] w now past = append-nil (listed (told_now w now past))
told_last (v ∷ ws) w now past =
    ap (λ (rest : List Change). listed (told_now v now past) ++ rest) (told_last ws w now past)
    ∙ sym (append_assoc (listed (told_now v now past)) (all_told ws now past) (listed (told_now w now past)))

told_more : (ws : List Wanted) (w : Wanted) (i : ℕ) (now : Came) (past : List Came) (before after : List Change) (told : Option Change)
    → i < length ws → get_or ws i w ≡ w → before ++ all_told (take i ws) now past ≡ after → told_now w now past ≡ told → before ++ all_told (take (i + 1) ws) now past ≡ after ++ listed told
told_more ws w i now past before after told lt e so is =
    ap (λ (us : List Wanted). before ++ all_told us now past) (taken_more ws w i lt e)
    ∙ ap (λ (us : List Change). before ++ us) (told_last (take i ws) w now past)
    ∙ sym (append_assoc before (all_told (take i ws) now past) (listed (told_now w now past)))
    ∙ ap (λ (us : List Change). us ++ listed (told_now w now past)) so
    ∙ ap (λ (t : Option Change). after ++ listed t) is

one_more : (place : Place) (bits : List Bool) (before after : List Change) (new : List Kept) (i : ℕ) (d : Kept) (told : Option Change) (y : Kept) (made : List Change) (ws : List Wanted) (past : List Came) (w : Wanted)
    → i < length ws → get_or ws i w ≡ w → before ++ all_told (take i ws) (came place bits) past ≡ after → all_kept (take i ws) (came place bits ∷ past) ++ all_kept (drop i ws) past ≡ new
    → IsStep (get_or new i d) place bits told y → made ≡ after ++ listed told
    → (before ++ all_told (take (i + 1) ws) (came place bits) past ≡ made) × (all_kept (take (i + 1) ws) (came place bits ∷ past) ++ all_kept (drop (i + 1) ws) past ≡ set new i y)
one_more place bits before after new i d told y made ws past w inside e so_told so_kept step pushed =
    let now = came place bits in
    let found = item_at (λ u. kept u (now ∷ past)) (λ u. kept u past) ws w i new d inside e so_kept in
    let one = step w past (sym found) in (
      told_more ws w i now past before after told inside e so_told one.0 ∙ sym pushed,
      list_more (λ u. kept u (now ∷ past)) (λ u. kept u past) ws w i new y inside e so_kept one.1,
    )

-- one contact more
pub stepped_more : (old : List Kept) (place : Place) (bits : List Bool) (before after : List Change) (new : List Kept) (i : ℕ) (d : Kept) (told : Option Change) (y : Kept) (made : List Change)
    → Stepped old place bits before after new i → i < length new → IsStep (get_or new i d) place bits told y → made ≡ after ++ listed told → Stepped old place bits before made (set new i y) (i + 1)
stepped_more old place bits before after new i d told y made so lt step pushed ws past h =
    let here = so ws past h in
    let now = came place bits in
    let inside : i < length ws = within (λ w. kept w (now ∷ past)) (λ w. kept w past) ws i new here.1 lt in
    elim (slice_get_cases ws i).1 [
      | inl w ↦ one_more place bits before after new i d told y made ws past w.0 inside w.3 here.0 here.1 step pushed
      | inr p ↦ absurd (omega (arith, p.0, inside))
    ]

pub stepped_all : (old : List Kept) (place : Place) (bits : List Bool) (before after : List Change) (new : List Kept) (i : ℕ) → Stepped old place bits before after new i → length old ≤ i → AreSteps old place bits before after new
stepped_all old place bits before after new i so all ws past h =
    let here = so ws past h in
    let now = came place bits in
    let short : length ws ≤ i = (let whole = ap length h in let long = length-map ws (λ w. kept w past) in omega (arith, whole, long)) in
    let taken = take_all i ws short in
    let none = drop_all i ws short in (
      ap (λ (us : List Wanted). before ++ all_told us now past) (sym taken) ∙ here.0,
      sym (append-nil (all_kept ws (now ∷ past)))
          ∙ ap (λ (us : List Wanted). all_kept us (now ∷ past) ++ []) (sym taken)
          ∙ ap (λ (us : List Wanted). all_kept (take i ws) (now ∷ past) ++ all_kept us past) (sym none)
          ∙ here.1,
    )

-- the list is written back
pub written : (old : spec.Kept) (list : List Kept) (number : ℕ) (bits : List Bool) (was before after : List Change) (made rest : List Kept) (n : ℕ)
    → AreSteps list (place_after old.newest number) bits before after made → list ≡ old.contacts → before ≡ was → length made ≡ n
    → IsTold old number bits was after (spec.kept_by (Some number) (take n (made ++ rest)))
written old list number bits was before after made rest n told same is_before long ws past h =
    let newest_is : newest past ≡ old.newest = ap (λ (k : spec.Kept). k.newest) h in
    let contacts_are : all_kept ws (placed past) ≡ list = ap (λ (k : spec.Kept). k.contacts) h ∙ sym same in
    let t = told ws (placed past) contacts_are in
    let place_is : place_after (newest past) number ≡ place_after old.newest number = ap (λ (n : Option ℕ). place_after n number) newest_is in (
      ap (λ (us : List Change). us ++ all_told ws (came (place_after (newest past) number) bits) (placed past)) (sym is_before)
          ∙ ap (λ (p : Place). before ++ all_told ws (came p bits) (placed past)) place_is ∙ t.0,
      ap (λ (p : Place). spec.kept_by (Some number) (all_kept ws (came p bits ∷ placed past))) place_is
          ∙ ap (λ (us : List Kept). spec.kept_by (Some number) us) (t.1 ∙ sym (take_at made rest n long)),
    )
