-- Several detectors, one after the other.
use Rattle.std.proofs.Common.{◌≡◌, ◌∙◌, sym, ap, ℕ, ◌+◌, ◌<◌, ◌≤◌, inl, inr, Bool, List, [], ◌∷◌, ◌++◌, length, map, take, drop, set, get_or, arith, append_assoc}
use Rattle.std.proofs.lemmas.List.{append-nil, map-append, length-map, length-append, length-take, length-drop, length-take-le, take_more, drop_more, take_all, drop_all, take_at, get_or_at, set_at}
use Rattle.std.proofs.lemmas.Option.{slice_get_cases}
use Rattle.comtrade_values.proofs.Lists.{within, taken_more, item_at, list_more}
use Rattle.dfr_channels.specs.declared.scan.Reading.{Reading}
use Rattle.dfr_detect.specs.Lost.{AreAfterLoss}
use Rattle.dfr_detect.specs.Detection.{Wanted, Detected, detected, fires, all_detected, all_fire, IsDetection, AreDetections}

-- after i of them have taken in a scan
abbrev pub Stepped : List Detected → List Reading → List Bool → List Bool → List Detected → ℕ → Type 0
Stepped old readings before after new i =
    (ws : List Wanted) (scans : List (List Reading)) → all_detected ws scans ≡ old
    → (before ++ all_fire (take i ws) (readings ∷ scans) ≡ after) × (all_detected (take i ws) (readings ∷ scans) ++ all_detected (drop i ws) scans ≡ new)

pub stepped_none : (old : List Detected) (readings : List Reading) (before : List Bool) → Stepped old readings before before old 0
stepped_none old readings before ws scans h = (append-nil before, h)

bits_more : {W : Type 0} (k : W → Bool) (ws : List W) (w : W) (i : ℕ) (before after : List Bool) (b : Bool) → i < length ws → get_or ws i w ≡ w → before ++ map k (take i ws) ≡ after → k w ≡ b → before ++ map k (take (i + 1) ws) ≡ after ++ b ∷ []
bits_more {W = W} k ws w i before after b lt e told is =
    ap (λ (us : List W). before ++ map k us) (taken_more ws w i lt e)
    ∙ ap (λ (us : List Bool). before ++ us) (map-append k (take i ws) (w ∷ []))
    ∙ sym (append_assoc before (map k (take i ws)) (k w ∷ []))
    ∙ ap (λ (us : List Bool). us ++ k w ∷ []) told
    ∙ ap (λ (v : Bool). after ++ v ∷ []) is

one_more : (readings : List Reading) (before after : List Bool) (new : List Detected) (i : ℕ) (d : Detected) (b : Bool) (y : Detected) (bits : List Bool) (ws : List Wanted) (scans : List (List Reading)) (w : Wanted)
    → i < length ws → get_or ws i w ≡ w → before ++ all_fire (take i ws) (readings ∷ scans) ≡ after → all_detected (take i ws) (readings ∷ scans) ++ all_detected (drop i ws) scans ≡ new
    → IsDetection (get_or new i d) readings b y → bits ≡ after ++ b ∷ []
    → (before ++ all_fire (take (i + 1) ws) (readings ∷ scans) ≡ bits) × (all_detected (take (i + 1) ws) (readings ∷ scans) ++ all_detected (drop (i + 1) ws) scans ≡ set new i y)
one_more readings before after new i d b y bits ws scans w inside e told_bits told_list step pushed =
    let found = item_at (λ u. detected u (readings ∷ scans)) (λ u. detected u scans) ws w i new d inside e told_list in
    let stepped = step w scans (sym found) in (
      bits_more (λ u. fires u (readings ∷ scans)) ws w i before after b inside e told_bits stepped.0 ∙ sym pushed,
      list_more (λ u. detected u (readings ∷ scans)) (λ u. detected u scans) ws w i new y inside e told_list stepped.1,
    )

-- one detector more
pub stepped_more : (old : List Detected) (readings : List Reading) (before after : List Bool) (new : List Detected) (i : ℕ) (d : Detected) (b : Bool) (y : Detected) (bits : List Bool)
    → Stepped old readings before after new i → i < length new → IsDetection (get_or new i d) readings b y → bits ≡ after ++ b ∷ [] → Stepped old readings before bits (set new i y) (i + 1)
stepped_more old readings before after new i d b y bits so lt step pushed ws scans h =
    let told = so ws scans h in
    let inside : i < length ws = within (λ w. detected w (readings ∷ scans)) (λ w. detected w scans) ws i new told.1 lt in
    elim (slice_get_cases ws i).1 [
      | inl w ↦ one_more readings before after new i d b y bits ws scans w.0 inside w.3 told.0 told.1 step pushed
      | inr p ↦ absurd (omega (arith, p.0, inside))
    ]

pub stepped_all : (old : List Detected) (readings : List Reading) (before after : List Bool) (new : List Detected) (i : ℕ) → Stepped old readings before after new i → length old ≤ i → AreDetections old readings before after new
stepped_all old readings before after new i so all ws scans h =
    let told = so ws scans h in
    let short : length ws ≤ i = (let whole = ap length h in let long = length-map ws (λ w. detected w scans) in omega (arith, whole, long)) in
    let taken = take_all i ws short in
    let none = drop_all i ws short in (
      ap (λ (us : List Wanted). before ++ all_fire us (readings ∷ scans)) (sym taken) ∙ told.0,
      sym (append-nil (all_detected ws (readings ∷ scans)))
          ∙ ap (λ (us : List Wanted). all_detected us (readings ∷ scans) ++ []) (sym taken)
          ∙ ap (λ (us : List Wanted). all_detected (take i ws) (readings ∷ scans) ++ all_detected us scans) (sym none)
          ∙ told.1,
    )

-- the list is written back
pub written : (old list : List Detected) (readings : List Reading) (status before after : List Bool) (made rest : List Detected) (n : ℕ)
    → AreDetections list readings before after made → list ≡ old → before ≡ status → length made ≡ n → AreDetections old readings status after (take n (made ++ rest))
written old list readings status before after made rest n told same was long ws scans h =
    let t = told ws scans (h ∙ sym same) in (
      ap (λ (us : List Bool). us ++ all_fire ws (readings ∷ scans)) (sym was) ∙ t.0,
      t.1 ∙ sym (take_at made rest n long),
    )

pub written_lost : (old list made rest : List Detected) (n : ℕ)
    → AreAfterLoss list made → list ≡ old → length made ≡ n → AreAfterLoss old (take n (made ++ rest))
written_lost old list made rest n told same long ws scans h = told ws scans (h ∙ sym same) ∙ sym (take_at made rest n long)
