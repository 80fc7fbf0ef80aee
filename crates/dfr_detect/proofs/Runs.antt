-- A detector over scans, one after the other.
use Rattle.std.proofs.Common.{◌≡◌, ◌∙◌, sym, ap, refl, ℕ, zero, suc, ◌+◌, ◌<◌, ◌≤◌, Bool, List, [], ◌∷◌, ◌++◌, length, map, take, drop, get_or, arith, append_assoc}
use Rattle.std.specs.List.{fold}
use Rattle.std.proofs.lemmas.List.{append-nil, drop_more, drop_all, length-map}
use Rattle.std.proofs.lemmas.List.Sums.{fold_more}
use Rattle.dfr_channels.specs.Parts.{ScanParts}
use Rattle.dfr_channels.specs.declared.scan.Reading.{Reading}
use Rattle.dfr_detect.specs.Detection.{Wanted, Detected, detected, bits_over, readings_of, IsDetection, AreBits}

-- a history after these scans more
abbrev seen : List (List Reading) → List (List Reading) → List (List Reading)
seen past later = fold (λ scans readings. readings ∷ scans) past later

-- after i of the scans
abbrev pub Ran : Detected → List (List Reading) → List Bool → Detected → ℕ → Type 0
Ran old later bits new i =
    (w : Wanted) (past : List (List Reading)) → detected w past ≡ old
    → (bits ++ bits_over w (seen past (take i later)) (drop i later) ≡ bits_over w past later) × (detected w (seen past (take i later)) ≡ new)

pub ran_none : (old : Detected) (later : List (List Reading)) → Ran old later [] old 0
ran_none old later w past h = (refl, h)

mapped : {X Y : Type 0} (f : X → Y) (xs : List X) (i : ℕ) (d : X) → get_or (map f xs) i (f d) ≡ f (get_or xs i d)
mapped f [] i d = refl
mapped f (x ∷ xs) zero d = refl
mapped f (x ∷ xs) (suc i) d = mapped f xs i d

-- one scan more
pub ran_more : (old : Detected) (scans : List ScanParts) (bits : List Bool) (now : Detected) (i : ℕ) (d : ScanParts) (readings : List Reading) (b : Bool) (new : Detected) (more : List Bool)
    → Ran old (map readings_of scans) bits now i → i < length scans → readings ≡ readings_of (get_or scans i d) → IsDetection now readings b new → more ≡ bits ++ b ∷ [] → Ran old (map readings_of scans) more new (i + 1)
ran_more old scans bits now i d readings b new more so lt is step pushed w past h =
    let later = map readings_of scans in
    let told = so w past h in
    let inside : i < length later = (let long = length-map scans readings_of in omega (arith, long)) in
    let here : get_or later i (readings_of d) ≡ readings = mapped readings_of scans i d ∙ sym is in
    let before = seen past (take i later) in
    let rest = drop (i + 1) later in
    let stepped = step w before told.1 in
    let longer : seen past (take (i + 1) later) ≡ readings ∷ before = fold_more (λ (us : List (List Reading)) (r : List Reading). r ∷ us) past later i (readings_of d) inside ∙ ap (λ (r : List Reading). r ∷ before) here in
    let opened : drop i later ≡ readings ∷ rest = drop_more later i (readings_of d) inside ∙ ap (λ (r : List Reading). r ∷ rest) here in (
      ap (λ (us : List Bool). us ++ bits_over w (seen past (take (i + 1) later)) rest) pushed
          ∙ ap (λ (us : List (List Reading)). (bits ++ b ∷ []) ++ bits_over w us rest) longer
          ∙ append_assoc bits (b ∷ []) (bits_over w (readings ∷ before) rest)
          ∙ ap (λ (v : Bool). bits ++ v ∷ bits_over w (readings ∷ before) rest) (sym stepped.0)
          ∙ ap (λ (us : List (List Reading)). bits ++ bits_over w before us) (sym opened)
          ∙ told.0,
      ap (λ (us : List (List Reading)). detected w us) longer ∙ stepped.1,
    )

pub ran_all : (old : Detected) (scans : List ScanParts) (bits : List Bool) (new : Detected) (i : ℕ) → Ran old (map readings_of scans) bits new i → length scans ≤ i → AreBits old (map readings_of scans) bits
ran_all old scans bits new i so all w past h =
    let later = map readings_of scans in
    let told = so w past h in
    let none : drop i later ≡ [] = drop_all i later (let long = length-map scans readings_of in omega (arith, long)) in
    sym told.0 ∙ ap (λ (us : List (List Reading)). bits ++ bits_over w (seen past (take i later)) us) none ∙ append-nil bits
