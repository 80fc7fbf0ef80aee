-- How many scans are held.
use Rattle.std.proofs.Common.{ℕ, zero, suc, ◌≡◌, ◌+◌, ◌*◌, ◌<◌, ◌≤◌, ap, ◌∙◌, All, List, [], ◌∷◌, length, take, Option, Some, None, arith, slice_index_or}
use Rattle.std.specs.Prelude.{option_to_list}
use Rattle.std.proofs.lemmas.List.Elements.{All-head, All-tail}
use Rattle.std.proofs.Math.Nat.{mul-le-mul_left}
use Rattle.std.proofs.lemmas.Nat.{mul-le}
use Rattle.dfr_channels.specs.Parts.{SetupParts}
use Rattle.dfr_recorder.specs.declared.limits.Limits.{Limits}
use Rattle.dfr_recorder.specs.declared.marks.Newest.{Newest}
use Rattle.dfr_recorder.specs.Parts.{RecordParts}
use Rattle.dfr_recorder.specs.Kept.{Kept, scans_in, held}
use Rattle.dfr_recorder.specs.Sound.{IsSound, IsClosed, IsOpenSound}

-- the shelf, record by record
scans-suc : (i : ℕ) (rs : List RecordParts) (r : RecordParts) → i < length rs → r ≡ slice_index_or rs i r → scans_in (take (suc i) rs) ≡ scans_in (take i rs) + length r.scans
scans-suc i [] r lt e = absurd (omega arith)
scans-suc zero (x ∷ rs) r lt e = let n : length r.scans ≡ length x.scans = ap (λ (q : RecordParts). length q.scans) e in omega (arith, n)
scans-suc (suc i) (x ∷ rs) r lt e = omega (arith, scans-suc i rs r (omega arith) e)

pub scans_more : (i : ℕ) (rs : List RecordParts) (r : RecordParts) → i < length rs → r ≡ slice_index_or rs i r → scans_in (take (i + 1) rs) ≡ scans_in (take i rs) + length r.scans
scans_more i rs r lt e = let one : i + 1 ≡ suc i = omega arith in ap (λ k. scans_in (take k rs)) one ∙ scans-suc i rs r lt e

pub scans_part : (i : ℕ) (rs : List RecordParts) → scans_in (take i rs) ≤ scans_in rs
scans_part zero rs = omega arith
scans_part (suc i) [] = omega arith
scans_part (suc i) (r ∷ rs) = omega (arith, scans_part i rs)

scans-short : (layout : SetupParts) (limits : Limits) (rs : List RecordParts) → All (IsClosed layout limits) rs → scans_in rs ≤ limits.longest * length rs
scans-short layout limits [] h = omega arith
scans-short layout limits (r ∷ rs) h = omega (arith, (All-head (IsClosed layout limits) r rs h).short, scans-short layout limits rs (All-tail (IsClosed layout limits) r rs h))

-- the open record and the shelf
records-bound : (layout : SetupParts) (limits : Limits) (n : ℕ) (newest : Newest) (recording : Option RecordParts) (shelf : List RecordParts)
    → IsOpenSound layout limits n n newest (length shelf) recording → All (IsClosed layout limits) shelf → scans_in (option_to_list recording) + scans_in shelf ≤ limits.longest * limits.shelf
records-bound layout limits n newest None shelf h closed = omega (arith, scans-short layout limits shelf closed, mul-le-mul_left limits.longest h.1)
records-bound layout limits n newest (Some r) shelf h closed =
    let all : limits.longest * (length shelf + 1) ≤ limits.longest * limits.shelf = mul-le-mul_left limits.longest (omega (arith, h.room)) in
    omega (arith, scans-short layout limits shelf closed, all, h.short, h.scans, h.to_come)

pub held_bound : (k : Kept) → IsSound k → held k ≤ k.limits.pre + 1 + k.limits.longest * k.limits.shelf
held_bound k h = omega (arith, h.ring, records-bound k.layout k.limits k.scans k.newest k.recording k.shelf h.recording h.shelf)

-- the same by numbers
limits-low : (limits : Limits) → limits.pre + 1 + limits.longest * limits.shelf ≤ 65000000
limits-low limits =
    let fit = limits.fit in
    omega (arith, mul-le limits.longest limits.shelf 1000000 64 (omega arith) limits.few)

pub held_low : (k : Kept) → IsSound k → held k ≤ 65000000
held_low k h = omega (arith, held_bound k h, limits-low k.limits)
