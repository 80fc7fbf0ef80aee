-- The sum of the times of cycles, after a time more.
use Rattle.std.proofs.Common.{◌≡◌, sym, subst, ℕ, ◌+◌, ◌-◌, ◌^◌, ◌≤◌, sum, List, ◌∷◌, take, Some, None, arith}
use Rattle.std.specs.Prelude.{slice_get}
use Rattle.std.specs.List.{All}
use Rattle.std.proofs.Math.Nat.{mul-le-mul_right}
use Rattle.std.proofs.lemmas.List.{length-take}
use Rattle.std.proofs.lemmas.List.Elements.{All-take, All-cons}
use Rattle.std.proofs.lemmas.List.Sums.{sum_by-le}
use Rattle.std.proofs.lemmas.Option.{slice_get_within, get_or_from_slice_get}
use Rattle.circular_buffer.specs.Buffer.{Buffer, buffer}
use Rattle.dfr_detect.specs.Paces.{IsTime, IsTimes}
use Rattle.dfr_detect.proofs.Leaving.{none_leaves, one_leaves}

abbrev itself : ℕ → ℕ
itself x = x

pub times_bounded : (times : List ℕ) (places total : ℕ) → IsTimes times places total → total ≤ 2 ^ 39
times_bounded times places total h =
    let most = sum_by-le itself (2 ^ 33) times h.small in
    let wide = mul-le-mul_right (2 ^ 33) h.few in
    let all = mul-le-mul_right (2 ^ 33) h.bounded in
    omega (arith, most, wide, all, h.summed)

pub time_left : (time left : ℕ) (times : List ℕ) (places total : ℕ) → IsTimes times places total → time ≤ 2 ^ 33 → slice_get (time ∷ times) places ≡ Some left → left ≤ total + time
time_left time left times places total h small e =
    let cut = one_leaves itself time left times places h.few e in
    omega (arith, cut, h.summed)

after : (times : List ℕ) (b : Buffer ℕ) (places total : ℕ) → b ≡ buffer (take places times) places → total ≡ sum (take places times) → All IsTime times → places ≤ 64 → IsTimes b.items b.capacity total
after times b places total e summed small bounded = subst (λ (w : Buffer ℕ). IsTimes w.items w.capacity total) (sym e) (record {
  summed = summed;
  small = All-take IsTime places times small;
  few = let short = length-take places times in omega (arith, short);
  bounded = bounded;
})

-- after a time that pushes none out
pub times_none : (time : ℕ) (times : List ℕ) (b : Buffer ℕ) (places total : ℕ) → IsTimes times places total → time ≤ 2 ^ 33 → slice_get (time ∷ times) places ≡ None → b ≡ buffer (take places (time ∷ times)) places → IsTimes b.items b.capacity (total + time)
times_none time times b places total h small e took =
    let kept = none_leaves itself time times places e in
    after (time ∷ times) b places (total + time) took (omega (arith, kept, h.summed)) (All-cons IsTime time times small h.small) h.bounded

-- and after one that pushes one out
pub times_one : (time left : ℕ) (times : List ℕ) (b : Buffer ℕ) (places total : ℕ) → IsTimes times places total → time ≤ 2 ^ 33 → slice_get (time ∷ times) places ≡ Some left → b ≡ buffer (take places (time ∷ times)) places → IsTimes b.items b.capacity ((total + time) - left)
times_one time left times b places total h small e took =
    let cut = one_leaves itself time left times places h.few e in
    after (time ∷ times) b places ((total + time) - left) took (omega (arith, cut, h.summed)) (All-cons IsTime time times small h.small) h.bounded

times_at : (times : List ℕ) (i time : ℕ) → All IsTime times → slice_get times i ≡ Some time → time ≤ 2 ^ 33
times_at times i time h e = subst IsTime (get_or_from_slice_get times i time time e) (h i time (slice_get_within times i time e))

pub left_small : (time left : ℕ) (times : List ℕ) (places total : ℕ) → IsTimes times places total → time ≤ 2 ^ 33 → slice_get (time ∷ times) places ≡ Some left → left ≤ 2 ^ 33
left_small time left times places total h small e = times_at (time ∷ times) places left (All-cons IsTime time times small h.small) e
