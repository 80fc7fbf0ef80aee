-- A head that is read has its bytes, and a fault is named at one of the bytes that came, or at their end.
use Rattle.std.proofs.Common.{◌≡◌, ℕ, ◌+◌, ◌-◌, ◌≤◌, List, Result, Ok, Err, ap, inl, inr, arith}
use Rattle.std.specs.Prelude.{nat_lt, ◌==◌, ◌&&◌, ◌%◌, Option, Some, None}
use Rattle.std.proofs.lemmas.Bool.{cases_Bool, ltb-false}
use Rattle.dfr_bus.specs.declared.fault.Fault.{Fault}
use Rattle.dfr_bus.specs.declared.fault.Wrong.TheVariants.{CutShort}
use Rattle.dfr_bus.specs.declared.capture.Capture.{Capture}
use Rattle.dfr_bus.specs.Bytes.{big_4}
use Rattle.dfr_bus.specs.Readings.{fault}
use Rattle.dfr_bus.specs.Captures.{two, four, magic, rest_of_head, head_at, packet_at}
use Rattle.dfr_bus.proofs.ElementsRead.{no_value}

-- a capture with a head has its bytes
pub head_long : (bytes : List ℕ) (end : ℕ) (c : Capture) → head_at bytes end ≡ Ok c → 24 ≤ end
unfolding head_at
head_long bytes end c h =
    elim (cases_Bool (nat_lt end 24)) [
      | inl short ↦ absurd (no_value (fault end CutShort) c (rw short at h))
      | inr long ↦ ltb-false end 24 long
    ]

-- the place of a fault, if there is one
abbrev place : {A : Type 0} → Result A Fault → ℕ
place (Ok x) = 0
place (Err f) = f.at

fault_place : {A : Type 0} (r : Result A Fault) (f : Fault) → r ≡ Err f → place r ≡ f.at
fault_place {A} r f e = ap (λ (x : Result A Fault). place x) e

rest_inside : (bytes : List ℕ) (c : Option Capture) → place (rest_of_head bytes c) ≤ 20
unfolding rest_of_head
rest_inside bytes None = omega arith
rest_inside bytes (Some c) =
    elim (cases_Bool (two c.order bytes 4 == 2 && two c.order bytes 6 == 4)) [
      | inr old ↦ rw old (omega arith)
      | inl new ↦
          elim (cases_Bool (four c.order bytes 20 % 65536 == 1)) [
            | inl ethernet ↦ rw (new, ethernet) (omega arith)
            | inr other ↦ rw (new, other) (omega arith)
          ]
    ]

place_of_head : (bytes : List ℕ) (end : ℕ) → place (head_at bytes end) ≤ end
unfolding head_at
place_of_head bytes end =
    elim (cases_Bool (nat_lt end 24)) [
      | inl short ↦ rw short (omega arith)
      | inr long ↦
          let h = ltb-false end 24 long in
          let r = rest_inside bytes (magic (big_4 bytes 0)) in
          rw long (omega (arith, h, r))
    ]

pub head_fault_inside : (bytes : List ℕ) (end : ℕ) (f : Fault) → head_at bytes end ≡ Err f → f.at ≤ end
head_fault_inside bytes end f e =
    let p = fault_place (head_at bytes end) f e in
    let h = place_of_head bytes end in
    omega (arith, p, h)

place_of_packet : (c : Capture) (bytes : List ℕ) (end : ℕ) → place (packet_at c bytes 0 end) ≤ end
unfolding packet_at
place_of_packet c bytes end =
    elim (cases_Bool (nat_lt (end - 0) 16)) [
      | inl short ↦ rw short (omega arith)
      | inr head ↦
          let h = ltb-false (end - 0) 16 head in
          elim (cases_Bool (nat_lt 262144 (four c.order bytes (0 + 8)))) [
            | inl large ↦ rw (head, large) (omega (arith, h))
            | inr small ↦
                elim (cases_Bool (nat_lt (end - (0 + 16)) (four c.order bytes (0 + 8)))) [
                  | inl short ↦ rw (head, small, short) (omega arith)
                  | inr whole ↦ rw (head, small, whole) (omega arith)
                ]
          ]
    ]

pub packet_fault_inside : (c : Capture) (bytes : List ℕ) (end : ℕ) (f : Fault) → packet_at c bytes 0 end ≡ Err f → f.at ≤ end
packet_fault_inside c bytes end f e =
    let p = fault_place (packet_at c bytes 0 end) f e in
    let h = place_of_packet c bytes end in
    omega (arith, p, h)
