-- The same bytes at another place: those of a capture, and those that are left of it.
use Rattle.std.proofs.Common.{◌≡◌, ◌∙◌, ℕ, ◌+◌, ◌-◌, ◌*◌, ◌≤◌, true, false, List, length, drop, Result, Ok, Err, refl, sym, ap, inl, inr, arith}
use Rattle.std.specs.Prelude.{nat_lt}
use Rattle.std.proofs.lemmas.Bool.{cases_Bool}
use Rattle.std.proofs.lemmas.List.{get_or-drop, length-drop}
use Rattle.dfr_bus.specs.declared.fault.Fault.{Fault}
use Rattle.dfr_bus.specs.declared.fault.Wrong.TheVariants.{CutShort, Packet}
use Rattle.dfr_bus.specs.declared.capture.Capture.{Capture}
use Rattle.dfr_bus.specs.declared.capture.Order.{Order}
use Rattle.dfr_bus.specs.declared.capture.Order.TheVariants.{Big, Little}
use Rattle.dfr_bus.specs.declared.capture.Packet as packet
use Rattle.dfr_bus.specs.Bytes.{byte}
use Rattle.dfr_bus.specs.Readings.{fault}
use Rattle.dfr_bus.specs.Captures.{four, nanoseconds, packet_at}

byte_moved : (came : List ℕ) (at k n : ℕ) → at + k ≡ n → byte (drop at came) k ≡ byte came n
byte_moved came at k n e = get_or-drop at came k 0 ∙ ap (λ (i : ℕ). byte came i) e

four_moved : (o : Order) (came : List ℕ) (at k n : ℕ) → at + k ≡ n → four o (drop at came) k ≡ four o came n
four_moved Big came at k n e =
    rw (
      byte_moved came at k n e,
      byte_moved came at (k + 1) (n + 1) (omega (arith, e)),
      byte_moved came at (k + 2) (n + 2) (omega (arith, e)),
      byte_moved came at (k + 2 + 1) (n + 2 + 1) (omega (arith, e)),
    ) refl
four_moved Little came at k n e =
    rw (
      byte_moved came at k n e,
      byte_moved came at (k + 1) (n + 1) (omega (arith, e)),
      byte_moved came at (k + 2) (n + 2) (omega (arith, e)),
      byte_moved came at (k + 2 + 1) (n + 2 + 1) (omega (arith, e)),
    ) refl

-- a packet whose places are counted from `at`, and a reading of it
abbrev pub forth : (at : ℕ) → packet.Packet → packet.Packet
forth at p = record p { content = record { from = at + p.content.from; to = at + p.content.to } }

abbrev pub moved : (at : ℕ) → Result packet.Packet Fault → Result packet.Packet Fault
moved at (Ok p) = Ok (forth at p)
moved at (Err f) = Err (fault (at + f.at) f.wrong)

-- a packet with these numbers in its head
abbrev pub made : Capture → (at s f l k : ℕ) → packet.Packet
made c at s f l k = record { seconds = s; nanoseconds = f * nanoseconds c.unit; length = l; content = record { from = at + 16; to = at + 16 + k } }

cut_same : (a b : ℕ) → a ≡ b → ◌≡◌ {A = Result packet.Packet Fault} (Err (fault a CutShort)) (Err (fault b CutShort))
cut_same a b e = ap (λ (x : ℕ). Err (fault x CutShort)) e

made_same : (c : Capture) (at s f l k t g m j : ℕ) → s ≡ t → f ≡ g → l ≡ m → k ≡ j
    → ◌≡◌ {A = Result packet.Packet Fault} (Ok (made c at t g m j)) (moved at (Ok (made c 0 s f l k)))
made_same c at s f l k t g m j es ef el ek =
    let to : at + 16 + k ≡ at + (0 + 16 + k) = omega arith in
    rw (← es, ← ef, ← el, ← ek, to) refl

pub packet_moved : (c : Capture) (came : List ℕ) (at : ℕ) → at ≤ length came
    → packet_at c came at (length came) ≡ moved at (packet_at c (drop at came) 0 (length (drop at came)))
unfolding packet_at
packet_moved c came at le =
    let n : length (drop at came) ≡ length came - at = length-drop at came in
    let none : length (drop at came) - 0 ≡ length came - at = omega (arith, n) in
    let end : length came ≡ at + length (drop at came) = omega (arith, n, le) in
    let k = four c.order came (at + 8) in
    let e8 : four c.order (drop at came) (0 + 8) ≡ k = four_moved c.order came at 8 (at + 8) refl in
    elim (cases_Bool (nat_lt (length came - at) 16)) [
      | inl short ↦
          let inner : nat_lt (length (drop at came) - 0) 16 ≡ true = ap (λ (x : ℕ). nat_lt x 16) none ∙ short in
          let a : packet_at c came at (length came) ≡ Err (fault (length came) CutShort) = rw short refl in
          let b : packet_at c (drop at came) 0 (length (drop at came)) ≡ Err (fault (length (drop at came)) CutShort) = rw inner refl in
          a ∙ cut_same (length came) (at + length (drop at came)) end ∙ sym (ap (λ (r : Result packet.Packet Fault). moved at r) b)
      | inr head ↦
          let inner : nat_lt (length (drop at came) - 0) 16 ≡ false = ap (λ (x : ℕ). nat_lt x 16) none ∙ head in
          elim (cases_Bool (nat_lt 262144 k)) [
            | inl large ↦
                let inner_2 : nat_lt 262144 (four c.order (drop at came) (0 + 8)) ≡ true = ap (λ (x : ℕ). nat_lt 262144 x) e8 ∙ large in
                let a : packet_at c came at (length came) ≡ Err (fault (at + 8) Packet) = rw (head, large) refl in
                let b : packet_at c (drop at came) 0 (length (drop at came)) ≡ Err (fault (0 + 8) Packet) = rw (inner, inner_2) refl in
                a ∙ sym (ap (λ (r : Result packet.Packet Fault). moved at r) b)
            | inr small ↦
                let inner_2 : nat_lt 262144 (four c.order (drop at came) (0 + 8)) ≡ false = ap (λ (x : ℕ). nat_lt 262144 x) e8 ∙ small in
                let room : length (drop at came) - (0 + 16) ≡ length came - (at + 16) = omega (arith, n) in
                let both : nat_lt (length (drop at came) - (0 + 16)) (four c.order (drop at came) (0 + 8)) ≡ nat_lt (length came - (at + 16)) k =
                ap (λ (x : ℕ). nat_lt x (four c.order (drop at came) (0 + 8))) room ∙ ap (λ (x : ℕ). nat_lt (length came - (at + 16)) x) e8 in
                elim (cases_Bool (nat_lt (length came - (at + 16)) k)) [
                  | inl short ↦
                      let a : packet_at c came at (length came) ≡ Err (fault (length came) CutShort) = rw (head, small, short) refl in
                      let b : packet_at c (drop at came) 0 (length (drop at came)) ≡ Err (fault (length (drop at came)) CutShort) =
                      rw (inner, inner_2, both ∙ short) refl in
                      a ∙ cut_same (length came) (at + length (drop at came)) end ∙ sym (ap (λ (r : Result packet.Packet Fault). moved at r) b)
                  | inr whole ↦
                      let d = drop at came in
                      let o = c.order in
                      let a : packet_at c came at (length came) ≡ Ok (made c at (four o came at) (four o came (at + 4)) (four o came (at + 12)) k) =
                      rw (head, small, whole) refl in
                      let b : packet_at c d 0 (length d) ≡ Ok (made c 0 (four o d 0) (four o d (0 + 4)) (four o d (0 + 12)) (four o d (0 + 8))) =
                      rw (inner, inner_2, both ∙ whole) refl in
                      a ∙ made_same c at (four o d 0) (four o d (0 + 4)) (four o d (0 + 12)) (four o d (0 + 8))
                      (four o came at) (four o came (at + 4)) (four o came (at + 12)) k
                      (four_moved o came at 0 at (omega arith)) (four_moved o came at 4 (at + 4) refl) (four_moved o came at 12 (at + 12) refl) e8
                      ∙ sym (ap (λ (r : Result packet.Packet Fault). moved at r) b)
                ]
          ]
    ]
