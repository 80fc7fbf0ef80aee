-- What more bytes leave as it was.
use Rattle.std.proofs.Common.{◌≡◌, ◌∙◌, ℕ, ◌+◌, ◌-◌, ◌<◌, ◌≤◌, true, false, List, ◌++◌, length, Result, Ok, Err, refl, sym, ap, inl, inr, arith}
use Rattle.std.specs.Prelude.{nat_lt, Option, Some, None}
use Rattle.std.proofs.lemmas.Bool.{cases_Bool, ltb-false, le-ltb, false≢true}
use Rattle.std.proofs.lemmas.List.{get_or_append_left, length-append}
use Rattle.dfr_bus.specs.declared.fault.Fault.{Fault}
use Rattle.dfr_bus.specs.declared.fault.Wrong.TheVariants.{CutShort, Packet}
use Rattle.dfr_bus.specs.declared.capture.Capture.{Capture}
use Rattle.dfr_bus.specs.declared.capture.Order.{Order}
use Rattle.dfr_bus.specs.declared.capture.Order.TheVariants.{Big, Little}
use Rattle.dfr_bus.specs.declared.capture.Packet as packet
use Rattle.dfr_bus.specs.Bytes.{byte, big_4}
use Rattle.dfr_bus.specs.Readings.{fault}
use Rattle.dfr_bus.specs.Captures.{two, four, magic, rest_of_head, head_at, packet_at}
use Rattle.dfr_pcap.specs.Wholes.{is_cut}
use Rattle.dfr_pcap.proofs.Moved.{made}

byte_stays : (came more : List ℕ) (k : ℕ) → k < length came → byte (came ++ more) k ≡ byte came k
byte_stays came more k lt = get_or_append_left came more 0 k lt

two_stays : (o : Order) (came more : List ℕ) (k : ℕ) → k + 2 ≤ length came → two o (came ++ more) k ≡ two o came k
two_stays Big came more k le =
    rw (byte_stays came more k (omega (arith, le)), byte_stays came more (k + 1) (omega (arith, le))) refl
two_stays Little came more k le =
    rw (byte_stays came more k (omega (arith, le)), byte_stays came more (k + 1) (omega (arith, le))) refl

four_stays : (o : Order) (came more : List ℕ) (k : ℕ) → k + 4 ≤ length came → four o (came ++ more) k ≡ four o came k
four_stays Big came more k le =
    rw (
      byte_stays came more k (omega (arith, le)),
      byte_stays came more (k + 1) (omega (arith, le)),
      byte_stays came more (k + 2) (omega (arith, le)),
      byte_stays came more (k + 2 + 1) (omega (arith, le)),
    ) refl
four_stays Little came more k le =
    rw (
      byte_stays came more k (omega (arith, le)),
      byte_stays came more (k + 1) (omega (arith, le)),
      byte_stays came more (k + 2) (omega (arith, le)),
      byte_stays came more (k + 2 + 1) (omega (arith, le)),
    ) refl

rest_stays : (came more : List ℕ) (o : Option Capture) → 24 ≤ length came → rest_of_head (came ++ more) o ≡ rest_of_head came o
unfolding rest_of_head
rest_stays came more None le = refl
rest_stays came more (Some c) le =
    rw (
      two_stays c.order came more 4 (omega (arith, le)),
      two_stays c.order came more 6 (omega (arith, le)),
      four_stays c.order came more 20 (omega (arith, le)),
    ) refl

pub head_stays : (came more : List ℕ) → is_cut (head_at came (length came)) ≡ false → head_at (came ++ more) (length (came ++ more)) ≡ head_at came (length came)
unfolding head_at
head_stays came more whole =
    elim (cases_Bool (nat_lt (length came) 24)) [
      | inl short ↦
          let a : head_at came (length came) ≡ Err (fault (length came) CutShort) = rw short refl in
          let cut : is_cut (head_at came (length came)) ≡ true = ap (λ (r : Result Capture Fault). is_cut r) a in
          absurd (false≢true (sym whole ∙ cut))
      | inr long ↦
          let le : 24 ≤ length came = ltb-false (length came) 24 long in
          let n : length (came ++ more) ≡ length came + length more = length-append came more in
          let longer : nat_lt (length (came ++ more)) 24 ≡ false = le-ltb (length (came ++ more)) 24 (omega (arith, n, le)) in
          let first : big_4 (came ++ more) 0 ≡ big_4 came 0 = four_stays Big came more 0 (omega (arith, le)) in
          let a : head_at came (length came) ≡ rest_of_head came (magic (big_4 came 0)) = rw long refl in
          let b : head_at (came ++ more) (length (came ++ more)) ≡ rest_of_head (came ++ more) (magic (big_4 (came ++ more) 0)) = rw longer refl in
          b ∙ ap (λ (x : ℕ). rest_of_head (came ++ more) (magic x)) first ∙ rest_stays came more (magic (big_4 came 0)) le ∙ sym a
    ]

same : (c : Capture) (at s f l k t g m j : ℕ) → s ≡ t → f ≡ g → l ≡ m → k ≡ j
    → ◌≡◌ {A = Result packet.Packet Fault} (Ok (made c at s f l k)) (Ok (made c at t g m j))
same c at s f l k t g m j es ef el ek = rw (es, ef, el, ek) refl

pub packet_stays : (c : Capture) (came more : List ℕ) (at : ℕ) → is_cut (packet_at c came at (length came)) ≡ false
    → packet_at c (came ++ more) at (length (came ++ more)) ≡ packet_at c came at (length came)
unfolding packet_at
packet_stays c came more at whole =
    let o = c.order in
    let all = came ++ more in
    let n : length all ≡ length came + length more = length-append came more in
    elim (cases_Bool (nat_lt (length came - at) 16)) [
      | inl short ↦
          let a : packet_at c came at (length came) ≡ Err (fault (length came) CutShort) = rw short refl in
          let cut : is_cut (packet_at c came at (length came)) ≡ true = ap (λ (r : Result packet.Packet Fault). is_cut r) a in
          absurd (false≢true (sym whole ∙ cut))
      | inr head ↦
          let le : 16 ≤ length came - at = ltb-false (length came - at) 16 head in
          let head_2 : nat_lt (length all - at) 16 ≡ false = le-ltb (length all - at) 16 (omega (arith, n, le)) in
          let e0 : four o all at ≡ four o came at = four_stays o came more at (omega (arith, le)) in
          let e4 : four o all (at + 4) ≡ four o came (at + 4) = four_stays o came more (at + 4) (omega (arith, le)) in
          let e8 : four o all (at + 8) ≡ four o came (at + 8) = four_stays o came more (at + 8) (omega (arith, le)) in
          let e12 : four o all (at + 12) ≡ four o came (at + 12) = four_stays o came more (at + 12) (omega (arith, le)) in
          elim (cases_Bool (nat_lt 262144 (four o came (at + 8)))) [
            | inl large ↦
                let large_2 : nat_lt 262144 (four o all (at + 8)) ≡ true = ap (λ (x : ℕ). nat_lt 262144 x) e8 ∙ large in
                let a : packet_at c came at (length came) ≡ Err (fault (at + 8) Packet) = rw (head, large) refl in
                let b : packet_at c all at (length all) ≡ Err (fault (at + 8) Packet) = rw (head_2, large_2) refl in
                b ∙ sym a
            | inr small ↦
                let small_2 : nat_lt 262144 (four o all (at + 8)) ≡ false = ap (λ (x : ℕ). nat_lt 262144 x) e8 ∙ small in
                elim (cases_Bool (nat_lt (length came - (at + 16)) (four o came (at + 8)))) [
                  | inl short ↦
                      let a : packet_at c came at (length came) ≡ Err (fault (length came) CutShort) = rw (head, small, short) refl in
                      let cut : is_cut (packet_at c came at (length came)) ≡ true = ap (λ (r : Result packet.Packet Fault). is_cut r) a in
                      absurd (false≢true (sym whole ∙ cut))
                  | inr room ↦
                      let fits : four o came (at + 8) ≤ length came - (at + 16) = ltb-false (length came - (at + 16)) (four o came (at + 8)) room in
                      let room_2 : nat_lt (length all - (at + 16)) (four o all (at + 8)) ≡ false =
                      le-ltb (length all - (at + 16)) (four o all (at + 8)) (omega (arith, n, fits, e8)) in
                      let a : packet_at c came at (length came) ≡ Ok (made c at (four o came at) (four o came (at + 4)) (four o came (at + 12)) (four o came (at + 8))) =
                      rw (head, small, room) refl in
                      let b : packet_at c all at (length all) ≡ Ok (made c at (four o all at) (four o all (at + 4)) (four o all (at + 12)) (four o all (at + 8))) =
                      rw (head_2, small_2, room_2) refl in
                      b ∙ same c at _ _ _ _ _ _ _ _ e0 e4 e12 e8 ∙ sym a
                ]
          ]
    ]
