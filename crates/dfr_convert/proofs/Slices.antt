-- The bytes of packets: of what is left, and of the whole; and where more bytes come.
use Rattle.std.proofs.Common.{◌≡◌, ◌∙◌, ℕ, ◌+◌, ◌-◌, ◌≤◌, false, List, [], ◌∷◌, ◌++◌, length, take, drop, Result, Ok, refl, ap, inl, inr, arith}
use Rattle.std.specs.Prelude.{nat_lt, slice_range}
use Rattle.std.proofs.lemmas.Bool.{cases_Bool, ltb-false}
use Rattle.std.proofs.lemmas.List.{drop-drop, drop-append-le, take-append-le, length-drop}
use Rattle.dfr_bus.specs.declared.fault.Fault.{Fault}
use Rattle.dfr_bus.specs.declared.fault.Wrong.TheVariants.{CutShort, Packet}
use Rattle.dfr_bus.specs.declared.capture.Capture.{Capture}
use Rattle.dfr_bus.specs.declared.capture.Packet as packet
use Rattle.dfr_bus.specs.Readings.{fault}
use Rattle.dfr_bus.specs.Captures.{four, packet_at}
use Rattle.dfr_bus.proofs.ElementsRead.{no_value, same_value}
use Rattle.dfr_pcap.proofs.Moved.{made}
use Rattle.dfr_pcap.proofs.More.{packet_stays}
use Rattle.dfr_pcap.specs.Wholes.{is_cut}
use Rattle.dfr_convert.specs.Conversions.{ArePast, frame_of, frames_of}

-- a part of what is left
pub slice_moved : (came : List ℕ) (at from to : ℕ) → slice_range (drop at came) from to ≡ slice_range came (at + from) (at + to)
slice_moved came at from to =
    let size : to - from ≡ at + to - (at + from) = omega arith in
    ap (λ (n : ℕ). take n (drop from (drop at came))) size ∙ ap (λ (b : List ℕ). take (at + to - (at + from)) b) (drop-drop from at came)

-- a part stays where more bytes come
slice_stays : (came piece : List ℕ) (from to : ℕ) → from ≤ length came → to ≤ length came → slice_range (came ++ piece) from to ≡ slice_range came from to
slice_stays came piece from to le fits =
    let n = length-drop from came in
    ap (λ (b : List ℕ). take (to - from) b) (drop-append-le from came piece le)
    ∙ take-append-le (to - from) (drop from came) piece (omega (arith, n, le, fits))

-- a packet lies within the bytes
packet_inside : (c : Capture) (bytes : List ℕ) (at end : ℕ) (p : packet.Packet) → packet_at c bytes at end ≡ Ok p → (p.content.from ≤ end) × (p.content.to ≤ end)
unfolding packet_at
packet_inside c bytes at end p h =
    elim (cases_Bool (nat_lt (end - at) 16)) [
      | inl short ↦ absurd (no_value (fault end CutShort) p (rw short at h))
      | inr head ↦
          elim (cases_Bool (nat_lt 262144 (four c.order bytes (at + 8)))) [
            | inl large ↦ absurd (no_value (fault (at + 8) Packet) p (rw (head, large) at h))
            | inr small ↦
                elim (cases_Bool (nat_lt (end - (at + 16)) (four c.order bytes (at + 8)))) [
                  | inl short ↦ absurd (no_value (fault end CutShort) p (rw (head, small, short) at h))
                  | inr whole ↦
                      let k = four c.order bytes (at + 8) in
                      let q = made c at (four c.order bytes at) (four c.order bytes (at + 4)) (four c.order bytes (at + 12)) k in
                      let taken : ◌≡◌ {A = Result packet.Packet Fault} (Ok q) (Ok p) = rw (head, small, whole) at h in
                      let e : q ≡ p = same_value q p taken in
                      let from : at + 16 ≡ p.content.from = ap (λ (r : packet.Packet). r.content.from) e in
                      let to : at + 16 + k ≡ p.content.to = ap (λ (r : packet.Packet). r.content.to) e in
                      let room : 16 ≤ end - at = ltb-false (end - at) 16 head in
                      let fits : k ≤ end - (at + 16) = ltb-false (end - (at + 16)) k whole in
                      (omega (arith, from, room), omega (arith, to, room, fits))
                ]
          ]
    ]

frame_stays : (c : Capture) (came piece : List ℕ) (at : ℕ) (p : packet.Packet) → packet_at c came at (length came) ≡ Ok p → frame_of (came ++ piece) p ≡ frame_of came p
frame_stays c came piece at p h =
    let i = packet_inside c came at (length came) p h in
    rw (slice_stays came piece p.content.from p.content.to i.0 i.1) refl

pub past_stays : (c : Capture) (came piece : List ℕ) (at : ℕ) (past : List packet.Packet) → ArePast c came at past → ArePast c (came ++ piece) at past
past_stays c came piece at [] h = h
past_stays c came piece at (p ∷ past) h =
    let whole : is_cut (packet_at c came h.0 (length came)) ≡ false = ap (λ (r : Result packet.Packet Fault). is_cut r) h.1 in
    (h.0, packet_stays c came piece h.0 whole ∙ h.1, h.2, past_stays c came piece h.0 past h.3)

pub frames_stay : (c : Capture) (came piece : List ℕ) (at : ℕ) (past : List packet.Packet) → ArePast c came at past → frames_of (came ++ piece) past ≡ frames_of came past
frames_stay c came piece at [] h = refl
frames_stay c came piece at (p ∷ past) h =
    rw (frame_stays c came piece h.0 p h.1, frames_stay c came piece h.0 past h.3) refl
