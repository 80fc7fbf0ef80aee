-- One packet more.
use Rattle.std.proofs.Common.{◌≡◌, ℕ, ◌+◌, ◌-◌, ◌*◌, ◌≤◌, List, [], ◌∷◌, map, length, Option, None, Result, Ok, refl, sym, ap, subst, ◌∙◌, inl, inr, arith}
use Rattle.std.specs.Prelude.{nat_lt, slice_range}
use Rattle.std.proofs.lemmas.Bool.{cases_Bool, ltb-false}
use Rattle.dfr_bus.specs.declared.fault.Fault.{Fault}
use Rattle.dfr_bus.specs.declared.fault.Wrong.TheVariants.{CutShort, Packet}
use Rattle.dfr_bus.specs.declared.capture.Capture.{Capture}
use Rattle.dfr_bus.specs.declared.capture.Packet as packet
use Rattle.dfr_bus.specs.Readings.{fault}
use Rattle.dfr_bus.specs.Captures.{four, nanoseconds, packet_at, head_at}
use Rattle.dfr_bus.proofs.ElementsRead.{no_value, same_value}
use Rattle.dfr_look.specs.Looks.{Came, Seen, blank, look, IsLook}
use Rattle.dfr_look.specs.Throughs.{time_of, came, with_time, times_of, IsSoFar}

-- a packet that is read at `at`
abbrev made : Capture → (bytes : List ℕ) (at : ℕ) → packet.Packet
made c bytes at = record {
  seconds = four c.order bytes at;
  nanoseconds = four c.order bytes (at + 4) * nanoseconds c.unit;
  length = four c.order bytes (at + 12);
  content = record { from = at + 16; to = at + 16 + four c.order bytes (at + 8) };
}

-- its content begins after a head of 16 bytes
begins : (c : Capture) (bytes : List ℕ) (at end : ℕ) (p : packet.Packet) → packet_at c bytes at end ≡ Ok p → at + 16 ≡ p.content.from
unfolding packet_at
begins c bytes at end p h =
    elim (cases_Bool (nat_lt (end - at) 16)) [
      | inl short ↦ absurd (no_value (fault end CutShort) p (rw short at h))
      | inr head ↦
          elim (cases_Bool (nat_lt 262144 (four c.order bytes (at + 8)))) [
            | inl large ↦ absurd (no_value (fault (at + 8) Packet) p (rw (head, large) at h))
            | inr small ↦
                elim (cases_Bool (nat_lt (end - (at + 16)) (four c.order bytes (at + 8)))) [
                  | inl short ↦ absurd (no_value (fault end CutShort) p (rw (head, small, short) at h))
                  | inr whole ↦
                      let taken : ◌≡◌ {A = Result packet.Packet Fault} (Ok (made c bytes at)) (Ok p) = rw (head, small, whole) at h in
                      ap (λ (q : packet.Packet). q.content.from) (same_value (made c bytes at) p taken)
                ]
          ]
    ]

-- a packet that came then
abbrev came_at : (bytes : List ℕ) → packet.Packet → ℕ → Came
came_at bytes p t = record { bytes = slice_range bytes p.content.from p.content.to; time = t }

-- before the first packet
pub none_yet : (c : Capture) (bytes : List ℕ) (seen : Seen) → seen ≡ blank → IsSoFar c bytes 24 seen None
unfolding look
none_yet c bytes seen e = ([], refl, sym e, refl)

pub one_more : (c : Capture) (bytes : List ℕ) (at : ℕ) (p : packet.Packet) (seen new : Seen) (times more : Option (ℕ × ℕ)) (time : ℕ)
    → packet_at c bytes at (length bytes) ≡ Ok p → IsSoFar c bytes at seen times → time ≡ time_of p → more ≡ with_time time times
    → IsLook seen (slice_range bytes p.content.from p.content.to) time new → IsSoFar c bytes p.content.to new more
one_more c bytes at p seen new times more time h so is grown taken =
    let e = begins c bytes at (length bytes) p h in
    let back : p.content.from - 16 ≡ at = omega (arith, e) in
    let Gives : ℕ → Type 0 = λ t. look (came_at bytes p t ∷ map (came bytes) so.0) ≡ new in
    let gone : times_of (p ∷ so.0) ≡ more = ap (λ t. with_time (time_of p) t) so.3 ∙ ap (λ (t : ℕ). with_time t times) (sym is) ∙ sym grown in
    (p ∷ so.0, (refl, rw back h, rw back so.1), subst Gives is (taken (map (came bytes) so.0) so.2), gone)

-- a capture with a head has its bytes
pub head_long : (bytes : List ℕ) (end : ℕ) (c : Capture) → head_at bytes end ≡ Ok c → 24 ≤ end
unfolding head_at
head_long bytes end c h =
    elim (cases_Bool (nat_lt end 24)) [
      | inl short ↦ absurd (no_value (fault end CutShort) c (rw short at h))
      | inr long ↦ ltb-false end 24 long
    ]
