-- A capture has one list of packets.
use Rattle.std.proofs.Common.{◌≡◌, ℕ, ◌+◌, ◌-◌, ◌<◌, ◌≤◌, Bool, true, false, List, [], ◌∷◌, Result, Ok, Err, refl, sym, ap, ◌∙◌, subst, arith}
use Rattle.std.specs.Prelude.{nat_lt}
use Rattle.std.proofs.lemmas.Bool.{lt-ltb}
use Rattle.dfr_bus.specs.declared.fault.Fault.{Fault}
use Rattle.dfr_bus.specs.declared.fault.Wrong.TheVariants.{CutShort}
use Rattle.dfr_bus.specs.declared.capture.Capture.{Capture}
use Rattle.dfr_bus.specs.declared.capture.Packet as packet
use Rattle.dfr_bus.specs.Readings.{fault}
use Rattle.dfr_bus.specs.Captures.{packet_at, ArePackets}
use Rattle.dfr_bus.proofs.ElementsRead.{no_value, same_value}

-- at the end there is no packet
none_at_end : (c : Capture) (bytes : List ℕ) (at end : ℕ) (p : packet.Packet) → at ≡ end → packet_at c bytes at end ≡ Ok p → ⊥
unfolding packet_at
none_at_end c bytes at end p same h =
    let short : nat_lt (end - at) 16 ≡ true = lt-ltb (end - at) 16 (omega (arith, same)) in
    no_value (fault end CutShort) p (rw short at h)

pub packets_once : (c : Capture) (bytes : List ℕ) (at end : ℕ) (ps qs : List packet.Packet) → ArePackets c bytes at end ps → ArePackets c bytes at end qs → ps ≡ qs
packets_once c bytes at end [] [] h k = refl
packets_once c bytes at end [] (q ∷ qs) h k = absurd (none_at_end c bytes at end q h k.0)
packets_once c bytes at end (p ∷ ps) [] h k = absurd (none_at_end c bytes at end p k h.0)
packets_once c bytes at end (p ∷ ps) (q ∷ qs) h k =
    let e : p ≡ q = same_value p q (sym h.0 ∙ k.0) in
    let At : packet.Packet → Type 0 = λ r. ArePackets c bytes r.content.to end qs in
    let rest : ps ≡ qs = packets_once c bytes p.content.to end ps qs h.1 (subst At (sym e) k.1) in
    ap (λ r. r ∷ ps) e ∙ ap (λ rs. q ∷ rs) rest
