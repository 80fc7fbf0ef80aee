-- Pieces of a whole capture.
use Rattle.std.proofs.Common.{◌≡◌, ◌∙◌, ℕ, ◌+◌, ◌-◌, ◌≤◌, List, [], ◌++◌, length, drop, Option, Some, None, Result, Ok, Err, refl, sym, ap, subst, arith}
use Rattle.std.proofs.lemmas.List.{drop-drop, drop-append-le, length-drop, length-append}
use Rattle.dfr_bus.specs.declared.fault.Fault.{Fault}
use Rattle.dfr_bus.specs.declared.capture.Capture.{Capture}
use Rattle.dfr_bus.specs.declared.capture.Packet as packet
use Rattle.dfr_bus.specs.Captures.{head_at}
use Rattle.dfr_pcap.specs.declared.pieces.Step.TheVariants as steps
use Rattle.dfr_pcap.specs.Pieces.{PiecesParts, some_of, with_head, begun_by, begun, added, passed, packet_in, packet_step, step_in, step, of_packet}
use Rattle.dfr_pcap.specs.Wholes.{IsHead, IsOf, is_cut, of_whole, step_at}
use Rattle.dfr_pcap.proofs.Heads.{head_long}
use Rattle.dfr_pcap.proofs.Moved.{moved, packet_moved}
use Rattle.dfr_pcap.proofs.More.{head_stays}

drop_before : (n : ℕ) (came piece : List ℕ) → n ≤ length came → drop n came ++ piece ≡ drop n (came ++ piece)
drop_before n came piece le = sym (drop-append-le n came piece le)

head_of_more : (came piece : List ℕ) (n : ℕ) (o : Option Capture) → IsHead came n o → IsHead (came ++ piece) n o
head_of_more came piece n None h = h
head_of_more came piece n (Some c) h = head_stays came piece (ap (λ (r : Result Capture Fault). is_cut r) h) ∙ h

pub is_new : IsOf [] (record { capture = None; passed = 0; bytes = [] })
is_new = record { within = omega arith; left = refl; head = refl }

pub is_added : (came piece : List ℕ) (p : PiecesParts) → IsOf came p → IsOf (came ++ piece) (added piece p)
is_added came piece p so = record {
  within = omega (arith, so.within, length-append came piece);
  left = ap (λ (b : List ℕ). b ++ piece) so.left ∙ drop_before p.passed came piece so.within;
  head = head_of_more came piece p.passed p.capture so.head;
}

-- so many bytes of what is left
pub is_passed : (came : List ℕ) (p : PiecesParts) (n : ℕ) → n ≤ length p.bytes → IsHead came (p.passed + n) p.capture → IsOf came p → IsOf came (passed n p)
is_passed came p n le head so =
    let long : length p.bytes ≡ length came - p.passed = ap (λ (b : List ℕ). length b) so.left ∙ length-drop p.passed came in
    record {
      within = omega (arith, so.within, long, le);
      left = ap (λ (b : List ℕ). drop n b) so.left ∙ drop-drop n p.passed came;
      head = head;
    }

abbrev NoneOnly : Option Capture → Type 0
NoneOnly None = Unit {0}
NoneOnly (Some c) = ⊥

some_is : (c : Capture) → ◌≡◌ {A = Option Capture} None (Some c) → ⊥
some_is c e = let P : Option Capture → Type 0 = λ o. NoneOnly o in subst P e tt

head_anywhere : (came : List ℕ) (m n : ℕ) (o : Option Capture) (c : Capture) → o ≡ Some c → IsHead came m o → IsHead came n o
head_anywhere came m n None c e h = absurd (some_is c e)
head_anywhere came m n (Some d) c e h = h

pub is_passed_on : (came : List ℕ) (p : PiecesParts) (c : Capture) (n : ℕ) → n ≤ length p.bytes → p.capture ≡ Some c → IsOf came p → IsOf came (passed n p)
is_passed_on came p c n le e so = is_passed came p n le (head_anywhere came p.passed (p.passed + n) p.capture c e so.head) so

-- the head that the pieces read is that of the whole capture
begun_with : (came : List ℕ) (p : PiecesParts) (r : Result Capture Fault) → head_at p.bytes (length p.bytes) ≡ r → p.capture ≡ None → IsOf came p
    → IsOf came (with_head p (some_of r))
begun_with came p (Err f) h e so = so
begun_with came p (Ok c) h e so =
    let none : p.passed ≡ 0 = subst (λ (o : Option Capture). IsHead came p.passed o) e so.head in
    let same : p.bytes ≡ came = so.left ∙ ap (λ (n : ℕ). drop n came) none in
    let is : head_at came (length came) ≡ Ok c = subst (λ (b : List ℕ). head_at b (length b) ≡ Ok c) same h in
    let long : 24 ≤ length p.bytes = head_long p.bytes (length p.bytes) c h in
    let at : length p.bytes ≡ length came - p.passed = ap (λ (b : List ℕ). length b) so.left ∙ length-drop p.passed came in
    record {
      within = omega (arith, so.within, at, long);
      left = ap (λ (b : List ℕ). drop 24 b) so.left ∙ drop-drop 24 p.passed came;
      head = is;
    }

begun_of : (came : List ℕ) (p : PiecesParts) (o : Option Capture) → p.capture ≡ o → IsOf came p → IsOf came (begun_by p o)
begun_of came p None e so = begun_with came p (head_at p.bytes (length p.bytes)) refl e so
begun_of came p (Some c) e so = so

pub is_begun : (came : List ℕ) (p : PiecesParts) → IsOf came p → IsOf came (begun p)
is_begun came p so = begun_of came p p.capture refl so

content_is : (p : packet.Packet) (a b : ℕ) → p.content.from ≡ a → p.content.to ≡ b → p ≡ record p { content = record { from = a; to = b } }
content_is p a b e f = rw (← e, ← f) refl

-- a packet of what is left is one of the whole, its places counted from there
back_forth : (at : ℕ) (r : Result packet.Packet Fault) → of_packet at r ≡ of_whole at (moved at r)
back_forth at (Ok p) =
    let from : p.content.from ≡ at + p.content.from - at = omega arith in
    let to : p.content.to ≡ at + p.content.to - at = omega arith in
    ap (λ (q : packet.Packet). steps.Packet q) (content_is p (at + p.content.from - at) (at + p.content.to - at) from to)
back_forth at (Err f) = refl

step_of_parts : (came : List ℕ) (p : PiecesParts) (o : Option Capture) → p.capture ≡ o → IsOf came p → step_in p.passed o p.bytes ≡ step_at came o p.passed
step_of_parts came p None e so =
    let none : p.passed ≡ 0 = subst (λ (o : Option Capture). IsHead came p.passed o) e so.head in
    let same : p.bytes ≡ came = so.left ∙ ap (λ (n : ℕ). drop n came) none in
    ap (λ (n : ℕ). step_in n None p.bytes) none ∙ ap (λ (b : List ℕ). step_in 0 None b) same
step_of_parts came p (Some c) e so =
    ap (λ (b : List ℕ). packet_step p.passed c b) so.left
    ∙ back_forth p.passed (packet_in c (drop p.passed came))
    ∙ ap (λ (r : Result packet.Packet Fault). of_whole p.passed r) (sym (packet_moved c came p.passed so.within))

pub is_step : (came : List ℕ) (p : PiecesParts) → IsOf came p → step p ≡ step_at came p.capture p.passed
is_step came p so = step_of_parts came p p.capture refl so
