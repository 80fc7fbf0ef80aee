-- Packets more.
use Rattle.std.proofs.Common.{◌≡◌, ◌∙◌, ℕ, ◌+◌, ◌*◌, ◌^◌, ◌≤◌, List, [], ◌∷◌, ◌++◌, length, drop, Option, Some, None, Result, Ok, Err, refl, sym, ap, subst, append_assoc, append-nil, inl, inr}
use Rattle.std.specs.Prelude.{slice_range, nat_lt, if◌then◌else◌}
use Rattle.std.proofs.lemmas.Bool.{cases_Bool}
use Rattle.dfr_bus.specs.declared.fault.Fault.{Fault}
use Rattle.dfr_bus.specs.declared.fault.Wrong.{Wrong}
use Rattle.dfr_bus.specs.declared.fault.Wrong.TheVariants as wrong
use Rattle.dfr_bus.specs.declared.capture.Capture.{Capture}
use Rattle.dfr_bus.specs.declared.capture.Packet as packet
use Rattle.dfr_bus.specs.Captures.{packet_at, head_at}
use Rattle.dfr_bay.specs.Waiting.{Grows}
use Rattle.dfr_pcap.specs.declared.pieces.Step as step_of
use Rattle.dfr_pcap.specs.declared.pieces.Step.TheVariants as steps
use Rattle.dfr_pcap.specs.Pieces.{PiecesParts, packet_in, of_packet, of_head, wrong_step, step, step_in, passed, added, begun, begun_by, with_head, head_of, nanosecond}
use Rattle.dfr_pcap.specs.Wholes.{IsHead, IsOf}
use Rattle.dfr_pcap.proofs.Moved.{forth, moved, packet_moved}
use Rattle.dfr_pcap.proofs.Whole.{is_new, is_passed_on, is_added, is_begun}
use Rattle.dfr_capture.specs.Plans.{PlanParts}
use Rattle.dfr_capture.specs.Recordings as recordings
use Rattle.dfr_capture.specs.Recordings.{Came, came_at, FeedParts, IsKept, IsFed, IsTaken, lines, events, missing}
use Rattle.dfr_convert.specs.declared.conversion.Stop.{Stop}
use Rattle.dfr_convert.specs.declared.conversion.Stop.TheVariants.{Memory, Damaged, Time, Long}
use Rattle.dfr_convert.specs.Conversions.{Kept, kept, State, state, ArePast, Past, frame_of, frames_of, IsSoFar, IsFirst, HasGrown, noted, Takes, TakesUpTo, TakesPiece, TakesIn}
use Rattle.dfr_convert.proofs.Known.{first_after}
use Rattle.dfr_convert.proofs.Slices.{slice_moved, past_stays, frames_stay}

-- ---- growing

stays : {X : Type 0} (xs was : List X) → Grows xs xs was was
stays xs was = record { given = []; appended = sym (append-nil xs); source_grew = sym (append-nil was) }

twice : {X : Type 0} (a b c was mid now : List X) → Grows a b was mid → Grows b c mid now → Grows a c was now
twice {X = X} a b c was mid now g h = record {
  given = g.given ++ h.given;
  appended = h.appended ∙ ap (λ (zs : List X). zs ++ h.given) g.appended ∙ append_assoc a g.given h.given;
  source_grew = h.source_grew ∙ ap (λ (zs : List X). zs ++ h.given) g.source_grew ∙ append_assoc was g.given h.given;
}

grown_none : (p : PlanParts) (was : List Came) (feed : FeedParts) (first : Option ℕ) → HasGrown p was was feed feed first first
grown_none p was feed first = record {
  lines = stays feed.lines (lines p was);
  events = stays feed.events (events p was);
  missing = stays feed.missing (missing p was);
  first = λ is. is;
}

grown_twice : (p : PlanParts) (was mid now : List Came) (a b c : FeedParts) (x y z : Option ℕ) → HasGrown p was mid a b x y → HasGrown p mid now b c y z
    → HasGrown p was now a c x z
grown_twice p was mid now a b c x y z g h = record {
  lines = twice a.lines b.lines c.lines (lines p was) (lines p mid) (lines p now) g.lines h.lines;
  events = twice a.events b.events c.events (events p was) (events p mid) (events p now) g.events h.events;
  missing = twice a.missing b.missing c.missing (missing p was) (missing p mid) (missing p now) g.missing h.missing;
  first = λ is. h.first (g.first is);
}

-- ---- none, and more of them

pub takes_none : (s : State) → Takes s s
takes_none s came past so =
    record { more = []; kept = so; grown = grown_none s.kept.recorder.plan (frames_of came past) s.feed s.first; plan = refl }

pub takes_on : (a b c : State) → Takes a b → Takes b c → Takes a c
takes_on a b c one two came past so =
    let m = one came past so in
    let n = two came (m.more ++ past) m.kept in
    let e : n.more ++ (m.more ++ past) ≡ (n.more ++ m.more) ++ past = sym (append_assoc n.more m.more past) in
    let p = a.kept.recorder.plan in
    let Grown : PlanParts → (was now : List packet.Packet) → State → State → Type 0 =
    λ q was now s t. HasGrown q (frames_of came was) (frames_of came now) s.feed t.feed s.first t.first in
    let grown : Grown p (m.more ++ past) (n.more ++ (m.more ++ past)) b c =
    subst (λ (q : PlanParts). Grown q (m.more ++ past) (n.more ++ (m.more ++ past)) b c) m.plan n.grown in
    let all : Grown p past (n.more ++ (m.more ++ past)) a c =
    grown_twice p (frames_of came past) (frames_of came (m.more ++ past)) (frames_of came (n.more ++ (m.more ++ past))) a.feed b.feed c.feed
    a.first b.first c.first m.grown grown in
    record {
      more = n.more ++ m.more;
      kept = subst (λ (all : List packet.Packet). IsSoFar came all c.kept) e n.kept;
      grown = subst (λ (all : List packet.Packet). Grown p past all a c) e all;
      plan = n.plan ∙ m.plan;
    }

-- ---- one packet

-- what a step that is a packet was read from
abbrev packet_or : packet.Packet → step_of.Step → packet.Packet
packet_or d (steps.Packet p) = p
packet_or d s = d

abbrev IsPacket : step_of.Step → Type 0
IsPacket (steps.Packet p) = Unit {0}
IsPacket s = ⊥

not_packet : (at : ℕ) (w : Wrong) → IsPacket (wrong_step at w) → ⊥
not_packet at wrong.CutShort h = h
not_packet at (wrong.Tag n) h = h
not_packet at wrong.IndefiniteLength h = h
not_packet at wrong.ReservedLength h = h
not_packet at wrong.TooLong h = h
not_packet at wrong.Size h = h
not_packet at wrong.Length h = h
not_packet at wrong.Asdus h = h
not_packet at wrong.Uneven h = h
not_packet at wrong.Magic h = h
not_packet at wrong.Version h = h
not_packet at wrong.Link h = h
not_packet at wrong.Packet h = h
not_packet at wrong.Number h = h
not_packet at wrong.Kind h = h
not_packet at wrong.Trailing h = h

no_fault : (at : ℕ) (w : Wrong) (p : packet.Packet) → wrong_step at w ≡ steps.Packet p → ⊥
no_fault at w p e = let P : step_of.Step → Type 0 = λ s. IsPacket s in not_packet at w (subst P (sym e) tt)

of_packet_is : (at : ℕ) (r : Result packet.Packet Fault) (p : packet.Packet) → of_packet at r ≡ steps.Packet p → r ≡ Ok p
of_packet_is at (Ok q) p e = let f : step_of.Step → Result packet.Packet Fault = λ s. Ok (packet_or q s) in ap f e
of_packet_is at (Err f) p e = absurd (no_fault (at + f.at) f.wrong p e)

of_head_is : (at : ℕ) (r : Result Capture Fault) (p : packet.Packet) → of_head at r ≡ steps.Packet p → ⊥
of_head_is at (Ok c) p e = let P : step_of.Step → Type 0 = λ s. IsPacket s in subst P (sym e) tt
of_head_is at (Err f) p e = no_fault (at + f.at) f.wrong p e

-- the frame of a packet that was read of what is left
frame_is : (came bytes : List ℕ) (at : ℕ) (p : packet.Packet) (time : ℕ) → bytes ≡ drop at came → p.seconds * 1_000_000_000 + p.nanoseconds ≡ time
    → came_at (slice_range bytes p.content.from p.content.to) time ≡ frame_of came (forth at p)
frame_is came bytes at p time left is =
    let part : slice_range bytes p.content.from p.content.to ≡ slice_range came (at + p.content.from) (at + p.content.to) =
    ap (λ (b : List ℕ). slice_range b p.content.from p.content.to) left ∙ slice_moved came at p.content.from p.content.to in
    ap (λ (b : List ℕ). came_at b time) part ∙ ap (λ (t : ℕ). came_at (slice_range came (at + p.content.from) (at + p.content.to)) t) (sym is)

fed_grown : (p : PlanParts) (c : Came) (past : List Came) (before after : FeedParts) (x y : Option ℕ) → IsFed p c past before after
    → y ≡ noted x after.lines c.time → HasGrown p past (c ∷ past) before after x y
fed_grown p c past before after x y fed is = record {
  lines = fed.lines;
  events = fed.events;
  missing = fed.missing;
  first = λ (was : IsFirst p past before x). first_after p c past before after x y fed.lines is was;
}

-- one packet more, and when the first lines came then
abbrev OneMore : (old : PiecesParts) (r new : recordings.Kept) (p : packet.Packet) (before after : FeedParts) (x y : Option ℕ) → Type 0
OneMore old r new p before after x y = Takes (state (kept old r) before x) (state (kept (passed p.content.to old) new) after y)

one_of : (old : PiecesParts) (r new : recordings.Kept) (p : packet.Packet) (time : ℕ) (before after : FeedParts) (x y : Option ℕ) (o : Option Capture) → old.capture ≡ o
    → step_in old.passed o old.bytes ≡ steps.Packet p → p.seconds * 1_000_000_000 + p.nanoseconds ≡ time
    → IsTaken r (came_at (slice_range old.bytes p.content.from p.content.to) time) before after new → p.content.to ≤ length old.bytes
    → y ≡ noted x after.lines (p.seconds * 1_000_000_000 + p.nanoseconds)
    → OneMore old r new p before after x y
one_of old r new p time before after x y None e is at taken le first came past so = absurd (of_head_is old.passed (head_at old.bytes (length old.bytes)) p is)
one_of old r new p time before after x y (Some c) e is at taken le first came past so =
    let q = forth old.passed p in
    let read : packet_in c old.bytes ≡ Ok p = of_packet_is old.passed (packet_in c old.bytes) p is in
    let there : packet_in c (drop old.passed came) ≡ Ok p = ap (λ (b : List ℕ). packet_in c b) (sym so.pieces.left) ∙ read in
    let whole : packet_at c came old.passed (length came) ≡ Ok q =
    packet_moved c came old.passed so.pieces.within ∙ ap (λ (x : Result packet.Packet Fault). moved old.passed x) there in
    let frame : came_at (slice_range old.bytes p.content.from p.content.to) time ≡ frame_of came q = frame_is came old.bytes old.passed p time so.pieces.left at in
    let t : IsTaken r (frame_of came q) before after new = subst (λ (x : Came). IsTaken r x before after new) frame taken in
    let g = t (frames_of came past) so.frames in
    let before_it : ArePast c came old.passed past = subst (λ (x : Option Capture). Past x came old.passed past) e so.packets in
    let now : ArePast c came (old.passed + p.content.to) (q ∷ past) = (old.passed, whole, refl, before_it) in
    record {
      more = q ∷ [];
      kept = record {
        pieces = is_passed_on came old c p.content.to le e so.pieces;
        packets = subst (λ (x : Option Capture). Past x came (old.passed + p.content.to) (q ∷ past)) (sym e) now;
        frames = g.1;
      };
      grown = fed_grown r.plan (frame_of came q) (frames_of came past) before after x y g.0 first;
      plan = g.2;
    }

pub one_packet : (old : PiecesParts) (r new : recordings.Kept) (p : packet.Packet) (time : ℕ) (before after : FeedParts) (x y : Option ℕ)
    → step old ≡ steps.Packet p → p.seconds * 1_000_000_000 + p.nanoseconds ≡ time
    → IsTaken r (came_at (slice_range old.bytes p.content.from p.content.to) time) before after new → p.content.to ≤ length old.bytes
    → y ≡ noted x after.lines (p.seconds * 1_000_000_000 + p.nanoseconds)
    → OneMore old r new p before after x y
one_packet old r new p time before after x y is at taken le first = one_of old r new p time before after x y old.capture refl is at taken le first

abbrev HasSome : Option ℕ → Type 0
HasSome (Some n) = Unit {0}
HasSome None = ⊥

abbrev some_or : Option ℕ → ℕ
some_or (Some n) = n
some_or None = 0

time_is : (all time : ℕ) → Some time ≡ (if nat_lt all (2 ^ 64) then Some all else None) → all ≡ time
time_is all time h =
    elim (cases_Bool (nat_lt all (2 ^ 64))) [
      | inl fits ↦ let e : Some time ≡ Some all = rw fits at h in sym (ap (λ (o : Option ℕ). some_or o) e)
      | inr long ↦ let e : Some time ≡ None = rw long at h in let P : Option ℕ → Type 0 = λ o. HasSome o in absurd (subst P e tt)
    ]

-- the same, of what the code has of it
pub one_packet_of : (old now : PiecesParts) (r new : recordings.Kept) (p : packet.Packet) (time : ℕ) (bytes : List ℕ) (before after : FeedParts) (x y : Option ℕ)
    → step old ≡ steps.Packet p → Some time ≡ nanosecond p → bytes ≡ old.bytes → p.content.to ≤ length old.bytes
    → IsTaken r (came_at (slice_range bytes p.content.from p.content.to) time) before after new → now ≡ passed p.content.to old
    → y ≡ noted x after.lines time
    → Takes (state (kept old r) before x) (state (kept now new) after y)
one_packet_of old now r new p time bytes before after x y is at same le taken gone first =
    let all = p.seconds * 1_000_000_000 + p.nanoseconds in
    let t : IsTaken r (came_at (slice_range old.bytes p.content.from p.content.to) time) before after new =
    subst (λ (b : List ℕ). IsTaken r (came_at (slice_range b p.content.from p.content.to) time) before after new) same taken in
    let e : all ≡ time = time_is all time at in
    let f : y ≡ noted x after.lines all = first ∙ ap (λ (t : ℕ). noted x after.lines t) (sym e) in
    subst (λ (n : PiecesParts). Takes (state (kept old r) before x) (state (kept n new) after y)) (sym gone)
    (one_packet old r new p time before after x y is e t le f)

-- after others
pub up_to_on : (r : Result (Unit {0}) Stop) (a b c : State) → Takes a b → TakesUpTo r b c → TakesUpTo r a c
up_to_on (Ok u) a b c one two = takes_on a b c one two
up_to_on (Err Memory) a b c one two = tt
up_to_on (Err (Damaged at w)) a b c one two = takes_on a b c one two
up_to_on (Err Time) a b c one two = takes_on a b c one two
up_to_on (Err Long) a b c one two = takes_on a b c one two

-- ---- a piece

past_of_more : (o : Option Capture) (came piece : List ℕ) (at : ℕ) (past : List packet.Packet) → Past o came at past → Past o (came ++ piece) at past
past_of_more None came piece at past h = h
past_of_more (Some c) came piece at past h = past_stays c came piece at past h

frames_of_more : (o : Option Capture) (came piece : List ℕ) (at : ℕ) (past : List packet.Packet) → Past o came at past → frames_of (came ++ piece) past ≡ frames_of came past
frames_of_more None came piece at past h = rw h refl
frames_of_more (Some c) came piece at past h = frames_stay c came piece at past h

-- the head is passed, before the first packet
with_head_past : (p : PiecesParts) (came : List ℕ) (past : List packet.Packet) (o : Option Capture) → past ≡ [] → p.passed ≡ 0
    → Past p.capture came p.passed past → Past (with_head p o).capture came (with_head p o).passed past
with_head_past p came past None nil zero h = h
with_head_past p came past (Some c) nil zero h =
    let P : List packet.Packet → Type 0 = λ l. ArePast c came (p.passed + 24) l in
    subst P (sym nil) (ap (λ (n : ℕ). n + 24) zero)

begun_past_of : (p : PiecesParts) (came : List ℕ) (past : List packet.Packet) (o : Option Capture) → p.capture ≡ o → IsHead came p.passed o
    → Past o came p.passed past → Past (begun_by p o).capture came (begun_by p o).passed past
begun_past_of p came past None e zero nil =
    with_head_past p came past (head_of p.bytes) nil zero (subst (λ (x : Option Capture). Past x came p.passed past) (sym e) nil)
begun_past_of p came past (Some c) e head h = subst (λ (x : Option Capture). Past x came p.passed past) (sym e) h

begun_past : (p : PiecesParts) (came : List ℕ) (past : List packet.Packet) → IsHead came p.passed p.capture → Past p.capture came p.passed past
    → Past (begun p).capture came (begun p).passed past
begun_past p came past head h = begun_past_of p came past p.capture refl head h

pub with_piece : (piece : List ℕ) (old : Kept) (came : List ℕ) (past : List packet.Packet) → IsSoFar came past old
    → IsSoFar (came ++ piece) past (kept (begun (added piece old.pieces)) old.recorder) × (frames_of (came ++ piece) past ≡ frames_of came past)
with_piece piece old came past so =
    let p = old.pieces in
    let stay = frames_of_more p.capture came piece p.passed past so.packets in
    let more = is_added came piece p so.pieces in (
      record {
        pieces = is_begun (came ++ piece) (added piece p) more;
        packets = begun_past (added piece p) (came ++ piece) past more.head (past_of_more p.capture came piece p.passed past so.packets);
        frames = subst (λ (fs : List Came). IsKept fs old.recorder) (sym stay) so.frames;
      },
      stay,
    )

-- a piece was added
abbrev pub with_added : (piece : List ℕ) → State → State
with_added piece s = state (kept (begun (added piece s.kept.pieces)) s.kept.recorder) s.feed s.first

pub piece_taken : (piece : List ℕ) (old new : State) → Takes (with_added piece old) new → TakesPiece piece old new
piece_taken piece old new takes came past so =
    let a = with_piece piece old.kept came past so in
    let m = takes (came ++ piece) past a.0 in
    let p = old.kept.recorder.plan in
    let Grown : List Came → Type 0 = λ was. HasGrown p was (frames_of (came ++ piece) (m.more ++ past)) old.feed new.feed old.first new.first in
    let grown = subst (λ (fs : List Came). Grown fs) a.1 m.grown in
    (m.more, m.kept, grown, m.plan)

pub piece_taken_up_to : (piece : List ℕ) (r : Result (Unit {0}) Stop) (old new : State) → (r ≡ Err Long → ⊥)
    → TakesUpTo r (with_added piece old) new → TakesIn piece r old new
piece_taken_up_to piece (Ok u) old new short takes = piece_taken piece old new takes
piece_taken_up_to piece (Err Memory) old new short takes = tt
piece_taken_up_to piece (Err (Damaged at w)) old new short takes = piece_taken piece old new takes
piece_taken_up_to piece (Err Time) old new short takes = piece_taken piece old new takes
piece_taken_up_to piece (Err Long) old new short takes = absurd (short refl)

-- ---- before the first piece

pub none_yet : (k : Kept) → k.pieces ≡ record { capture = None; passed = 0; bytes = [] } → IsKept [] k.recorder → IsSoFar [] [] k
none_yet k e h =
    let start : PiecesParts = record { capture = None; passed = 0; bytes = [] } in
    record {
      pieces = subst (λ (p : PiecesParts). IsOf [] p) (sym e) is_new;
      packets = subst (λ (p : PiecesParts). Past p.capture [] p.passed []) (sym e) refl;
      frames = h;
    }
