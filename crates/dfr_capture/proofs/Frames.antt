-- A frame more.
use Rattle.std.proofs.Common.{◌≡◌, ◌∙◌, sym, ap, subst, refl, ℕ, List, [], ◌∷◌, ◌++◌, length, Result, append_assoc}
use Rattle.dfr_bus.specs.declared.fault.Fault.{Fault}
use Rattle.dfr_bus.specs.declared.frame.Ethernet.{Ethernet}
use Rattle.dfr_bay.specs.Waiting as waiting
use Rattle.dfr_bay.specs.Waiting.{Grows}
use Rattle.dfr_capture.specs.declared.feed.Event.{Event}
use Rattle.dfr_capture.specs.declared.feed.LostReading.{LostReading}
use Rattle.dfr_capture.specs.Plans.{PlanParts}
use Rattle.dfr_capture.specs.Units.{UnitParts}
use Rattle.dfr_capture.specs.Contacts.{bits_of}
use Rattle.dfr_capture.specs.Listening.{Listening, passed_events}
use Rattle.dfr_capture.specs.Recordings.{Came, at_time, ethernet_of, payload_heard, frame_heard, listening, payload_units, units, lines, missing, payload_events, events, FeedParts, Waits, Feeds, FeedsAll, IsFed, TakesAll}

from_lines : (before mid after : FeedParts) (was now : List ℕ) → mid.lines ≡ before.lines → Grows mid.lines after.lines was now → Grows before.lines after.lines was now
from_lines before mid after was now e g = subst (λ (xs : List ℕ). Grows xs after.lines was now) e g

from_missing : (before mid after : FeedParts) (was now : List LostReading) → mid.missing ≡ before.missing → Grows mid.missing after.missing was now
    → Grows before.missing after.missing was now
from_missing before mid after was now e g = subst (λ (xs : List LostReading). Grows xs after.missing was now) e g

-- where what is heard is that of the history
taken_at : (p : PlanParts) (c : Came) (past : List Came) (bay new : waiting.Kept UnitParts) (hears : Listening) (before mid after : FeedParts)
    → Waits p (units p past) bay
    → mid.lines ≡ before.lines → mid.missing ≡ before.missing
    → mid.events ≡ before.events ++ passed_events c.time (length (listening p past).blocks) (listening p past)
    → FeedsAll p bay (payload_units p c (bits_of (at_time c (listening p past)).held) (ethernet_of c)) (payload_events p c (ethernet_of c) (at_time c (listening p past))) mid after new
    → hears ≡ frame_heard p c (listening p past)
    → IsFed p c past before after × Waits p (units p (c ∷ past)) new × (listening p (c ∷ past) ≡ hears)
unfolding listening units events
taken_at p c past bay new hears before mid after w l m e fed h =
    let f = fed (units p past) w in
    let s = listening p past in
    let first = passed_events c.time (length s.blocks) s in
    let then = payload_events p c (ethernet_of c) (at_time c s) (units p past) in (
      record {
        lines = from_lines before mid after (lines p past) (lines p (c ∷ past)) l f.lines;
        events = record {
          given = first ++ then;
          appended = f.events ∙ ap (λ (xs : List Event). xs ++ then) e ∙ append_assoc before.events first then;
          source_grew = refl;
        };
        missing = from_missing before mid after (missing p past) (missing p (c ∷ past)) m f.missing;
      },
      f.waits,
      sym h,
    )

pub taken_in : (p : PlanParts) (c : Came) (bay new : waiting.Kept UnitParts) (heard hears : Listening) (before mid after : FeedParts)
    → mid.lines ≡ before.lines → mid.missing ≡ before.missing
    → mid.events ≡ before.events ++ passed_events c.time (length heard.blocks) heard
    → FeedsAll p bay (payload_units p c (bits_of (at_time c heard).held) (ethernet_of c)) (payload_events p c (ethernet_of c) (at_time c heard)) mid after new
    → hears ≡ frame_heard p c heard
    → TakesAll p c bay heard before after new hears
taken_in p c bay new heard hears before mid after l m e fed h past w so =
    let Given : Listening → Type 0 = λ s. (mid.events ≡ before.events ++ passed_events c.time (length s.blocks) s)
    × FeedsAll p bay (payload_units p c (bits_of (at_time c s).held) (ethernet_of c)) (payload_events p c (ethernet_of c) (at_time c s)) mid after new
    × (hears ≡ frame_heard p c s) in
    let t : Given (listening p past) = subst Given (sym so) (e, fed, h) in
    taken_at p c past bay new hears before mid after w l m t.0 t.1 t.2

-- the same, of what the code has of it
pub taken_of : (p : PlanParts) (c : Came) (bay new : waiting.Kept UnitParts) (heard passed hears : Listening) (e : Result Ethernet Fault) (before mid after : FeedParts)
    → passed ≡ at_time c heard → e ≡ ethernet_of c
    → mid.lines ≡ before.lines → mid.missing ≡ before.missing
    → mid.events ≡ before.events ++ passed_events c.time (length heard.blocks) heard
    → FeedsAll p bay (payload_units p c (bits_of passed.held) e) (payload_events p c e passed) mid after new
    → hears ≡ payload_heard p c e passed
    → TakesAll p c bay heard before after new hears
taken_of p c bay new heard passed hears e before mid after is reads l m told fed h =
    let Fed : Listening → Result Ethernet Fault → Type 0 = λ s r. FeedsAll p bay (payload_units p c (bits_of s.held) r) (payload_events p c r s) mid after new in
    let Hears : Listening → Result Ethernet Fault → Type 0 = λ s r. hears ≡ payload_heard p c r s in
    let fed_1 : Fed (at_time c heard) e = subst (λ (s : Listening). Fed s e) is fed in
    let fed_2 : Fed (at_time c heard) (ethernet_of c) = subst (λ (r : Result Ethernet Fault). Fed (at_time c heard) r) reads fed_1 in
    let h_1 : Hears (at_time c heard) e = subst (λ (s : Listening). Hears s e) is h in
    let h_2 : Hears (at_time c heard) (ethernet_of c) = subst (λ (r : Result Ethernet Fault). Hears (at_time c heard) r) reads h_1 in
    taken_in p c bay new heard hears before mid after l m told fed_2 h_2
