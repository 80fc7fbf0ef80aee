-- When the frame came that gave the first lines.
use Rattle.std.proofs.Common.{◌≡◌, ◌∙◌, ℕ, ◌+◌, ◌*◌, List, [], ◌∷◌, ◌++◌, Option, Some, None, Result, Ok, Err, refl, sym, ap, subst}
use Rattle.dfr_bus.specs.declared.capture.Packet as packet
use Rattle.dfr_bay.specs.Waiting.{Grows}
use Rattle.dfr_capture.specs.Plans.{PlanParts}
use Rattle.dfr_capture.specs.Recordings.{Came, FeedParts, units, lines}
use Rattle.dfr_capture.specs.Rows.{of_scans}
use Rattle.dfr_convert.specs.declared.conversion.Stop.{Stop}
use Rattle.dfr_convert.specs.Conversions.{noted, first_time, Knows, IsFirst, NotedAfter, StaysKnown}

noted_stays : (old : Option ℕ) (lines : List ℕ) (time : ℕ) → StaysKnown old (noted old lines time)
noted_stays old lines time first is = ap (λ (o : Option ℕ). noted o lines time) is

pub known_after : (r : Result (Unit {0}) Stop) (p : packet.Packet) (lines : List ℕ) (old new : Option ℕ) → NotedAfter r p lines old new → StaysKnown old new
known_after (Ok u) p lines old new e first is = e ∙ noted_stays old lines (p.seconds * 1_000_000_000 + p.nanoseconds) first is
known_after (Err s) p lines old new e first is = e ∙ is

-- ---- after a frame more

no_lines : (p : PlanParts) → lines p [] ≡ []
unfolding of_scans units
no_lines p = refl

-- what is noted is known
known_noted : (x : Option ℕ) (ls : List ℕ) (time : ℕ) → Knows ls (noted x ls time)
known_noted (Some f) ls time = tt
known_noted None [] time = refl
known_noted None (b ∷ ls) time = tt

abbrev IsNone : Option ℕ → Type 0
IsNone None = Unit {0}
IsNone (Some n) = ⊥

-- where nothing is noted, there are no lines
none_noted : (x : Option ℕ) (ls : List ℕ) (time : ℕ) → IsNone (noted x ls time) → ls ≡ []
none_noted (Some f) ls time h = absurd h
none_noted None [] time h = refl
none_noted None (b ∷ ls) time h = absurd h

none_yet : (p : PlanParts) (past : List Came) → None ≡ first_time p past → lines p past ≡ []
none_yet p [] h = no_lines p
none_yet p (c ∷ past) h =
    let P : Option ℕ → Type 0 = λ o. IsNone o in
    none_noted (first_time p past) (lines p (c ∷ past)) c.time (subst P h tt)

noted_on : (p : PlanParts) (c : Came) (past : List Came) (before after : List ℕ) (x : Option ℕ)
    → Grows before after (lines p past) (lines p (c ∷ past)) → Knows before x → x ≡ first_time p past
    → noted x after c.time ≡ first_time p (c ∷ past)
noted_on p c past before after (Some f) g known is = ap (λ (o : Option ℕ). noted o (lines p (c ∷ past)) c.time) is
noted_on p c past before after None g known is =
    let mine : after ≡ g.given = g.appended ∙ ap (λ (ls : List ℕ). ls ++ g.given) known in
    let all : lines p (c ∷ past) ≡ g.given = g.source_grew ∙ ap (λ (ls : List ℕ). ls ++ g.given) (none_yet p past is) in
    ap (λ (ls : List ℕ). noted None ls c.time) (mine ∙ sym all) ∙ ap (λ (o : Option ℕ). noted o (lines p (c ∷ past)) c.time) is

pub first_after : (p : PlanParts) (c : Came) (past : List Came) (before after : FeedParts) (x y : Option ℕ)
    → Grows before.lines after.lines (lines p past) (lines p (c ∷ past)) → y ≡ noted x after.lines c.time
    → IsFirst p past before x → IsFirst p (c ∷ past) after y
first_after p c past before after x y g is was = record {
  time = is ∙ noted_on p c past before.lines after.lines x g was.known was.time;
  known = subst (λ (o : Option ℕ). Knows after.lines o) (sym is) (known_noted x after.lines c.time);
}
