-- Steps over a capture in the form pcapng stay the same where more bytes come.
use Rattle.std.proofs.Common.{◌≡◌, ◌∙◌, ℕ, ◌+◌, ◌-◌, ◌≤◌, ◌<◌, false, List, [], ◌∷◌, ◌++◌, length, take, drop, refl, sym, ap, subst, append_assoc, append-nil, inl, inr, arith}
use Rattle.std.specs.Prelude.{nat_lt}
use Rattle.std.proofs.lemmas.Bool.{cases_Bool, ltb-false, le-ltb, cases_lt}
use Rattle.std.proofs.lemmas.List.{drop-drop, drop-append-le, take-append-le, drop_all, length-drop, length-append}
use Rattle.std.proofs.Math.Seq.{drop-append-add}
use Rattle.dfr_bus.specs.declared.capture.Order.{Order}
use Rattle.dfr_pcap.specs.declared.moment.Interface.{Interface}
use Rattle.dfr_pcap.specs.declared.block.Place.{Place}
use Rattle.dfr_pcap.specs.declared.block.Place.TheVariants as places
use Rattle.dfr_pcap.specs.declared.block.Found.{Found}
use Rattle.dfr_pcap.specs.declared.block.Outcome.{Outcome}
use Rattle.dfr_pcap.specs.declared.block.Outcome.TheVariants as outcomes
use Rattle.dfr_pcap.specs.Blocks.{needs, found_at, next}
use Rattle.dfr_pcap.specs.Walks.{State, start, next_in, classic, classic_head, seen, IsStep, Leads, BlocksParts, IsOf, added, passed, Goes}

abbrev IsWaiting : Outcome → Type 0
IsWaiting outcomes.Wait = Unit {0}
IsWaiting (outcomes.Fault k flaw) = ⊥
IsWaiting (outcomes.Pass f) = ⊥

no_wait : (f : Found) → outcomes.Wait ≡ outcomes.Pass f → ⊥
no_wait f e = subst (λ (r : Outcome). IsWaiting r) e tt

-- something stands at each place
needs_some : (p : Place) → 1 ≤ needs p
needs_some places.Head = omega arith
needs_some (places.Version rest) = omega arith
needs_some (places.Options d) =
    elim (cases_Bool (nat_lt d.left 8)) [ inl few ↦ rw few (omega arith) | inr many ↦ rw many (omega arith) ]
needs_some (places.Packet rest) = omega arith
needs_some (places.Tail n) = omega arith

-- what is passed came
next_whole : (o : Order) (ifs : List Interface) (p : Place) (left : List ℕ) (f : Found) → next o ifs p left ≡ outcomes.Pass f → needs p ≤ length left
unfolding next
next_whole o ifs p left f h =
    elim (cases_Bool (nat_lt (length left) (needs p))) [
      | inl short ↦ absurd (no_wait f (rw short at h))
      | inr long ↦ ltb-false (length left) (needs p) long
    ]

next_more : (o : Order) (ifs : List Interface) (p : Place) (left more : List ℕ) → needs p ≤ length left → next o ifs p (left ++ more) ≡ next o ifs p left
unfolding next
next_more o ifs p left more le =
    let n : length (left ++ more) ≡ length left + length more = length-append left more in
    let one : nat_lt (length left) (needs p) ≡ false = le-ltb (length left) (needs p) le in
    let two : nat_lt (length (left ++ more)) (needs p) ≡ false = le-ltb (length (left ++ more)) (needs p) (omega (arith, n, le)) in
    let same : take (needs p) (left ++ more) ≡ take (needs p) left = take-append-le (needs p) left more le in
    let a : next o ifs p left ≡ found_at o ifs p (take (needs p) left) = rw one refl in
    let b : next o ifs p (left ++ more) ≡ found_at o ifs p (take (needs p) (left ++ more)) = rw two refl in
    b ∙ ap (λ (x : List ℕ). found_at o ifs p x) same ∙ sym a

-- the bytes from a place on, with more behind them
drop_before : (n : ℕ) (came more : List ℕ) → n ≤ length came → drop n (came ++ more) ≡ drop n came ++ more
drop_before n came more le = drop-append-le n came more le

pub drop_ahead : (n : ℕ) (came more : List ℕ) → drop n came ++ drop (n - length came) more ≡ drop n (came ++ more)
drop_ahead n came more =
    elim (cases_lt (length came) n) [
      | inl past ↦
          let none : drop n came ≡ [] = drop_all n came (omega (arith, past)) in
          let is : length came + (n - length came) ≡ n = omega (arith, past) in
          ap (λ (x : List ℕ). x ++ drop (n - length came) more) none
          ∙ sym (drop-append-add came more (n - length came)) ∙ ap (λ (k : ℕ). drop k (came ++ more)) is
      | inr within ↦
          let zero : n - length came ≡ 0 = omega (arith, within) in
          ap (λ (k : ℕ). drop n came ++ drop k more) zero ∙ sym (drop_before n came more within)
    ]

step_more : (came more : List ℕ) (f : Found) (from : ℕ) (t : State) (was : List ℕ) (at : ℕ) (s : State) (given : List ℕ)
    → IsStep came f from t was at s given → IsStep (came ++ more) f from t was at s given
step_more came more f from t was at s given h =
    let whole : needs t.place ≤ length (drop from came) = next_whole t.order t.interfaces t.place (drop from came) f h.found in
    let some : 1 ≤ needs t.place = needs_some t.place in
    let n : length (drop from came) ≡ length came - from = length-drop from came in
    let le : from ≤ length came = omega (arith, whole, some, n) in
    let d : drop from (came ++ more) ≡ drop from came ++ more = drop_before from came more le in
    let same : seen t (drop from (came ++ more)) ≡ seen t (drop from came) =
    ap (λ (x : List ℕ). take (needs t.place) x) d ∙ take-append-le (needs t.place) (drop from came) more whole in
    record {
      found = ap (λ (x : List ℕ). next_in t x) d ∙ next_more t.order t.interfaces t.place (drop from came) more whole ∙ h.found;
      to = h.to;
      state = h.state;
      gives = h.gives ∙ ap (λ (x : List ℕ). was ++ classic x f.news) (sym same);
    }

leads_more : (came more : List ℕ) (past : List Found) (at : ℕ) (s : State) (given : List ℕ) → Leads came past at s given → Leads (came ++ more) past at s given
leads_more came more [] at s given h = h
leads_more came more (f ∷ before) at s given h =
    (h.0, h.1, h.2, leads_more came more before h.0 h.1 h.2 h.3, step_more came more f h.0 h.1 h.2 at s given h.4)

-- ---- what the pieces do

pub is_new : IsOf [] classic_head (record { state = start; came = 0; passed = 0; bytes = [] })
is_new = record { count = refl; left = refl; past = []; leads = (refl, refl, refl) }

pub is_added : (came given piece : List ℕ) (p : BlocksParts) → IsOf came given p → IsOf (came ++ piece) given (added piece p)
is_added came given piece p so =
    record {
      count = ap (λ (n : ℕ). n + length piece) so.count ∙ sym (length-append came piece);
      left =
          ap (λ (x : List ℕ). x ++ drop (p.passed - p.came) piece) so.left
          ∙ ap (λ (n : ℕ). drop p.passed came ++ drop (p.passed - n) piece) so.count
          ∙ drop_ahead p.passed came piece;
      past = so.past;
      leads = leads_more came piece so.past p.passed p.state given so.leads;
    }

pub is_passed : (came given : List ℕ) (p : BlocksParts) (f : Found) → next_in p.state p.bytes ≡ outcomes.Pass f → IsOf came given p
    → IsOf came (given ++ classic (seen p.state p.bytes) f.news) (passed f p)
is_passed came given p f h so =
    record {
      count = so.count;
      left = ap (λ (x : List ℕ). drop f.length x) so.left ∙ drop-drop f.length p.passed came;
      past = f ∷ so.past;
      leads = (
        p.passed,
        p.state,
        given,
        so.leads,
        record {
          found = ap (λ (x : List ℕ). next_in p.state x) (sym so.left) ∙ h;
          to = refl;
          state = refl;
          gives = ap (λ (x : List ℕ). given ++ classic (seen p.state x) f.news) so.left;
        },
      );
    }

-- ---- more and more is given

pub goes_none : (p : BlocksParts) (out : List ℕ) → Goes p p out out
goes_none p out = ([], sym (append-nil out), λ came given so. subst (λ (x : List ℕ). IsOf came x p) (sym (append-nil given)) so)

pub goes_on : (a b c : BlocksParts) (x y z : List ℕ) → Goes a b x y → Goes b c y z → Goes a c x z
goes_on a b c x y z g h = (
  g.0 ++ h.0,
  h.1 ∙ ap (λ (l : List ℕ). l ++ h.0) g.1 ∙ append_assoc x g.0 h.0,
  λ came given so. subst (λ (l : List ℕ). IsOf came l c) (append_assoc given g.0 h.0) (h.2 came (given ++ g.0) (g.2 came given so)),
)

pub goes_past : (p : BlocksParts) (f : Found) (out : List ℕ) → next_in p.state p.bytes ≡ outcomes.Pass f
    → Goes p (passed f p) out (out ++ classic (seen p.state p.bytes) f.news)
goes_past p f out h = (classic (seen p.state p.bytes) f.news, refl, λ came given so. is_passed came given p f h so)

-- one part more
pub goes_by : (a b c : BlocksParts) (x y z : List ℕ) (f : Found) → Goes a b x y → outcomes.Pass f ≡ next_in b.state b.bytes → c ≡ passed f b
    → z ≡ y ++ classic (seen b.state b.bytes) f.news → Goes a c x z
unfolding goes_past
goes_by a b c x y z f g h e out =
    let one = goes_past b f y (sym h) in
    let two : Goes b c y z = (one.0, out, λ came given so. subst (λ (p : BlocksParts). IsOf came (given ++ one.0) p) (sym e) (one.2 came given so)) in
    goes_on a b c x y z g two

-- and fewer bytes left
pub leaves_fewer : (b c : BlocksParts) (f : Found) → c ≡ passed f b → 4 ≤ f.length → needs b.state.place ≤ length b.bytes → length c.bytes < length b.bytes
leaves_fewer b c f e some whole =
    let need : 1 ≤ needs b.state.place = needs_some b.state.place in
    let n : length (drop f.length b.bytes) ≡ length b.bytes - f.length = length-drop f.length b.bytes in
    let m : length c.bytes ≡ length (drop f.length b.bytes) = ap (λ (p : BlocksParts). length p.bytes) e in
    omega (arith, need, n, m, some, whole)
