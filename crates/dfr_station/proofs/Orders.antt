-- The orders of the input, as they wait and are handed out.
use Rattle.std.proofs.Common.{◌≡◌, ℕ, ◌≤◌, arith, List, [], ◌∷◌, ◌++◌, Option, Some, None, inl, inr, refl, sym, ◌∙◌, ap, append_assoc}
use Rattle.std.specs.Prelude.{min, option_to_list, IfSome, MatchOption}
use Rattle.dfr_live.specs.Devices.{Came, Turn, Waits, Makes, Desked, TookTurn, MadeAll, new_desk}
use Rattle.dfr_live.specs.Parts.{EntryParts}
use Rattle.dfr_live.specs.declared.devices.Asked.{Asked}
use Rattle.dfr_live.specs.declared.devices.Asked.TheVariants as asked
use Rattle.dfr_live.specs.declared.devices.Standing.{Standing}
use Rattle.dfr_station.specs.Desks.{DeskParts, HandsOut, IsEarly, IsRoom, HasRoom, within, Answers, DeskAsks, DeskHears}
use Rattle.dfr_station.specs.declared.desk.Placed.{Placed}

module _ {A : Type 0} where
  -- one was taken off the queue, and waits
  pub takes_off : (s t : DeskParts A) (x : Placed A) → t.lane ≡ s.lane → t.has_operator ≡ s.has_operator → t.shelf ≡ s.shelf → t.taken ≡ s.taken ++ x ∷ [] → s.waits ≡ None → t.waits ≡ Some x → HandsOut s [] t
  takes_off s t x lane same shelf taken none waits = record {
    lane = lane;
    same = same;
    shelf = shelf;
    more = x ∷ [];
    taken = taken;
    rest = rw (none, waits) refl;
  }

  -- what was handed out first, and then
  pub hands_on : (s m t : DeskParts A) (out more : List (Placed A)) → HandsOut s out m → HandsOut m more t → HandsOut s (out ++ more) t
  hands_on s m t out more first later = record {
    lane = later.lane ∙ first.lane;
    same = later.same ∙ first.same;
    shelf = later.shelf ∙ first.shelf;
    more = first.more ++ later.more;
    taken = later.taken ∙ ap (λ (l : List (Placed A)). l ++ later.more) first.taken ∙ append_assoc s.taken first.more later.more;
    rest =
        sym (append_assoc (option_to_list s.waits) first.more later.more)
        ∙ ap (λ (l : List (Placed A)). l ++ later.more) first.rest
        ∙ append_assoc out (option_to_list m.waits) later.more
        ∙ ap (λ (l : List (Placed A)). out ++ l) later.rest
        ∙ sym (append_assoc out more (option_to_list t.waits));
  }

  pub answers_after : (pumped : ℕ) (s m t : DeskParts A) (a : Asked A) → HandsOut s [] m → Answers pumped m a t → Answers pumped s a t
  answers_after pumped s m t (asked.Order place o) first (inl h) = inl (h.0, h.1, hands_on s m t [] _ first h.2)
  answers_after pumped s m t (asked.Order place o) first (inr h) = inr (sym first.same ∙ h.0, h.1, h.2, hands_on s m t [] [] first h.3)
  answers_after pumped s m t (asked.NotYet steps) first h = (hands_on s m t [] [] first h.0, h.1, h.2)
  answers_after pumped s m t asked.Done first h = (hands_on s m t [] [] first h.0, h.1)

  -- an order that was due, or none
  pub due_after : (pumped : ℕ) (s m t : DeskParts A) (r : Option (Asked A)) → HandsOut s [] m
      → MatchOption r ((t ≡ m) × (m.waits ≡ None)) (λ a. (p : ℕ) → Answers p m a t)
      → MatchOption r (HandsOut s [] t × IsEarly pumped t) (λ a. Answers pumped s a t)
  due_after pumped s m t None first h = rw h.0 (first, rw h.1 tt)
  due_after pumped s m t (Some a) first h = answers_after pumped s m t a first (h pumped)

  -- ---- no more steps than have room

  few : (o : Option (Placed A)) (steps most : ℕ) → IfSome o (λ p. steps ≤ p.at) → IfSome o (λ p. min steps most ≤ p.at)
  few None steps most h = h
  few (Some p) steps most h = omega (arith, h)

  answers_within : (pumped most : ℕ) (s t : DeskParts A) (a : Asked A) → Answers pumped s a t → Answers pumped s (within most a) t
  answers_within pumped most s t (asked.Order place o) h = h
  answers_within pumped most s t (asked.NotYet steps) h = (h.0, h.1, few t.waits steps most h.2)
  answers_within pumped most s t asked.Done h = h

  room_within : (shelf : Option ℕ) (standing : Standing) (most : ℕ) (a : Asked A) → IsRoom shelf standing most → HasRoom shelf standing (within most a)
  room_within None standing most a h = tt
  room_within (Some shelf) standing most (asked.Order place o) h = h.0
  room_within (Some shelf) standing most (asked.NotYet steps) h = (h.0, omega (arith, h.1))
  room_within (Some shelf) standing most asked.Done h = h.0

  -- what was asked, within the room
  pub asks_within : (standing : Standing) (most : ℕ) (s t : DeskParts A) (a : Asked A) → IsRoom s.shelf standing most → Answers standing.pumped s a t
      → DeskAsks s standing (within most a) t
  asks_within standing most s t a room h = inr (room_within s.shelf standing most a room, answers_within standing.pumped most s t a h)

  -- ---- the queue of a desk stays the same

  answers_lane : (s t : DeskParts A) (pumped : ℕ) (a : Asked A) → Answers pumped s a t → t.lane ≡ s.lane
  answers_lane s t pumped (asked.Order place o) (inl h) = h.2.lane
  answers_lane s t pumped (asked.Order place o) (inr h) = h.3.lane
  answers_lane s t pumped (asked.NotYet steps) h = h.0.lane
  answers_lane s t pumped asked.Done h = h.0.lane

  asks_lane : (s t : DeskParts A) (standing : Standing) (a : Asked A) → DeskAsks s standing a t → t.lane ≡ s.lane
  asks_lane s t standing a (inl h) = ap (λ (d : DeskParts A). d.lane) h.2
  asks_lane s t standing a (inr h) = answers_lane s t standing.pumped a h.1

  turn_lane : (steps : ℕ) (s t : Desked (DeskParts A)) (x : Turn A) → TookTurn DeskAsks DeskHears steps s x t → t.desk.lane ≡ s.desk.lane
  turn_lane steps s t (Waits standing free) h = asks_lane s.desk t.desk standing (asked.NotYet free) h.1
  turn_lane steps s t (Makes standing place o reply) h =
      ap (λ (d : DeskParts A). d.lane) h.3.1 ∙ asks_lane s.desk h.0 standing (asked.Order place o) h.2

  turns_lane : (steps : ℕ) (s t : Desked (DeskParts A)) (turns : List (Turn A)) → Came (TookTurn DeskAsks DeskHears steps) s turns t → t.desk.lane ≡ s.desk.lane
  turns_lane steps s t [] h = sym (ap (λ (d : Desked (DeskParts A)). d.desk.lane) h)
  turns_lane steps s t (x ∷ turns) h = turn_lane steps h.0 t x h.2 ∙ turns_lane steps s h.0 turns h.1

  pub made_lane : (f g : DeskParts A) (made : List EntryParts) (steps : ℕ) → MadeAll DeskAsks DeskHears f made steps g → g.lane ≡ f.lane
  made_lane f g made steps h =
      asks_lane h.last.desk g h.done.0 asked.Done h.done.1 ∙ turns_lane steps (new_desk f) h.last h.turns h.came
