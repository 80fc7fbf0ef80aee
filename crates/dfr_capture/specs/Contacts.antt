-- The states of the contacts.
use Rattle.std.specs.Prelude.{ℕ, ◌+◌, ◌==◌, Bool, List, [], ◌∷◌, ◌++◌, map, Option, Some, None, if◌then◌else◌}
use Rattle.dfr_bus.specs.declared.span.Span.{Span}
use Rattle.dfr_capture.specs.declared.plan.Doubt.{Doubt}
use Rattle.dfr_capture.specs.declared.plan.Doubt.TheVariants.{Stays, Normal}
use Rattle.dfr_capture.specs.declared.plan.Contact.{Contact}
use Rattle.dfr_capture.specs.declared.contact.Held.{Held}
use Rattle.dfr_capture.specs.declared.feed.Event.{Event}
use Rattle.dfr_capture.specs.declared.feed.Event.TheVariants.{NoState}
use Rattle.dfr_capture.specs.Elements.{state_in}

-- at first
abbrev pub resting : Contact → Held
resting c = record { contact = c; on = c.normal }

-- the states, one for each contact
abbrev pub bits_of : List Held → List Bool
bits_of held = map (λ (h : Held). h.on) held

abbrev pub with_state : Option Bool → Held → Held
with_state None h = h
with_state (Some on) h = record h { on = on }

-- after a message of a control block with these data
abbrev pub after_message : (bytes : List ℕ) → (content : Span) → (block : ℕ) → Held → Held
after_message bytes content block h = if h.contact.block == block then with_state (state_in bytes content h.contact.element) h else h

-- a contact of a control block returns to normal
abbrev pub at_rest : (block : ℕ) → Held → Held
at_rest block h = if h.contact.block == block then resting h.contact else h

-- where a control block is in doubt
abbrev pub doubted : (block : ℕ) → Doubt → List Held → List Held
doubted block Stays held = held
doubted block Normal held = map (at_rest block) held

-- a contact, number n, whose message has no state for it
abbrev pub stateless : ℕ → Option Bool → List Event
stateless n None = NoState n ∷ []
stateless n (Some on) = []

abbrev pub no_state : (bytes : List ℕ) → (content : Span) → (block n : ℕ) → Held → List Event
no_state bytes content block n h = if h.contact.block == block then stateless n (state_in bytes content h.contact.element) else []

unfoldable pub no_states : (bytes : List ℕ) → (content : Span) → (block n : ℕ) → List Held → List Event
no_states bytes content block n [] = []
no_states bytes content block n (h ∷ held) =
    no_state bytes content block n h ++ no_states bytes content block (n + 1) held
