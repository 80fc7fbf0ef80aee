-- What is kept of each stream, and of each control block: its key, the first frame that has it, and what its units or messages come to.
-- A key is the address that its frames come from, the application's number in two bytes, and its name: svID or gocbRef.
use Rattle.std.specs.Prelude.{ℕ, ◌/◌, ◌%◌, Bool, true, ◌&&◌, nat_le, nat_lt, if◌then◌else◌, List, [], ◌∷◌, ◌++◌, length, slice_range, slice_index_or, slice_set, position, Option, Some, None}
use Rattle.std.specs.Str.{bytes_eq}
use Rattle.dfr_bus.specs.declared.span.Span.{Span}

pub record Entry (T : Type 0) : Type 0 where
  pub key : List ℕ
  pub frame : List ℕ
  pub content : T

-- the bytes of a part, if there are so many
abbrev pub part : List ℕ → Span → List ℕ
part bytes span = if nat_le span.from span.to && nat_le span.to (length bytes) then slice_range bytes span.from span.to else []

abbrev pub key_of : (bytes : List ℕ) (source : Span) (app_id : ℕ) (name : Span) → List ℕ
key_of bytes source app_id name = part bytes source ++ (app_id / 256) ∷ (app_id % 256) ∷ [] ++ part bytes name

abbrev pub place_of : {T : Type 0} → List (Entry T) → List ℕ → Option ℕ
place_of entries key = position (λ e. bytes_eq e.key key) entries

-- the entry at a place becomes one with this content
abbrev pub with_content : {T : Type 0} → T → Entry T → Entry T
with_content content e = record e { content = content }

-- at most so many have a name
abbrev pub most : ℕ
most = 256

-- The entries after one more unit or message, by the place of its key: there `more` is made of the content; else a new entry comes last,
-- if there is room for it.
abbrev pub entered_at : {T : Type 0} → (T → T) → Entry T → Option ℕ → List (Entry T) → List (Entry T)
entered_at more new (Some i) entries = slice_set entries i (with_content (more (slice_index_or entries i new).content) (slice_index_or entries i new))
entered_at more new None entries = if nat_lt (length entries) most then entries ++ new ∷ [] else entries

abbrev pub entered : {T : Type 0} → (T → T) → Entry T → List (Entry T) → List (Entry T)
entered more new entries = entered_at more new (place_of entries new.key) entries

-- whether an entry has this key then
abbrev pub is_named_at : {T : Type 0} → Option ℕ → List (Entry T) → Bool
is_named_at (Some i) entries = true
is_named_at None entries = nat_lt (length entries) most

abbrev pub is_named : {T : Type 0} → List ℕ → List (Entry T) → Bool
is_named key entries = is_named_at (place_of entries key) entries
