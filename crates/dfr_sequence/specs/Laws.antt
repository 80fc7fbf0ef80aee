-- Laws of what is told of a contact.
use Rattle.std.specs.Prelude.{◌≡◌, ℕ, ◌+◌, ◌≤◌, Some, List, [], ◌∷◌, ◌++◌, map, slice_get}
use Rattle.dfr_sequence.specs.Scans.{Came}
use Rattle.dfr_sequence.specs.Contacts.{Wanted, Told, heard, changes}
use Rattle.dfr_sequence.specs.declared.change.Flip.{Flip}

-- all changes that were told
abbrev pub flips_told : List Told → List Flip
flips_told [] = []
flips_told (t ∷ told) = t.flips ++ flips_told told

-- Each change was told or waits, exactly once, in order.
abbrev pub OnceLaw : Type 0
OnceLaw = (w : Wanted) (past : List Came) → (heard w past).waiting ++ flips_told (heard w past).told ≡ changes w past

-- Between what is told and what was told `most` times before there is a second or more. So where the scans are in order, at most so much
-- is told in any second.
abbrev pub FewLaw : Type 0
FewLaw =
    (w : Wanted) (past : List Came) → 1 ≤ w.limit.most → (i later earlier : ℕ)
    → slice_get (map (λ t. t.at) (heard w past).told) i ≡ Some later
    → slice_get (map (λ t. t.at) (heard w past).told) (i + w.limit.most) ≡ Some earlier
    → earlier + w.limit.rate ≤ later
