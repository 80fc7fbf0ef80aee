-- Changes of contacts on their way to the printing thread.
use Rattle.std.specs.Prelude.{◌≡◌, ◌⊎◌, ℕ, ◌+◌, ◌-◌, ◌^◌, min, Bool, List, [], ◌∷◌, ◌++◌, reverse}
use Rattle.dfr_live.specs.Devices.{Came}
use Rattle.dfr_sequence.specs.Sequences.{Kept, IsTold}
use Rattle.dfr_sequence.specs.declared.change.Change.{Change}

-- what is kept of the scans; all changes that were put into the queue, in order; how many changes it had no room for
pub record Handed : Type 0 where
  pub kept : Kept
  pub queued : List Change
  pub untold : ℕ

abbrev pub handed : Kept → List Change → ℕ → Handed
handed kept queued untold = record { kept = kept; queued = queued; untold = untold }

-- a change goes into the queue; where it has no room, the changes for which it stands are counted, up to the greatest number
abbrev pub HandsOne : Handed → Change → Handed → Type 0
HandsOne s c t =
    (t ≡ handed s.kept (s.queued ++ c ∷ []) s.untold) ⊎ (t ≡ handed s.kept s.queued (min (s.untold + c.count) (2 ^ 64 - 1)))

-- a scan was seen: what is told at it was handed on, in order; or there was no memory, and it counts as lost
abbrev pub Sees : Handed → ℕ → List Bool → Handed → Type 0
Sees s scan bits t =
    (t ≡ s) ⊎ ((told : List Change) × IsTold s.kept scan bits [] told t.kept × Came HandsOne (handed t.kept s.queued s.untold) (reverse told) t)
