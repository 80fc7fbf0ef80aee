-- What the definitions imply.
use Rattle.std.specs.Prelude.{◌≡◌, ℕ, ◌+◌, ◌%◌, ◌<◌, ◌≤◌, true, false, List}
use Rattle.dfr_bay.specs.declared.settings.Settings.{Settings}
use Rattle.dfr_bay.specs.Arrivals.{missing}
use Rattle.dfr_bay.specs.Lines.{Frame, Board, board, is_complete}

-- After the samples that are missing comes a place with this count, and it is the next one: fewer are missing than a second has.
abbrev pub CountLaw : Type 0
CountLaw = (rate place count : ℕ) → count < rate → ((place + missing rate place count) % rate ≡ count) × (missing rate place count < rate)

-- the scans that are given are complete, and the next one isn't
pub record IsUpToDate {X : Type 0} (limit : ℕ) (b : Board X) : Type 0 where
  pub given : (k : ℕ) → k < b.done → is_complete limit k b.lines ≡ true
  pub next : is_complete limit b.done b.lines ≡ false

-- So it is after the frames of any history, of one stream or more.
abbrev pub CompleteLaw : Type 0 → Type 0
CompleteLaw X = (s : Settings) (streams : ℕ) (past : List (Frame X)) → 1 ≤ streams → IsUpToDate s.limit (board s streams past)
