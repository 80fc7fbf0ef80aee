-- Texts in buffers of the caller.
use Rattle.std.specs.Prelude.{ℕ, List, ◌++◌, length, drop}

-- the text in front of what stood after it in the buffer
abbrev pub put : List ℕ → List ℕ → List ℕ
put text before = text ++ drop (length text) before
