-- The angle of the fundamental, row by row: `at` of `rows` parts of a turn.
use Rattle.std.specs.Prelude.{ℕ, ◌+◌, ◌%◌}

-- after one row more, each of which is so many parts
abbrev pub next_angle : ℕ → ℕ → ℕ → ℕ
next_angle cycles rows at = (at + cycles) % rows
