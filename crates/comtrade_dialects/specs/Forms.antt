-- The forms of data files.
use Rattle.std.specs.Prelude.{ℕ, ◌+◌, ◌*◌, ◌/◌}
use Rattle.comtrade_dialects.specs.declared.kinds.Form.{Form}
use Rattle.comtrade_dialects.specs.declared.kinds.Form.TheVariants.{Ascii, Binary, Binary32, Float32}

-- the bytes of a sample; a sample in text has at least one
abbrev pub width : Form → ℕ
width Ascii = 1
width Binary = 2
width Binary32 = 4
width Float32 = 4

-- the bytes of a row: its number and stamp, k samples, and a word of two bytes for each 16 of m bits
abbrev pub row_size : Form → ℕ → ℕ → ℕ
row_size form k m = 8 + width form * k + 2 * ((m + 15) / 16)
