-- Natural numbers of 192 bits.
use Rattle.std.specs.Prelude.{◌≡◌, ℕ, ◌+◌, ◌*◌, ◌^◌, ◌≤◌, Option, Some, None}
use Rattle.comtrade_analysis.specs.declared.wide.Wide.{Wide}

abbrev pub number : Wide → ℕ
number w = w.high * 2 ^ 64 + w.low

-- this number; None where it has more than 192 bits
abbrev pub IsNumber : ℕ → Option Wide → Type 0
IsNumber n (Some w) = number w ≡ n
IsNumber n None = 2 ^ 192 ≤ n
