-- Which old pairs go. Sizes are in bytes, the oldest pair first.
use Rattle.std.specs.Prelude.{◌-◌, ◌<◌, ◌≤◌, ℕ, List, length, drop, sum}
use Rattle.dfr_folder.specs.declared.choice.Keep.{Keep}
use Rattle.dfr_folder.specs.declared.choice.Keep.TheVariants as keep

-- these pairs may all stay
abbrev pub Fits : Keep → List ℕ → Type 0
Fits keep.All sizes = Unit {0}
Fits (keep.Pairs most) sizes = length sizes ≤ most
Fits (keep.Bytes most) sizes = sum sizes ≤ most

-- So many of the oldest go: no more than needed, and never the newest.
pub record IsSurplus (keep : Keep) (sizes : List ℕ) (count : ℕ) : Type 0 where
  pub newest : count ≤ length sizes - 1
  pub enough : count < length sizes - 1 → Fits keep (drop count sizes)
  pub least : (fewer : ℕ) → fewer < count → Fits keep (drop fewer sizes) → ⊥
