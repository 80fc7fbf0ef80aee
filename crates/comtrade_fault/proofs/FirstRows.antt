-- A search that has come to a row.
use Rattle.std.proofs.Common.{◌≡◌, ℕ, suc, ◌+◌, ◌-◌, ◌<◌, ◌≤◌, Bool, true, false, Some, None, ap, ◌∙◌, arith}
use Rattle.std.specs.Prelude.{if◌then◌else◌}
use Rattle.comtrade_fault.specs.Searches.{first_from}

module _ (passes : ℕ → Bool) (row end : ℕ) where
  front : row < end → first_from passes row (end - row) ≡ if passes row then Some row else first_from passes (row + 1) (end - (row + 1))
  front lt = let e : end - row ≡ suc (end - (row + 1)) = omega arith in ap (first_from passes row) e

  -- the row doesn't pass
  pub first_pass : row < end → passes row ≡ false → first_from passes row (end - row) ≡ first_from passes (row + 1) (end - (row + 1))
  first_pass lt misses = front lt ∙ ap (λ (b : Bool). if b then Some row else first_from passes (row + 1) (end - (row + 1))) misses

  -- it passes
  pub first_hit : row < end → passes row ≡ true → first_from passes row (end - row) ≡ Some row
  first_hit lt hits = front lt ∙ ap (λ (b : Bool). if b then Some row else first_from passes (row + 1) (end - (row + 1))) hits

  -- there are no more rows
  pub first_end : end ≤ row → first_from passes row (end - row) ≡ None
  first_end past = let e : end - row ≡ 0 = omega arith in ap (first_from passes row) e
