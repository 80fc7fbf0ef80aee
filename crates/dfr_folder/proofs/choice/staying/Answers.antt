use Rattle.std.proofs.Common.{◌-◌, ◌<◌, ◌≤◌, ℕ, zero, suc, List, [], ◌∷◌, length, drop, subst, arith}
use Rattle.std.specs.Prelude.{sum}
use Rattle.std.proofs.lemmas.List.Sums.{sum_by-take-drop}
use Rattle.dfr_folder.specs.Choice.{Fits}
use Rattle.dfr_folder.proofs.choice.staying.Goals as goal

-- with fewer taken off there is at least as much
fewer_off : (xs : List ℕ) (fewer more : ℕ) → fewer ≤ more → sum (drop more xs) ≤ sum (drop fewer xs)
fewer_off xs zero more less = omega (arith, sum_by-take-drop (λ x. x) xs more)
fewer_off [] (suc fewer) more less = omega (arith, sum_by-take-drop (λ x. x) [] more)
fewer_off (x ∷ xs) (suc fewer) zero less = absurd (omega arith)
fewer_off (x ∷ xs) (suc fewer) (suc more) less = fewer_off xs fewer more (omega arith)

pub returns-in-Bytes-clause-more : goal.returns-in-Bytes-clause-more
returns-in-Bytes-clause-more c = λ fewer less fits.
    let xs = c.args.sizes.now in
    let some : c.fitting.result < length xs = omega (arith, less) in
    let over = c.fitting.ensures.more some in
    let off = fewer_off xs fewer (length xs - c.fitting.result - 1) (omega (arith, less)) in
    let at = subst (λ k. Fits k (drop fewer xs)) c.in-Bytes.is fits in
    omega (arith, over, off, at)
