-- The place of a frame has its sample count.
use Rattle.std.proofs.Common.{◌≡◌, ◌∙◌, sym, ap, ℕ, ◌+◌, ◌-◌, ◌*◌, ◌/◌, ◌%◌, ◌<◌, arith}
use Rattle.std.proofs.Math.Nat.{mod-add-div', add-mod-mod, mod-add-mod, add-mul-mod_self_right, add-mul, mod-eq_of_lt}
use Rattle.std.proofs.lemmas.Nat.{mod_below}
use Rattle.dfr_bay.specs.Arrivals.{missing}
use Rattle.dfr_bay.specs.Laws.{CountLaw}

has_count : (rate place count : ℕ) → count < rate → (place + missing rate place count) % rate ≡ count
has_count rate place count h =
    let below = mod_below place rate (omega arith) in
    let parts = mod-add-div' place rate in
    let one_more = add-mul (place / rate) 1 rate in
    let whole : place + (count + (rate - place % rate)) ≡ count + (place / rate + 1) * rate = omega (arith, below, parts, one_more) in
    add-mod-mod place (count + (rate - place % rate)) rate ∙ ap (λ n. n % rate) whole ∙ add-mul-mod_self_right count (place / rate + 1) rate ∙ mod-eq_of_lt h

pub count_law : CountLaw
count_law rate place count h = (has_count rate place count h, mod_below (count + (rate - place % rate)) rate (omega arith))
