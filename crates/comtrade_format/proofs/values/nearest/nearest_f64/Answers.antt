use Rattle.std.proofs.Common.{◌≡◌, ℕ, true, false, List, ap, ◌∙◌}
use Rattle.std.specs.Float.Parse.{is_float_text}
use Rattle.comtrade_format.proofs.FloatText.{float_text}
use Rattle.comtrade_format.proofs.values.nearest.nearest_f64.Goals as goal

-- src/nearest.rt:28:19
pub unreachable-requires : goal.unreachable-requires
unreachable-requires g c =
    let refused = c.in-Err.ensures.variant in
    let read : is_float_text c.as_slice.result.now ≡ true =
    ap (λ (t : List ℕ). is_float_text t) (c.as_slice.ensures.value ∙ c.in_ok-text.ensures) ∙ float_text c.args.decimal c.units-lawful.ensures.lawful in
    let clash : false ≡ true = refused ∙ read in
    cc
