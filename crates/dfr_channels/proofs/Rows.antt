-- Worked rows of the definitions: when a rule holds.
use Rattle.std.proofs.Common.{◌≡◌, true, false, [], ◌∷◌, Some, None, refl, pos}
use Rattle.dfr_channels.specs.Firing.{holds}
use Rattle.dfr_channels.specs.declared.scan.Reading.TheVariants.{Value, Missing}
use Rattle.dfr_channels.specs.declared.rule.Rule.TheVariants.{Level, Edge}

missing_never : holds None (record { analog = Missing ∷ []; status = [] }) (Level 0 false (pos 0)) ≡ false
unfolding holds
missing_never = refl

at_threshold : holds None (record { analog = Value (pos 5) ∷ []; status = [] }) (Level 0 true (pos 5)) ≡ true
unfolding holds
at_threshold = refl

no_edge_at_first : holds None (record { analog = []; status = true ∷ [] }) (Edge 0 true) ≡ false
unfolding holds
no_edge_at_first = refl

rises : holds (Some (record { analog = []; status = false ∷ [] })) (record { analog = []; status = true ∷ [] }) (Edge 0 true) ≡ true
unfolding holds
rises = refl
