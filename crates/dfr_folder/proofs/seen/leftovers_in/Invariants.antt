use Rattle.std.proofs.Common.{◌≡◌, ◌⊎◌, true, None, drop}
use Rattle.std.specs.Prelude.{Contains}
use Rattle.dfr_folder.specs.declared.name.Name.{Name}
use Rattle.dfr_folder.specs.Pairs.{is_leftover}
use Rattle.dfr_folder.specs.Events.{state_of}
use Rattle.dfr_folder.proofs.seen.leftovers_in.Given as goal

abbrev pub invariant-loop-seen : goal.invariant-loop-seen
invariant-loop-seen l = (n : Name) → is_leftover n.ending ≡ true → (state_of l.names n ≡ None → ⊥) → Contains l.keys.items n.key ⊎ (state_of (drop l.seen-index l.names) n ≡ None → ⊥)
