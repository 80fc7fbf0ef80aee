use Rattle.std.proofs.Common.{◌≡◌, drop}
use Rattle.dfr_look.specs.Looks.{units_seen}
use Rattle.dfr_look.proofs.look.Look.units.Given as goal

abbrev pub invariant-loop-unit : goal.invariant-loop-unit
invariant-loop-unit g l = units_seen l.bytes l.frame l.app_id (drop l.unit-index l.units) l.self ≡ units_seen l.bytes l.frame l.app_id l.units l.fn.self
