-- Whether the voltages can confirm a fault.
use Rattle.std.specs.Prelude.{Bool, if◌then◌else◌}
use Rattle.comtrade_views.specs.declared.faults.witness.Witness.{Witness}
use Rattle.comtrade_views.specs.declared.faults.witness.Witness.TheVariants.{Absent, Unlike, Dead, Live}

-- they are there, their factors can be compared, and they were not dead
abbrev pub witness : Bool → Bool → Bool → Witness
witness is_there is_alike is_live = if is_there then (if is_alike then (if is_live then Live else Dead) else Unlike) else Absent
