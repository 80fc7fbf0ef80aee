-- Numbers for computing, whose places may be negative.
use Rattle.std.specs.Prelude.{◌+ℤ◌, ◌*ℤ◌, FitsSigned}
use Rattle.std.specs.Int.{w32, w128}
use Rattle.comtrade_values.specs.declared.exact.Exact.{Exact}

-- the product: as many places as both have together
abbrev pub product : Exact → Exact → Exact
product x y = record { units = x.units *ℤ y.units; places = x.places +ℤ y.places }

-- units and places of the product can be held
abbrev pub HasProduct : Exact → Exact → Type 0
HasProduct x y = FitsSigned w128 (x.units *ℤ y.units) × FitsSigned w32 (x.places +ℤ y.places)
