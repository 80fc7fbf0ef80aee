-- What the numbers of a channel are, as every value of its type has them.
use Rattle.std.specs.Prelude.{[], ◌∷◌}
use Rattle.std.specs.List.{AllByRecursion}
use Rattle.comtrade_values.specs.Spelling.{IsNumber}
use Rattle.dfr_channels.specs.Parts.{AnalogParts}

-- each number of a channel is one that a Decimal holds
abbrev pub HasDecimals : AnalogParts → Type 0
HasDecimals c = AllByRecursion IsNumber (c.a ∷ c.b ∷ c.skew ∷ c.primary ∷ c.secondary ∷ [])
