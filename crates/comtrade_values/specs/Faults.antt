-- The first of several faults.
use Rattle.std.specs.Prelude.{Bool, true, false, Option, Some, None}

infixr 10 ◌or◌
-- the first fault, or else the second
abbrev pub ◌or◌ : {F : Type 0} → Option F → Option F → Option F
None or second = second
(Some fault) or second = Some fault

-- the fault, where the test fails
abbrev pub fault_unless : {F : Type 0} → Bool → F → Option F
fault_unless true fault = None
fault_unless false fault = Some fault
