-- Whether a disturbance is a fault, and what it is else.
use Rattle.std.specs.Prelude.{ℕ, ◌+◌, ◌*◌, ◌≤◌, ◌==◌, max, Bool, true, false, not, ◌&&◌, ◌||◌, nat_lt, nat_le, if◌then◌else◌, Option, Some, None, IfSome}
use Rattle.comtrade_fault.specs.Sizing.{most_of, least_of, limit, AreFew, Fit}
use Rattle.comtrade_fault.specs.Typing.{fault_type, is_near, of_three, is_other_type}
use Rattle.comtrade_fault.specs.declared.sizes.Phases.{Phases}
use Rattle.comtrade_fault.specs.declared.sizes.Changes.{Changes}
use Rattle.comtrade_fault.specs.declared.sizes.Sizes.{Sizes}
use Rattle.comtrade_fault.specs.declared.types.FaultType.{FaultType}
use Rattle.comtrade_fault.specs.declared.kind.Cause.{Cause}
use Rattle.comtrade_fault.specs.declared.kind.Cause.TheVariants.{Inrush, Drop, Load}
use Rattle.comtrade_fault.specs.declared.kind.Kind.{Kind}
use Rattle.comtrade_fault.specs.declared.kind.Kind.TheVariants.{Fault, Other}
use Rattle.comtrade_fault.specs.declared.kind.Doubts.{Doubts}
use Rattle.comtrade_fault.specs.declared.kind.Evidence.{Evidence}

-- the voltages change by one part in so many of the greatest before, or more
abbrev pub changes_by : Sizes → ℕ → Bool
changes_by v parts = nat_le (most_of v.before) (parts * max (max v.change.a v.change.b) v.change.c)

-- the greatest falls to so many parts of another number, or lower
abbrev pub falls_to : Sizes → ℕ → ℕ → Bool
falls_to v parts of = nat_le (of * most_of v.after) (parts * most_of v.before)

-- in a fault of three phases the greatest falls by an eighth, in another one by a thirty-second of it one changes
abbrev pub dips : Sizes → FaultType → Bool
dips v fault = if of_three fault then falls_to v 7 8 else changes_by v 32

-- by twice as much
abbrev pub dips_far : Sizes → FaultType → Bool
dips_far v fault = if of_three fault then falls_to v 3 4 else changes_by v 16

-- by half as much
abbrev pub dips_near : Sizes → FaultType → Bool
dips_near v fault = if of_three fault then falls_to v 15 16 else changes_by v 64

-- the least falls by more than one part in so many of the greatest before
abbrev pub sags : Sizes → ℕ → Bool
sags v parts = nat_lt (parts * least_of v.after + most_of v.before) (parts * least_of v.before)

-- what the phase with the greatest current has of these
abbrev pub of_greatest : Phases → Phases → ℕ
of_greatest currents these = if currents.a == most_of currents then these.a else if currents.b == most_of currents then these.b else these.c

-- the greatest current is at least twice the greatest before, and twice that of the first cycle
unfoldable pub rises : Evidence → Bool
rises e = nat_le (2 * max (most_of e.currents.before) e.usual) (most_of e.currents.after)

-- it is at least three times as large, and the first cycle has currents
unfoldable pub multiplies : Evidence → Bool
multiplies e = nat_lt 0 e.usual && nat_le (3 * max (most_of e.currents.before) e.usual) (most_of e.currents.after)

-- no phase's current rises by more than an eighth
unfoldable pub drops : Evidence → Bool
drops e =
    nat_le (8 * e.currents.after.a) (9 * e.currents.before.a) && nat_le (8 * e.currents.after.b) (9 * e.currents.before.b)
    && nat_le (8 * e.currents.after.c) (9 * e.currents.before.c)

-- a phase carries at least half of the greatest current, and then an eighth of what it did, or less
abbrev pub is_opened : ℕ → ℕ → ℕ → Bool
is_opened most before after = nat_le most (2 * before) && nat_le (8 * after) before

-- a pole opens
unfoldable pub opens : Evidence → Bool
opens e =
    let most = most_of e.currents.before in
    is_opened most e.currents.before.a e.currents.after.a || is_opened most e.currents.before.b e.currents.after.b
    || is_opened most e.currents.before.c e.currents.after.c

-- no current rises, and a pole opens, or the least voltage does not fall by one part in so many
unfoldable pub subsides : Evidence → Sizes → ℕ → Bool
subsides e v parts = drops e && (opens e || not (sags v parts))

-- one rises, and the second harmonic of the greatest current is a quarter of it or more
unfoldable pub is_inrush : Evidence → Bool
is_inrush e = not (drops e) && nat_le (most_of e.currents.after) (4 * of_greatest e.currents.after e.second)

unfoldable pub cause : Evidence → Cause
cause e = if is_inrush e then Inrush else if drops e then Drop else Load

abbrev pub deciding_of : Evidence → Option Sizes → Changes
deciding_of e (Some v) = if rises e then e.currents.change else v.change
deciding_of e None = e.currents.change

-- the changes that decide the type: of the voltages where no current rises, else of the currents
unfoldable pub deciding : Evidence → Changes
deciding e = deciding_of e e.voltages

abbrev pub is_fault_by : Evidence → FaultType → Option Sizes → Bool
is_fault_by e fault (Some v) = (dips v fault || multiplies e) && (not (is_inrush e) || changes_by v 8) && not (subsides e v 32)
is_fault_by e fault None = rises e && not (is_inrush e)

-- the voltages change as in a fault or a current multiplies, with inrush by an eighth, and it does not subside; without voltages a current rises,
-- without inrush
unfoldable pub is_fault : Evidence → FaultType → Bool
is_fault e fault = is_fault_by e fault e.voltages

unfoldable pub kind : Evidence → Kind
kind e = if is_fault e (fault_type (deciding e)) then Fault (fault_type (deciding e)) else Other (cause e)

abbrev pub near_by : Evidence → FaultType → Option Sizes → Bool
near_by e fault (Some v) =
    if is_fault e fault then (not (dips_far v fault) || subsides e v 16) else (dips_near v fault && not (subsides e v 64))
near_by e fault None = true

-- the voltages change or sag by less than twice what decides, in a fault; by half of it or more, in none; or there are no voltages
unfoldable pub is_level_near : Evidence → Bool
is_level_near e = near_by e (fault_type (deciding e)) e.voltages

abbrev pub contradicts : Evidence → Option Sizes → Bool
contradicts e (Some v) = is_other_type (fault_type v.change) (fault_type e.currents.change)
contradicts e None = false

-- the voltages have another fault type than the currents
unfoldable pub is_contradicted : Evidence → Bool
is_contradicted e = contradicts e e.voltages

-- a ratio and the type of the voltages play a part in faults only
unfoldable pub doubts : Evidence → Doubts
doubts e =
    let fault = is_fault e (fault_type (deciding e)) in
    record {
      ratio = fault && is_near (deciding e);
      voltages = fault && is_contradicted e;
      level = is_level_near e;
      missing = not e.is_whole;
    }

-- sums over at most 2 ^ 20 rows
pub record IsSmall (e : Evidence) : Type 0 where
  pub currents : Fit e.currents
  pub usual : e.usual ≤ limit
  pub second : AreFew e.second
  pub voltages : IfSome e.voltages Fit
