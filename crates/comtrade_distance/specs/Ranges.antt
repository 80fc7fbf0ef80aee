-- Parts of a line in which a fault is, by what one end measures; and why there are none.
use Rattle.std.specs.Prelude.{Bool, not, Option, Some, None, Result, Ok, Err, if◌then◌else◌}
use Rattle.std.specs.Float.{Float, binary64, float_zero}
use lib.Ieee.{add, sub, lt}
use Rattle.comtrade_analysis.specs.Phasors.{times, mirrored, across}
use Rattle.comtrade_analysis.specs.declared.phasor.Phasor.{Phasor}
use Rattle.comtrade_distance.specs.Loops.{drop_along, voltage, reference}
use Rattle.comtrade_distance.specs.Places.{part, place}
use Rattle.comtrade_distance.specs.declared.line.Line.{Line}
use Rattle.comtrade_distance.specs.declared.loops.Loop.{Loop}
use Rattle.comtrade_distance.specs.declared.place.Place.{Place}
use Rattle.comtrade_distance.specs.declared.range.Range.{Range}
use Rattle.comtrade_distance.specs.declared.range.Seen.{Seen}
use Rattle.comtrade_distance.specs.declared.range.Unplaced.{Unplaced}
use Rattle.comtrade_distance.specs.declared.range.Unplaced.TheVariants.{Open, Wide, Behind, Beyond}
use Rattle.comtrade_distance.specs.declared.range.TheConstants.{MARGIN, NEAREST, FARTHEST, WIDEST}

abbrev pub lower : Float → Float → Float
lower x y = if lt x y then x else y

abbrev pub upper : Float → Float → Float
upper x y = if lt x y then y else x

-- The quotient of voltage and drop turns with the current through the fault, and has no bound where the drop is in phase with it. It
-- has none between two currents, less than half a turn apart, where the drop lies across from both on one side.
abbrev pub is_left : Phasor → Phasor → Bool
is_left d f = lt (across d f) float_zero

abbrev pub is_bounded : Phasor → Phasor → Phasor → Bool
is_bounded d behind ahead = if is_left d behind then is_left d ahead else not (is_left d ahead)

abbrev pub is_bounded_by : Line → Loop → Seen → Phasor → Bool
is_bounded_by line l s turn =
    let d = drop_along l line s.currents in
    let f = reference l s.currents s.before in
    is_bounded d (times f (mirrored turn)) (times f turn)

-- the part by the reactance of the loop alone: the current that drives the fault is taken for in phase with that of the loop
abbrev pub by_reactance : Line → Loop → Seen → Option Float
by_reactance line l s =
    let d = drop_along l line s.currents in
    part (voltage l s.voltages) d (times d (mirrored line.positive))

abbrev pub range_in : Place → Float → Range
range_in p reactance = record {
  least = sub binary64 (lower (lower p.behind p.ahead) p.likely) MARGIN;
  greatest = add binary64 (upper (upper p.behind p.ahead) p.likely) MARGIN;
  likely = p.likely;
  reactance = reactance;
}

abbrev pub joined : Range → Range → Range
joined r s = record {
  least = lower r.least s.least;
  greatest = upper r.greatest s.greatest;
  likely = r.likely;
  reactance = r.reactance;
}

-- none that is wider than the line, or at neither end within a twentieth of it
abbrev pub judged : Range → Result Range Unplaced
judged r =
    if lt WIDEST (sub binary64 r.greatest r.least) then Err Wide else
    if lt r.greatest NEAREST then Err Behind else
    if lt FARTHEST r.least then Err Beyond else Ok r

abbrev pub both : Option Place → Option Float → Result Range Unplaced
both None _ = Err Open
both (Some p) None = Err Open
both (Some p) (Some reactance) = judged (range_in p reactance)

abbrev pub range : Line → Loop → Seen → Phasor → Result Range Unplaced
range line l s turn =
    if is_bounded_by line l s turn then both (place line l s.voltages s.currents s.before turn) (by_reactance line l s) else Err Open
