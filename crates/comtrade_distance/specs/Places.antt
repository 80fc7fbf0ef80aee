-- Where on a line a fault is, by what one end measures.
--
-- Along the loop V = m·D + R·F: the voltage at the measured end is the drop D of the whole line times the part m up to the fault,
-- and the voltage of an arc, which is in phase with the current F through it. Across from F the arc has no voltage, so m is there
-- the quotient of V and D. One end doesn't measure F; a reference stands for it.
use Rattle.std.specs.Prelude.{if◌then◌else◌, Option, Some, None, option_map, option_and_then}
use Rattle.std.specs.Float.{Float, binary64, float_is_finite}
use lib.Ieee.{div}
use Rattle.comtrade_analysis.specs.Phasors.{times, mirrored, across}
use Rattle.comtrade_analysis.specs.declared.phasor.Phasor.{Phasor}
use Rattle.comtrade_distance.specs.Loops.{drop_along, voltage, reference}
use Rattle.comtrade_distance.specs.declared.line.Line.{Line}
use Rattle.comtrade_distance.specs.declared.loops.Loop.{Loop}
use Rattle.comtrade_distance.specs.declared.place.Place.{Place}
use Rattle.comtrade_distance.specs.declared.turned.Three.{Three}

-- the part m of the line, for a current that is in phase with the one through the fault
abbrev pub quotient : Phasor → Phasor → Phasor → Float
quotient v d f = div binary64 (across v f) (across d f)

-- none where the drop is in phase with it, too
abbrev pub part : Phasor → Phasor → Phasor → Option Float
part v d f = if float_is_finite (quotient v d f) then Some (quotient v d f) else None

abbrev pub place_with : Phasor → Phasor → Phasor → Phasor → Option Place
place_with v d f turn =
    option_and_then (λ likely. option_and_then (λ behind. option_map (λ ahead. record { likely = likely; behind = behind; ahead = ahead })
    (part v d (times f turn))) (part v d (times f (mirrored turn)))) (part v d f)

-- `turn` has magnitude 1, and the angle by which the current through the fault may be ahead of the reference, or behind it
abbrev pub place : Line → Loop → Three → Three → Three → Phasor → Option Place
place line l voltages currents before turn = place_with (voltage l voltages) (drop_along l line currents) (reference l currents before) turn
