-- The loop through a line and a fault: its voltage, the drop along the whole line, and what drives the fault.
use Rattle.std.specs.Prelude.{Bool, true, false, if◌then◌else◌}
use Rattle.comtrade_analysis.specs.Phasors.{plus, minus, times}
use Rattle.comtrade_analysis.specs.declared.phasor.Phasor.{Phasor}
use Rattle.comtrade_fault.specs.declared.types.FaultType.{FaultType}
use Rattle.comtrade_fault.specs.declared.types.FaultType.TheVariants as Kind
use Rattle.comtrade_distance.specs.declared.line.Line.{Line}
use Rattle.comtrade_distance.specs.declared.loops.Loop.{Loop}
use Rattle.comtrade_distance.specs.declared.loops.Loop.TheVariants.{A, B, C, AB, BC, CA}
use Rattle.comtrade_distance.specs.declared.turned.Three.{Three}

-- the sum of the phases: three times the zero sequence
abbrev pub sum : Three → Phasor
sum p = plus (plus p.a p.b) p.c

-- the loop by which a fault is located
abbrev pub loop_of : FaultType → Loop
loop_of Kind.AG = A
loop_of Kind.BG = B
loop_of Kind.CG = C
loop_of Kind.AB = AB
loop_of Kind.ABG = AB
loop_of Kind.BC = BC
loop_of Kind.BCG = BC
loop_of Kind.CA = CA
loop_of Kind.CAG = CA
loop_of Kind.ABC = AB
loop_of Kind.ABCG = AB

-- what the phases put on a loop
abbrev pub along : Loop → Three → Phasor
along A p = p.a
along B p = p.b
along C p = p.c
along AB p = minus p.a p.b
along BC p = minus p.b p.c
along CA p = minus p.c p.a

abbrev pub has_earth : Loop → Bool
has_earth A = true
has_earth B = true
has_earth C = true
has_earth AB = false
has_earth BC = false
has_earth CA = false

abbrev pub thrice : Phasor → Phasor
thrice p = plus (plus p p) p

-- along the whole line. Of a phase and earth it is Z1·I + (Z0 - Z1)·I0, and 3·I0 is the sum of the phases; this is three times that.
abbrev pub drop_along : Loop → Line → Three → Phasor
drop_along l line i =
    let own = times line.positive (along l i) in
    if has_earth l then plus (thrice own) (times (minus line.zero line.positive) (sum i)) else own

-- as many times the voltage where it is measured
abbrev pub voltage : Loop → Three → Phasor
voltage l v = if has_earth l then thrice (along l v) else along l v

-- what is taken for in phase with the current through the fault: of an earth fault 3·I0, else the change of the loop's current
abbrev pub reference : Loop → Three → Three → Phasor
reference l now before = if has_earth l then sum now else minus (along l now) (along l before)
