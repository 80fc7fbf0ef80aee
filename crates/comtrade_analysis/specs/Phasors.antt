-- Phasors as points of the plane. Each operation is rounded to the nearest float.
use Rattle.std.specs.Float.{Float, binary64}
use lib.Ieee.{add, sub, mul, neg}
use Rattle.comtrade_analysis.specs.declared.phasor.Phasor.{Phasor}

abbrev pub plus : Phasor → Phasor → Phasor
plus p q = record { re = add binary64 p.re q.re; im = add binary64 p.im q.im }

abbrev pub minus : Phasor → Phasor → Phasor
minus p q = record { re = sub binary64 p.re q.re; im = sub binary64 p.im q.im }

-- the product: magnitudes are multiplied, angles added
abbrev pub times : Phasor → Phasor → Phasor
times p q = record {
  re = sub binary64 (mul binary64 p.re q.re) (mul binary64 p.im q.im);
  im = add binary64 (mul binary64 p.im q.re) (mul binary64 p.re q.im);
}

abbrev pub scaled : Float → Phasor → Phasor
scaled x p = record { re = mul binary64 p.re x; im = mul binary64 p.im x }

-- the same magnitude, and the angle with the other sign
abbrev pub mirrored : Phasor → Phasor
mirrored p = record { re = p.re; im = neg p.im }

-- how far p lies across from q, times the magnitude of q: 0 where they are in phase
abbrev pub across : Phasor → Phasor → Float
across p q = sub binary64 (mul binary64 p.im q.re) (mul binary64 p.re q.im)
