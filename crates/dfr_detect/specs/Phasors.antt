-- The correlation of the last samples with a wave. Samples are those since the last gap, the newest first.
use Rattle.std.specs.Prelude.{◌≡◌, ◌≤◌, ◌<◌, ◌^◌, ℕ, ℤ, pos, ◌+◌, ◌*◌, ◌-◌, ◌/◌, ◌+ℤ◌, ◌-ℤ◌, ◌*ℤ◌, unsigned_abs, ◌==◌, if◌then◌else◌, List, [], ◌∷◌, take, length, Option, Some, None}
use Rattle.std.specs.List.{All}
use Rattle.dfr_detect.specs.Turns.{weights_of, IsTable}
use Rattle.dfr_detect.specs.Sums.{AreSmall}
use Rattle.dfr_detect.specs.declared.sample.Sample.{Sample}
use Rattle.dfr_detect.specs.declared.turns.Turn.{Turn}
use Rattle.dfr_detect.specs.declared.turns.Weights.{Weights}
use Rattle.dfr_detect.specs.declared.turns.Shape.{Shape}
use Rattle.dfr_detect.specs.declared.turns.Pair.{Pair}
use Rattle.dfr_detect.specs.declared.waves.Phasor.{Phasor}

-- samples are numbered from 0 after a gap, and from 0 again after n - 1: the number after k
abbrev pub after : ℕ → ℕ → ℕ
after n k = if k + 1 == n then 0 else k + 1

-- and the one before it
abbrev pub before : ℕ → ℕ → ℕ
before n k = if k == 0 then n - 1 else k - 1

-- the number of the newest sample
abbrev pub number : ℕ → List Sample → ℕ
number n [] = n - 1
number n (x ∷ past) = after n (number n past)

-- the sum over all samples, where the newest has the number k
abbrev pub correlation : (ℕ → Sample → ℤ) → ℕ → ℕ → List Sample → ℤ
correlation f n k [] = pos 0
correlation f n k (x ∷ past) = f k x +ℤ correlation f n (before n k) past

-- the samples of the phases times their coefficients
abbrev pub weighed : ℤ → ℤ → ℤ → Sample → ℤ
weighed a b c x = a *ℤ x.a +ℤ b *ℤ x.b +ℤ c *ℤ x.c

abbrev pub real_of : Weights → Sample → ℤ
real_of w x = weighed w.a.cosine w.b.cosine w.c.cosine x

abbrev pub imaginary_of : Weights → Sample → ℤ
imaginary_of w x = weighed w.a.sine w.b.sine w.c.sine x

-- the parts of a phasor, in 16384ths
abbrev pub real : ℕ → Shape → ℕ → List Sample → ℤ
real n s k samples = correlation (λ i x. real_of (weights_of n s i) x) n k samples

abbrev pub imaginary : ℕ → Shape → ℕ → List Sample → ℤ
imaginary n s k samples = correlation (λ i x. imaginary_of (weights_of n s i) x) n k samples

-- the square of its magnitude, from parts without their fractions
abbrev pub part : ℤ → ℕ
part x = unsigned_abs x / 16_384

abbrev pub power : ℤ → ℤ → ℕ
power x y = part x * part x + part y * part y

abbrev pub power_of : ℕ → Shape → ℕ → List Sample → ℕ
power_of n s k samples = power (real n s k samples) (imaginary n s k samples)

-- what two waves keep: over how many samples they are taken, the waves, these samples, the number of the newest
pub record KeptWaves : Type 0 where
  pub scans : ℕ
  pub first : Shape
  pub other : Shape
  pub samples : List Sample
  pub number : ℕ

abbrev pub waves_by : ℕ → Shape → Shape → List Sample → ℕ → KeptWaves
waves_by scans first other samples number = record { scans = scans; first = first; other = other; samples = samples; number = number }

-- what is kept of the samples since the last gap
abbrev pub waves : ℕ → Shape → Shape → List Sample → KeptWaves
waves n first other samples = waves_by n first other (take n samples) (number n samples)

abbrev pub waves_after : KeptWaves → Sample → KeptWaves
waves_after w x = waves_by w.scans w.first w.other (take w.scans (x ∷ w.samples)) (after w.scans w.number)

abbrev pub waves_gone : KeptWaves → KeptWaves
waves_gone w = waves_by w.scans w.first w.other [] (w.scans - 1)

-- the sample that leaves, if one does
abbrev pub nothing : Sample
nothing = record { a = pos 0; b = pos 0; c = pos 0 }

abbrev pub gone : Option Sample → Sample
gone None = nothing
gone (Some x) = x

-- how much comes with one sample in place of another
abbrev pub less : Sample → Sample → Sample
less x gone = record { a = x.a -ℤ gone.a; b = x.b -ℤ gone.b; c = x.c -ℤ gone.c }

pub record IsChange (x : Sample) : Type 0 where
  pub a : unsigned_abs x.a ≤ 2 ^ 40
  pub b : unsigned_abs x.b ≤ 2 ^ 40
  pub c : unsigned_abs x.c ≤ 2 ^ 40

pub record IsTurn (t : Turn) : Type 0 where
  pub cosine : unsigned_abs t.cosine ≤ 2 ^ 14
  pub sine : unsigned_abs t.sine ≤ 2 ^ 14

pub record AreWeights (w : Weights) : Type 0 where
  pub a : IsTurn w.a
  pub b : IsTurn w.b
  pub c : IsTurn w.c

-- a phasor after this change of a sample
abbrev pub moved : Phasor → Weights → Sample → Phasor
moved p w x = record { real = p.real +ℤ real_of w x; imaginary = p.imaginary +ℤ imaginary_of w x }

-- the other phasor, which is none where the waves are the same
abbrev pub other_moved : Option Phasor → Weights → Sample → Option Phasor
other_moved (Some p) w x = Some (moved p w x)
other_moved None w x = None

abbrev pub either : Phasor → Option Phasor → Phasor
either one (Some p) = p
either one None = one

pub record IsPhasor (n : ℕ) (s : Shape) (k : ℕ) (samples : List Sample) (p : Phasor) : Type 0 where
  pub real : p.real ≡ real n s k samples
  pub imaginary : p.imaginary ≡ imaginary n s k samples

abbrev pub IsOther : ℕ → Shape → Shape → ℕ → List Sample → Option Phasor → Type 0
IsOther n first other k samples (Some p) = IsPhasor n other k samples p
IsOther n first other k samples None = first ≡ other

pub record IsWaves (n : ℕ) (first other : Shape) (samples : List Sample) (number : ℕ) (table : List Pair) (p : Phasor) (q : Option Phasor) : Type 0 where
  pub weights : IsTable n n first other table
  pub some : 1 ≤ n
  pub bounded : n ≤ 2 ^ 12
  pub small : All AreSmall samples
  pub few : length samples ≤ n
  pub low : number < n
  pub one : IsPhasor n first number samples p
  pub two : IsOther n first other number samples q
