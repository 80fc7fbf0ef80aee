-- The cycles of a signal. Samples are those since the last gap, the newest first. Times are in 65536ths of the time from scan to scan.
use Rattle.std.specs.Prelude.{ℕ, ℤ, pos, ◌+◌, ◌*◌, ◌-◌, ◌/◌, unsigned_abs, Bool, false, ◌&&◌, ◌||◌, not, int_lt, nat_le, if◌then◌else◌, List, [], ◌∷◌, map, slice_index_or}
use Rattle.dfr_detect.specs.Windows.{ago}
use Rattle.dfr_detect.specs.declared.settings.FrequencyIs.{FrequencyIs}
use Rattle.dfr_detect.specs.declared.settings.FrequencyIs.TheVariants.{Over, Under, Changing}
use Rattle.dfr_detect.specs.declared.settings.FrequencyTest.{FrequencyTest}

-- the newest sample is negative, and in the half wave that ends with it a sample is -least or below
abbrev pub dips : ℕ → List ℤ → Bool
dips least [] = false
dips least (x ∷ past) = int_lt x (pos 0) && (nat_le least (unsigned_abs x) || dips least past)

-- how long before a sample x the straight line to it from a sample -y meets 0
abbrev pub since_zero : ℕ → ℕ → ℕ
since_zero x y = (65_536 * x) / (x + y)

-- the signal crosses 0 upward at the newest sample, after such a half wave
abbrev pub rises : ℕ → ℤ → List ℤ → Bool
rises least x past = not (int_lt x (pos 0)) && dips least past

-- how long before the newest scan each crossing was, the newest first
abbrev pub crossings : ℕ → List ℤ → List ℕ
crossings least [] = []
crossings least (x ∷ past) =
    let before = map (λ age. age + 65_536) (crossings least past) in
    if rises least x past then since_zero (unsigned_abs x) (unsigned_abs (ago 0 past)) ∷ before else before

-- the time of so many scans
abbrev pub scans_time : ℕ → ℕ
scans_time n = n * 65_536

-- how long before the newest scan the crossing was that has j after it; if there is none, longer than n scans
abbrev pub age : ℕ → ℕ → List ℕ → ℕ
age n j ages = slice_index_or ages j (scans_time n + 1)

-- a frequency of at least the level, in mHz: so many cycles in this time, at so many scans a second
abbrev pub is_fast : FrequencyTest → ℕ → ℕ → Bool
is_fast t level time = nat_le (level * time) (1000 * t.rate * scans_time t.cycles)

-- at most the level
abbrev pub is_slow : FrequencyTest → ℕ → ℕ → Bool
is_slow t level time = nat_le (1000 * t.rate * scans_time t.cycles) (level * time)

-- how far two times are apart
abbrev pub apart : ℕ → ℕ → ℕ
apart a b = (a - b) + (b - a)

-- the frequencies of two times of so many cycles, one after the other, differ by at least the level, in mHz a second from the middle of
-- the one to the middle of the other
abbrev pub is_changing : FrequencyTest → ℕ → ℕ → ℕ → Bool
is_changing t level newer older =
    nat_le (level * (newer * older * (newer + older))) (2000 * t.cycles * (t.rate * 65_536 * (t.rate * 65_536)) * apart newer older)

-- how many cycles are looked at before the newest ones
abbrev pub cycles_before : FrequencyTest → ℕ
cycles_before t = elim t.test [ Over ↦ 0 | Under ↦ 0 | Changing ↦ t.cycles ]

-- the time of the newest cycles, and that of the cycles before them, meet the level
abbrev pub compares : FrequencyIs → FrequencyTest → ℕ → ℕ → ℕ → Bool
compares Over t level newer older = is_fast t level newer
compares Under t level newer older = is_slow t level newer
compares Changing t level newer older = is_changing t level newer older

-- all cycles that are looked at lie in the last n scans, and their times meet the level
abbrev pub has_frequency : FrequencyTest → ℕ → ℕ → List ℕ → Bool
has_frequency t n level ages =
    nat_le (age n (t.cycles + cycles_before t) ages) (scans_time n)
    && compares t.test t level (age n t.cycles ages - age n 0 ages) (age n (t.cycles + cycles_before t) ages - age n t.cycles ages)
